-- Spreads, and the fragments that they reach, in definitions that are equal but for their places, or also for the names of variables.
use Rattle.std.proofs.Common.{◌≡◌, ℕ, List, [], ◌∷◌, map, flat_map, refl, sym, ap, ◌∙◌, Contains}
use Rattle.gq_text.specs.declared.place.Span.{Span}
use Rattle.gq_tree.specs.Forest.{labels, relabel}
use Rattle.gq_tree.specs.Plain.{Head, field, spread, inline, Sels, place_head, no_place, erase_all}
use Rattle.gq_tree.specs.Readings.{ParsedOf}
use Rattle.gq_tree.specs.Names.{spread_name, spread_names}
use Rattle.gq_tree.proofs.ForestLemmas.{relabel_labels}
use Rattle.gq_types.specs.Entries.{Text}
use Rattle.gq_document.specs.Definitions.{OperationOf, FragmentOf, operations_of, fragments_of}
use Rattle.gq_document.specs.Reaches.{Reaches}
use Rattle.gq_spreads.specs.SpreadFaults.{IsSpreadFault}
use Rattle.gq_renamed.specs.Renamings.{Renaming}
use Rattle.gq_rules.specs.Files.{together}
use Rattle.gq_laws.specs.Placing.Places.{erase_operation, erase_fragment, PlacesDoNotMatter}
use Rattle.gq_laws.specs.Placing.Names.{shown_name, named_head, ChangesNoFragment, VariableRenamesKeepFaultless}
use Rattle.gq_types.proofs.Placing.Lists.{weaken}
use Rattle.gq_laws.proofs.Placing.Forgetting.{all_three}
use Rattle.gq_laws.proofs.Placing.DefinitionFaults.{fragment_name}
use Rattle.gq_laws.proofs.Placing.Documents.{named_operation, named_fragment, operations_named, fragments_named}
use Rattle.gq_laws.proofs.Placing.SpreadNames.{spread_texts, spreads_operation, spreads_fragment, both, reaches_by, same_spreads}
use Rattle.gq_laws.proofs.Placing.Renames.{AreRenamed, names_stay}

-- the texts of the names of spreads
heads_erased : (hs : List (Head Span)) → map (λ n. n.text) (flat_map spread_name hs) ≡ map (λ n. n.text) (flat_map spread_name (map (place_head no_place) hs))
heads_erased [] = refl
heads_erased ((field alias name arguments directives braces place) ∷ hs) = heads_erased hs
heads_erased ((spread name directives place) ∷ hs) = ap (λ z. name.text ∷ z) (heads_erased hs)
heads_erased ((inline on directives braces place) ∷ hs) = heads_erased hs

spreads_erased : (ss : Sels Span) → spread_texts ss ≡ map (λ n. n.text) (spread_names (erase_all ss))
spreads_erased ss = heads_erased (labels ss) ∙ ap (λ z. map (λ n. n.text) (flat_map spread_name z)) (sym (relabel_labels (place_head no_place) ss))

names_alike : (ss ts : Sels Span) → erase_all ss ≡ erase_all ts → spread_texts ss ≡ spread_texts ts
names_alike ss ts e = spreads_erased ss ∙ ap (λ z. map (λ n. n.text) (spread_names z)) e ∙ sym (spreads_erased ts)

-- what definitions that are equal but for their places have in common
pub fragment_set : (f g : FragmentOf) → erase_fragment f ≡ erase_fragment g → erase_all f.set ≡ erase_all g.set
fragment_set f g e = let defs = ap (λ z. z.1) e in cc

pub operation_set : (o p : OperationOf) → erase_operation o ≡ erase_operation p → erase_all o.set ≡ erase_all p.set
operation_set o p e = let defs = ap (λ z. z.1) e in cc

pub operation_spreads : (o p : OperationOf) → erase_operation o ≡ erase_operation p → spreads_operation o ≡ spreads_operation p
operation_spreads o p e = both (ap (λ z. z.0) e) (names_alike o.set p.set (operation_set o p e))

pub fragment_spreads : (f g : FragmentOf) → erase_fragment f ≡ erase_fragment g → spreads_fragment f ≡ spreads_fragment g
fragment_spreads f g e = all_three (ap (λ z. z.0) e) (fragment_name f g e) (names_alike f.set g.set (fragment_set f g e))

-- Reachability goes by the names of fragments.
pub reaches_too : (fs gs : List FragmentOf) → map erase_fragment fs ≡ map erase_fragment gs → {ss : Sels Span} {f : FragmentOf} → Reaches fs ss f →
    (ts : Sels Span) → erase_all ss ≡ erase_all ts → (g : FragmentOf) → Contains gs g → erase_fragment f ≡ erase_fragment g → Reaches gs ts g
reaches_too fs gs ef {ss} {f} r ts e g d same = reaches_by fs gs (weaken erase_fragment spreads_fragment fragment_spreads fs gs ef) r ts (names_alike ss ts e) g d (fragment_spreads f g same)

pub spreads_alike : PlacesDoNotMatter IsSpreadFault
spreads_alike x y s f h =
    same_spreads x y (weaken erase_operation spreads_operation operation_spreads x.operations y.operations s.operations)
    (weaken erase_fragment spreads_fragment fragment_spreads x.fragments y.fragments s.fragments) f h

-- the same of definitions that are equal but for places and the names of variables
abbrev itself : Text → Text
itself text = text

heads_named : (hs : List (Head Span)) → map (λ n. n.text) (flat_map spread_name hs) ≡ map (λ n. n.text) (flat_map spread_name (map (named_head itself) hs))
heads_named [] = refl
heads_named ((field alias name arguments directives braces place) ∷ hs) = heads_named hs
heads_named ((spread name directives place) ∷ hs) = ap (λ z. name.text ∷ z) (heads_named hs)
heads_named ((inline on directives braces place) ∷ hs) = heads_named hs

spreads_named : (ss : Sels Span) → spread_texts ss ≡ map (λ n. n.text) (spread_names (relabel (named_head itself) ss))
spreads_named ss = heads_named (labels ss) ∙ ap (λ z. map (λ n. n.text) (flat_map spread_name z)) (sym (relabel_labels (named_head itself) ss))

named_alike : (ss ts : Sels Span) → relabel (named_head itself) ss ≡ relabel (named_head itself) ts → spread_texts ss ≡ spread_texts ts
named_alike ss ts e = spreads_named ss ∙ ap (λ z. map (λ n. n.text) (spread_names z)) e ∙ sym (spreads_named ts)

operation_named : (o p : OperationOf) → named_operation itself o ≡ named_operation itself p → spreads_operation o ≡ spreads_operation p
operation_named o p e =
    let defs = ap (λ z. z.1) e in
    let sets : relabel (named_head itself) o.set ≡ relabel (named_head itself) p.set = cc in
    both (ap (λ z. z.0) e) (named_alike o.set p.set sets)

fragment_named : (f g : FragmentOf) → named_fragment itself f ≡ named_fragment itself g → spreads_fragment f ≡ spreads_fragment g
fragment_named f g e =
    let defs = ap (λ z. z.1) e in
    let sets : relabel (named_head itself) f.set ≡ relabel (named_head itself) g.set = cc in
    let names : shown_name itself f.name ≡ shown_name itself g.name = cc in
    all_three (ap (λ z. z.0) e) (ap (λ z. z.text) names) (named_alike f.set g.set sets)

-- What is spread in fragments is the same before and after variables are renamed.
pub fragments_spread : (rule : ℕ → Renaming) (new : Text) → ChangesNoFragment rule → (before after : List ParsedOf) →
    AreRenamed rule new before after → map spreads_fragment (fragments_of after) ≡ map spreads_fragment (fragments_of before)
fragments_spread rule new stay before after e =
    weaken (named_fragment itself) spreads_fragment fragment_named (fragments_of after) (fragments_of before)
    (fragments_named itself itself before after (names_stay rule new stay before after e))

operations_spread : (rule : ℕ → Renaming) (new : Text) → ChangesNoFragment rule → (before after : List ParsedOf) →
    AreRenamed rule new before after → map spreads_operation (operations_of after) ≡ map spreads_operation (operations_of before)
operations_spread rule new stay before after e =
    weaken (named_operation itself) spreads_operation operation_named (operations_of after) (operations_of before)
    (operations_named itself itself before after (names_stay rule new stay before after e))

pub variable_renames_keep_spreads : VariableRenamesKeepFaultless IsSpreadFault
variable_renames_keep_spreads es rule new before after stay e none f h =
    let g = same_spreads (together es after) (together es before) (operations_spread rule new stay before after e) (fragments_spread rule new stay before after e) f h in
    none g.0 g.1
