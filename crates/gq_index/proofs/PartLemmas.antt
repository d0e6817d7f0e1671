-- What the tables hold of parts is what they are to hold of the definitions of which these are the parts.
use Rattle.std.proofs.Common.{◌≡◌, ℕ, zero, suc, ◌+◌, Bool, List, [], ◌∷◌, ◌++◌, Some, map, refl, sym, ◌∙◌, ap}
use Rattle.std.specs.Prelude.{flat_map, slice_get}
use Rattle.std.specs.List.{enumerate_from}
use Rattle.std.specs.Str.{bytes_eq}
use Rattle.std.specs.Borrow.{Bor}
use Rattle.std.proofs.lemmas.List.{map-append}
use Rattle.std.proofs.lemmas.List.Elements.{filter-append}
use Rattle.std.proofs.lemmas.Option.{none-some, same_Some}
use Rattle.gq_text.specs.declared.place.Span.{Span}
use Rattle.gq_tree.specs.Names.{names_in}
use Rattle.gq_tree.specs.Plain.{NameOf, Def, operation, fragment, type_system}
use Rattle.gq_tree.specs.Readings.{ParsedOf, definitions_read, in_document}
use Rattle.gq_types.specs.Entries.{Text}
use Rattle.gq_index.specs.declared.files.File.{File}
use Rattle.gq_index.specs.declared.occurrence.Occurrence.{Occurrence}
use Rattle.gq_index.specs.Occurrences.{DefinitionOf, executable_in, executables, is_operation, fragment_name, spreads_in, place_of, called, occurrences_of, fragment_definitions, fragment_spreads, fragment_occurrences, definition_places}
use Rattle.gq_index.specs.Parts.{PartOf, part_of, part_in, parts_in}
use Rattle.gq_index.specs.Views.{parts_kept}
use Rattle.gq_index.specs.Helping.PlacedParts.{PartAt, part_at, parts_at, placed, placed_from, definitions_at, spreads_at, names_at_all, places_at, operations_at}

pub definitions_same : (ds : List DefinitionOf) (text : Text) → definitions_at (parts_at ds) text ≡ fragment_definitions ds text
definitions_same [] text = refl
definitions_same (d ∷ ds) text = ap (λ (l : List Occurrence). occurrences_of d.file text (fragment_name d.definition) ++ l) (definitions_same ds text)

pub spreads_same : (ds : List DefinitionOf) (text : Text) → spreads_at (parts_at ds) text ≡ fragment_spreads ds text
spreads_same [] text = refl
spreads_same (d ∷ ds) text = ap (λ (l : List Occurrence). occurrences_of d.file text (spreads_in d.definition) ++ l) (spreads_same ds text)

-- the names in a definition are its own and those of its spreads
own_and_spreads : (d : Def Span) → fragment_name d ++ spreads_in d ≡ names_in d
own_and_spreads (operation kind name variables directives set braces place) = refl
own_and_spreads (fragment name on directives set braces place) = refl
own_and_spreads (type_system definition) = refl

occurrences_both : (file : ℕ) (text : Text) (xs ys : List (NameOf Span)) → occurrences_of file text xs ++ occurrences_of file text ys ≡ occurrences_of file text (xs ++ ys)
occurrences_both file text xs ys =
    let as_occurrence : NameOf Span → Occurrence = λ n. record { file = file; span = n.place } in
    sym (ap (map as_occurrence) (filter-append (λ (n : NameOf Span). bytes_eq text n.text) xs ys) ∙ map-append as_occurrence (called text xs) (called text ys))

occurrences_in_one : (text : Text) (d : DefinitionOf) → occurrences_of d.file text (fragment_name d.definition) ++ occurrences_of d.file text (spreads_in d.definition) ≡ occurrences_of d.file text (names_in d.definition)
occurrences_in_one text d = occurrences_both d.file text (fragment_name d.definition) (spreads_in d.definition) ∙ ap (occurrences_of d.file text) (own_and_spreads d.definition)

pub names_same : (ds : List DefinitionOf) (text : Text) → names_at_all (parts_at ds) text ≡ fragment_occurrences ds text
names_same [] text = refl
names_same (d ∷ ds) text =
    ap (λ (l : List Occurrence). l ++ names_at_all (parts_at ds) text) (occurrences_in_one text d)
    ∙ ap (λ (l : List Occurrence). occurrences_of d.file text (names_in d.definition) ++ l) (names_same ds text)

pub places_same : (ds : List DefinitionOf) → places_at (parts_at ds) ≡ definition_places ds
places_same [] = refl
places_same (d ∷ ds) = ap (λ (l : List Occurrence). record { file = d.file; span = place_of d.definition } ∷ l) (places_same ds)

pub operations_same : (ds : List DefinitionOf) → operations_at (parts_at ds) ≡ map (λ d. is_operation d.definition) ds
operations_same [] = refl
operations_same (d ∷ ds) = ap (λ (l : List Bool). is_operation d.definition ∷ l) (operations_same ds)

-- the part of a number is that of a definition of that number, and the other way
pub of_definition : (ds : List DefinitionOf) (n : ℕ) (p : PartAt) → slice_get (parts_at ds) n ≡ Some p → (d : DefinitionOf) × (slice_get ds n ≡ Some d) × (part_at d ≡ p)
of_definition [] n p at = absurd (none-some p at)
of_definition (d ∷ ds) zero p at = (d, refl, same_Some (part_at d) p at)
of_definition (d ∷ ds) (suc n) p at = of_definition ds n p at

pub part_there : (ds : List DefinitionOf) (n : ℕ) (d : DefinitionOf) → slice_get ds n ≡ Some d → slice_get (parts_at ds) n ≡ Some (part_at d)
part_there [] n d at = absurd (none-some d at)
part_there (e ∷ ds) zero d at = ap (λ (x : DefinitionOf). Some (part_at x)) (same_Some e d at)
part_there (e ∷ ds) (suc n) d at = part_there ds n d at

-- the parts of documents are those of their definitions
placed_in_one : (file : ℕ) (ds : List (Def Span)) → placed file (flat_map part_in ds) ≡ parts_at (flat_map (executable_in file) ds)
placed_in_one file [] = refl
placed_in_one file (operation kind name variables directives set braces place ∷ ds) = ap (λ (ps : List PartAt). record { file = file; part = part_of (operation kind name variables directives set braces place) } ∷ ps) (placed_in_one file ds)
placed_in_one file (fragment name on directives set braces place ∷ ds) = ap (λ (ps : List PartAt). record { file = file; part = part_of (fragment name on directives set braces place) } ∷ ps) (placed_in_one file ds)
placed_in_one file (type_system definition ∷ ds) = placed_in_one file ds

placed_same_from : (file : ℕ) (rs : List ParsedOf) → placed_from file (map parts_in rs) ≡ parts_at (flat_map (λ r. in_document executable_in r.0 r.1) (enumerate_from file rs))
placed_same_from file [] = refl
placed_same_from file (r ∷ rs) =
    let first : List DefinitionOf = in_document executable_in file r in
    let rest : List DefinitionOf = flat_map (λ s. in_document executable_in s.0 s.1) (enumerate_from (file + 1) rs) in
    ap (λ (ps : List PartAt). ps ++ placed_from (file + 1) (map parts_in rs)) (placed_in_one file (definitions_read r))
    ∙ ap (λ (ps : List PartAt). parts_at first ++ ps) (placed_same_from (file + 1) rs)
    ∙ sym (map-append part_at first rest)

pub placed_same : (rs : List ParsedOf) → placed_from 0 (map parts_in rs) ≡ parts_at (executables rs)
placed_same rs = placed_same_from 0 rs

-- what is kept of documents that are lent
pub kept_lent : (fs : List (Bor File)) → map (λ f. parts_kept f.now) fs ≡ map parts_kept (map (λ f. f.now) fs)
kept_lent [] = refl
kept_lent (f ∷ fs) = ap (λ (l : List (List PartOf)). parts_kept f.now ∷ l) (kept_lent fs)
