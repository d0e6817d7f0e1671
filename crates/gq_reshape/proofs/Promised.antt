-- What the validity of a project promises of its selections, fragments and documents.
use Rattle.std.proofs.Common.{◌≡◌, ◌⊎◌, inl, inr, ℕ, suc, Bool, true, false, List, [], ◌∷◌, ◌++◌, Option, Some, None, map, Contains, refl, sym, ap, ◌∙◌, subst, arith}
use Rattle.std.specs.Prelude.{if◌then◌else◌}
use Rattle.std.specs.List.{AllByRecursion}
use Rattle.std.specs.Str.{bytes_eq}
use Rattle.std.proofs.lemmas.List.Elements.{Contains-append_left, Contains-append_right}
use Rattle.gq_text.specs.declared.place.Span.{Span}
use Rattle.gq_tree.specs.declared.tree.OperationKind.TheVariants as operation_kind
use Rattle.gq_tree.specs.Forest.{labels}
use Rattle.gq_tree.specs.Forest as forest
use Rattle.gq_tree.specs.Names.{spread_name, spread_names}
use Rattle.gq_tree.specs.Plain as tree
use Rattle.gq_tree.specs.Plain.{NameOf, Head, Sel, Sels}
use Rattle.gq_project.specs.declared.document.Doc.{Doc}
use Rattle.gq_names.specs.Repeats.{IsRepeated}
use Rattle.gq_fault.specs.declared.code.Code.TheVariants.{UnknownFragment, FragmentNameNotUnique}
use Rattle.gq_fault.specs.declared.fault.Fault.{Fault}
use Rattle.gq_parse.specs.Parsed.{AreParsed}
use Rattle.gq_types.specs.Entries.{Text, EntryOf}
use Rattle.gq_types.proofs.Gathered.{nothing_in, first, later, cases_cons, only, to_flat}
use Rattle.gq_tree.specs.Readings.{ParsedOf, definitions_read}
use Rattle.gq_document.specs.Definitions.{OperationOf, FragmentOf, operations_of, fragments_of}
use Rattle.gq_document.specs.Executable.{ExecutableOf}
use Rattle.gq_document.specs.Selections.{SelectedOf, IsSelectionWithin, here, within, after, of_operation, of_fragment}
use Rattle.gq_fault.specs.FaultPlaces as places
use Rattle.gq_spreads.specs.FragmentSpreadTargetDefined as target
use Rattle.gq_spreads.specs.FragmentSpreadTargetDefined.{IsSpreadName, IsUnknownFragment}
use Rattle.gq_spreads.specs.FragmentSpreadsMustNotFormCycles.{IsFragmentCycle}
use Rattle.gq_spreads.specs.SpreadFaults.{unknown_fragment, fragment_cycle}
use Rattle.gq_fragments.specs.FragmentFaults.{repeated_fragment_name}
use Rattle.gq_rules.specs.Project.{type_system_of}
use Rattle.gq_rules.specs.RuleFaults.{IsRuleFault, of_spreads, of_fragments}
use Rattle.gq_rules.specs.Validity.{IsValid}
use Rattle.gq_meaning.specs.Expand.{Definition, find_definition}
use Rattle.gq_meaning.specs.Acyclic.{IsRanked}
use Rattle.gq_collect.specs.Fragments.{definition_of}
use Rattle.gq_laws.proofs.Rewriting.Fragments.{are_ranked}
use Rattle.gq_laws.specs.Rewriting.Documents.{definitions_of, IsSpreadDefined}
use Rattle.gq_laws.specs.Rewriting.Statics.{seen_fragment}
use Rattle.gq_laws.proofs.Rewriting.Executables.{trees_read, fragments_seen, Rooted, Selected}
use Rattle.gq_laws.proofs.Rewriting.ValidityLemmas.{NoneIsBoth, operations_have, parents_known}
use Rattle.gq_laws.proofs.Renaming.Promises.{nothing_demanded, of_one_kind}
use Rattle.gq_laws.proofs.Renaming.RuleLemmas.{search_text}
use Rattle.gq_laws.proofs.Renaming.SameTypes.{AreOfOneKind}
use Rattle.gq_laws.proofs.Renaming.ValidityLemmas.{no_rule, no_document_is_mixed}
use Rattle.gq_laws.proofs.RewrittenValid.OneName.{one_named}

-- ---- spreads

pub label_in : {es : List EntryOf} {parent inner : Option Text} {sels : Sels Span} {s : Sel Span} → IsSelectionWithin es parent sels inner s → Contains (labels sels) s.label
label_in (here {head = head} {below = below} {rest = rest}) = first head head (labels below ++ labels rest) refl
label_in {s = s} (within {head = head} {below = below} {rest = rest} w) = later head s.label (labels below ++ labels rest) (Contains-append_left (labels below) (labels rest) s.label (label_in w))
label_in {s = s} (after {head = head} {below = below} {rest = rest} w) = later head s.label (labels below ++ labels rest) (Contains-append_right (labels below) (labels rest) s.label (label_in w))

name_in : {es : List EntryOf} {parent inner : Option Text} {sels : Sels Span} {s : Sel Span} → IsSelectionWithin es parent sels inner s → (name : NameOf Span) → Contains (spread_name s.label) name → Contains (spread_names sels) name
name_in {sels = sels} {s = s} w name c = to_flat spread_name (labels sels) s.label name (label_in w) c

-- a fragment of the name is found
found_some : (fs : List FragmentOf) (f : FragmentOf) (name : Text) → Contains fs f → f.name.text ≡ name → (d : Definition) × (find_definition (map seen_fragment fs) name ≡ Some d)
found_some [] f name c e = nothing_in f c
found_some (g ∷ fs) f name c e = by (bytes_eq name g.name.text) refl (cases_cons g f fs c) (λ d. found_some fs f name d e)
  where
    by : (b : Bool) → bytes_eq name g.name.text ≡ b → (g ≡ f) ⊎ Contains fs f → (Contains fs f → (d : Definition) × (find_definition (map seen_fragment fs) name ≡ Some d)) → (d : Definition) × (find_definition (map seen_fragment (g ∷ fs)) name ≡ Some d)
    by true t w next = (seen_fragment g, ap (λ (b : Bool). if b then Some (seen_fragment g) else find_definition (map seen_fragment fs) name) t)
    by false t (inl q) next =
        let same : name ≡ g.name.text = sym e ∙ ap (λ (h : FragmentOf). h.name.text) (sym q) in
        let bad : bytes_eq name g.name.text ≡ true = Rattle.gq_meaning.proofs.TextLemmas.text_same name g.name.text same in
        absurd (let f : true ≡ false = sym bad ∙ t in cc)
    by false t (inr d) next = let i = next d in (i.0, ap (λ (b : Bool). if b then Some (seen_fragment g) else find_definition (map seen_fragment fs) name) t ∙ i.1)

abbrev pub project_over : List EntryOf → List ParsedOf → ExecutableOf
project_over es readings = record { entries = es; operations = operations_of readings; fragments = fragments_of readings }

module _ (es : List EntryOf) (rs : List ParsedOf) (no_fault : (fault : Fault) → IsRuleFault (project_over es rs) fault → ⊥) where
  is_spread_name : (s : SelectedOf) → Selected rs es s → (name : NameOf Span) → Contains (spread_name s.selection.label) name → IsSpreadName (project_over es rs) s.file name
  is_spread_name s (of_operation c w) name d = target.of_operation c (name_in w.1 name d) w.0
  is_spread_name s (of_fragment c w) name d = target.of_fragment c (name_in w.1 name d) w.0

  -- each spread is of a fragment
  spread_defined : (s : SelectedOf) → Selected rs es s → IsSpreadDefined (definitions_of (trees_read rs)) s.selection.label
  spread_defined s c = by s.selection.label (is_spread_name s c)
    where
      by : (h : Head Span) → ((name : NameOf Span) → Contains (spread_name h) name → IsSpreadName (project_over es rs) s.file name) → IsSpreadDefined (definitions_of (trees_read rs)) h
      by (tree.field alias name arguments directives braces place) is_name = tt
      by (tree.inline on directives braces place) is_name = tt
      by (tree.spread name directives place) is_name = elim (search_text (λ (f : FragmentOf). f.name.text) (fragments_of rs) name.text) [
        | inl f ↦
            let P : List Definition → Type 0 = λ ds. (d : Definition) × (find_definition ds name.text ≡ Some d) in
            subst P (sym (fragments_seen rs)) (found_some (fragments_of rs) f.0 name.text f.1 f.2)
        | inr nowhere ↦ absurd (no_fault (places.fault_at s.file UnknownFragment name) (of_spreads (unknown_fragment (record {
          file = s.file;
          name = name;
          is_spread = is_name name (first name name [] refl);
          is_unknown = λ f c same. nowhere f c (sym same);
          is = refl;
        }))))
      ]

  -- fragments have one name each
  fragment_unique : (f : FragmentOf) → Contains (fragments_of rs) f → (g : FragmentOf) → Contains (fragments_of rs) g → g.name.text ≡ f.name.text → g ≡ f
  fragment_unique f c g d e =
      one_named (λ (f : FragmentOf). f.name.text) (fragments_of rs)
      (λ x r. no_fault (places.fault_at x.file FragmentNameNotUnique x.name) (of_fragments (repeated_fragment_name (record { later = x; is_repeated = r; is = refl })))) f g c d e

  -- an operation that asks for nothing, beside the fragments
  no_operation : OperationOf
  no_operation = record {
    file = 0;
    kind = operation_kind.Query;
    name = None;
    variables = [];
    directives = [];
    set = forest.none;
    braces = record { start = 0; end = 0 };
    place = record { start = 0; end = 0 };
  }

  abbrev alone : ExecutableOf
  alone = record { entries = []; operations = no_operation ∷ []; fragments = fragments_of rs }

  no_cycle : (fault : Fault) → IsFragmentCycle alone fault → ⊥
  no_cycle fault c = no_fault fault (of_spreads (fragment_cycle (record {
    fragment = c.fragment;
    stands = c.stands;
    name = c.name;
    is_spread = c.is_spread;
    target = c.target;
    target_stands = c.target_stands;
    is_named = c.is_named;
    leads_back = c.leads_back;
    is = c.is;
  })))

  not_of_it : (o : OperationOf) (name : NameOf Span) {A : Type 0} → Contains (no_operation ∷ []) o → Contains (spread_names o.set) name → A
  unfolding no_operation
  not_of_it o name c d =
      let e : o ≡ no_operation = only no_operation o c in
      nothing_in name (subst (λ (p : OperationOf). Contains (spread_names p.set) name) e d)

  same_spread : (file : ℕ) (name : NameOf Span) → IsSpreadName alone file name → IsSpreadName (project_over es rs) file name
  same_spread file name (target.of_operation {o = o} c d e) = not_of_it o name c d
  same_spread file name (target.of_fragment c d e) = target.of_fragment c d e

  no_unknown : (fault : Fault) → IsUnknownFragment alone fault → ⊥
  no_unknown fault u = no_fault fault (of_spreads (unknown_fragment (record { file = u.file; name = u.name; is_spread = same_spread u.file u.name u.is_spread; is_unknown = u.is_unknown; is = u.is })))

  -- fragments are ranked
  fragments_ranked : (rank : Text → ℕ) × IsRanked rank (definitions_of (trees_read rs))
  fragments_ranked =
      let r = are_ranked alone no_cycle no_unknown no_operation (first no_operation no_operation [] refl) in
      let seen : definitions_of (trees_read rs) ≡ map definition_of (fragments_of rs) = fragments_seen rs in
      (r.0, subst (IsRanked r.0) (sym seen) r.1)

-- All that is promised.
pub record Promised (es : List EntryOf) (rs : List ParsedOf) : Type 0 where
  pub rooted : Rooted rs es
  pub known : (s : SelectedOf) → Selected rs es s → (p : Text) × (s.parent ≡ Some p)
  pub defined : (s : SelectedOf) → Selected rs es s → IsSpreadDefined (definitions_of (trees_read rs)) s.selection.label
  pub unique : (f : FragmentOf) → Contains (fragments_of rs) f → (g : FragmentOf) → Contains (fragments_of rs) g → g.name.text ≡ f.name.text → g ≡ f
  pub ranked : (rank : Text → ℕ) × IsRanked rank (definitions_of (trees_read rs))
  pub one_kind : AllByRecursion (λ r. AreOfOneKind (definitions_read r)) rs

pub promised : NoneIsBoth → (documents : List Doc) → ∥ IsValid documents ∥₁ → (rs : List ParsedOf) → AreParsed documents rs → Promised (type_system_of rs) rs
promised apart documents valid rs are =
    let nothing = nothing_demanded apart in
    let no_fault = no_rule nothing documents rs valid are in
    let roots = operations_have apart documents valid rs are in
    let parents = parents_known apart documents valid rs are in
    record {
      rooted = λ o c. let t = roots o c in (t.type_name, t.is);
      known = λ s c. let p = parents s c in (p.type_name, p.is);
      defined = spread_defined (type_system_of rs) rs no_fault;
      unique = fragment_unique (type_system_of rs) rs no_fault;
      ranked = fragments_ranked (type_system_of rs) rs no_fault;
      one_kind = of_one_kind rs (no_document_is_mixed nothing documents rs valid are);
    }
