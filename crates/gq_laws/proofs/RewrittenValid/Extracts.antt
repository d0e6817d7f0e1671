-- An extract keeps each rule, since it does so with all places kept, and places do not matter.
use Rattle.std.proofs.Common.{◌≡◌, ◌≢◌, ◌⊎◌, ⊎_elim, inl, inr, ℕ, Bool, true, false, List, [], ◌∷◌, ◌++◌}
use Rattle.std.proofs.Common.{Option, Some, None, map, flat_map, slice_get, nat_eq, Contains, refl, sym, ap, ◌∙◌, subst, arith}
use Rattle.std.specs.Prelude.{if◌then◌else◌}
use Rattle.std.specs.List.{enumerate_from}
use Rattle.std.specs.Str.{bytes_eq}
use Rattle.std.proofs.lemmas.Bool.Decides.{nat_tests}
use Rattle.std.proofs.lemmas.List.{map-append}
use Rattle.std.proofs.lemmas.Option.{same_Some}
use Rattle.gq_text.specs.declared.place.Span.{Span}
use Rattle.gq_fault.specs.declared.fault.Fault.{Fault}
use Rattle.gq_tree.specs.Forest.{row}
use Rattle.gq_tree.specs.Plain.{Sels, Def, operation, fragment, erase_all, erase_document}
use Rattle.gq_tree.specs.Readings.{ParsedOf, definitions_read, in_document}
use Rattle.gq_types.specs.Entries.{Text, EntryOf}
use Rattle.gq_types.specs.Possible.{IsPossible, itself, member, declaring}
use Rattle.gq_types.specs.Roots.{root_of}
use Rattle.gq_types.proofs.Gathered.{cases_cons, nothing_in}
use Rattle.gq_document.specs.Definitions.{OperationOf, FragmentOf, fragment_in, operations_of, fragments_of}
use Rattle.gq_document.specs.Executable.{ExecutableOf}
use Rattle.gq_fields.specs.FieldFaults.{IsFieldFault}
use Rattle.gq_fragments.specs.OperationFaults.{IsOperationFault}
use Rattle.gq_fragments.specs.FragmentFaults.{IsFragmentFault}
use Rattle.gq_spreads.specs.SpreadFaults.{IsSpreadFault, unknown_fragment}
use Rattle.gq_variables.specs.VariableFaults.{IsVariableFault}
use Rattle.gq_merging.specs.FieldsMerge.{IsMergingFault}
use Rattle.gq_meaning.specs.Thin.{IsIn}
use Rattle.gq_meaning.specs.Expand.{find_definition}
use Rattle.gq_meaning.proofs.TextLemmas.{text_same}
use Rattle.gq_rewritten.specs.Rewrites.{rewritten_from, with_extracted, bare_name}
use Rattle.gq_rules.specs.Project.{type_system_of, executable_of}
use Rattle.gq_laws.specs.Rewriting.Documents.{OfSet, IsSetOf, EndsSetIn}
use Rattle.gq_laws.specs.Rewriting.Documents as documents
use Rattle.gq_laws.specs.Rewriting.Edits.{RunAt, extraction, CanExtract}
use Rattle.gq_laws.specs.Rewriting.Statics.{static_of, roots_in, seen_fragment}
use Rattle.gq_laws.proofs.Rewriting.Conditions.{HoldsOrAvoids}
use Rattle.gq_laws.proofs.Rewriting.Executables.{fragments_seen, read_as, root_is, operation_def, fragment_def, operation_stands, fragment_stands}
use Rattle.gq_laws.proofs.Rewriting.Located.{bounds, each_in}
use Rattle.gq_laws.proofs.Rewriting.Once.{RunFits, run_in}
use Rattle.gq_laws.specs.Placing.Merging.{FieldsThatAreKeptMerge}
use Rattle.gq_laws.specs.Placing.Types.{IsFaultless, TreesSayWhatIsFaultless}
use Rattle.gq_laws.specs.RewrittenValid.Faultless.{AreFaultless}
use Rattle.gq_laws.specs.RewrittenValid.Removed.{AreRooted}
use Rattle.gq_laws.specs.RewrittenValid.Extracted.{ExtractsKeepRule}
use Rattle.gq_laws.proofs.RewrittenValid.Placed.{changed_from, changed_at, changed_fragment, operations_changed, entries_changed, new_fragments, fragments_changed, changed_is_rewritten}
use Rattle.gq_laws.proofs.RewrittenValid.Only.{operation_at, fragment_at, operation_there, fragment_there}
use Rattle.gq_laws.proofs.RewrittenValid.Moved.{IsMoved, extracted, a_spread, extracted_erased, moved_by, moved_or_same}
use Rattle.gq_laws.proofs.RewrittenValid.Inserted.{Inserted, inserted_at}
use Rattle.gq_laws.proofs.RewrittenValid.Kept.{fields_kept, operations_kept}
use Rattle.gq_laws.proofs.RewrittenValid.KeptFragments.{IsComposite, fragments_kept}
use Rattle.gq_laws.proofs.RewrittenValid.KeptVariables.{variables_kept}
use Rattle.gq_laws.proofs.RewrittenValid.Extracted as done
use Rattle.gq_laws.proofs.RewrittenValid.ExtractedMerging.{has_sets}
use Rattle.gq_laws.proofs.RewrittenValid.Removals.{read_erased, executables_same}

number_is : (m n : ℕ) → nat_eq m n ≡ true → n ≡ m
number_is m n e = grind (arith, nat_tests)

same_number : (m n : ℕ) → n ≡ m → nat_eq m n ≡ true
same_number m n e = grind (arith, nat_tests, e)

map_gathered : {X A : Type 0} (f : X → List A) (h : A → A) (xs : List X) → flat_map (λ x. map h (f x)) xs ≡ map h (flat_map f xs)
map_gathered f h [] = refl
map_gathered f h (x ∷ xs) = ap (λ z. map h (f x) ++ z) (map_gathered f h xs) ∙ sym (map-append h (f x) (flat_map f xs))

-- no fragment has a name of which none is found
none_named : (name : Text) (fs : List FragmentOf) → find_definition (map seen_fragment fs) name ≡ None → (f : FragmentOf) → Contains fs f → f.name.text ≢ name
none_named name [] free f c e = nothing_in f c
none_named name (g ∷ fs) free f c e = by (bytes_eq name g.name.text) refl (cases_cons g f fs c) (λ k d. none_named name fs k f d e)
  where
    by : (b : Bool) → bytes_eq name g.name.text ≡ b → (g ≡ f) ⊎ Contains fs f → (find_definition (map seen_fragment fs) name ≡ None → Contains fs f → ⊥) → ⊥
    by true t which next =
        let found : (if true then Some (seen_fragment g) else find_definition (map seen_fragment fs) name) ≡ None =
        subst (λ z. (if z then Some (seen_fragment g) else find_definition (map seen_fragment fs) name) ≡ None) t free in
        cc
    by false t (inl q) next = let same : bytes_eq name g.name.text ≡ true = text_same name g.name.text (sym (ap (λ z. z.name.text) q ∙ e)) in cc
    by false t (inr d) next = next (subst (λ z. (if z then Some (seen_fragment g) else find_definition (map seen_fragment fs) name) ≡ None) t free) d

-- a type for which some object is possible
composite_type : (es : List EntryOf) {on object : Text} → IsPossible es on object → IsComposite es on
composite_type es (itself k) = record { kind = _; is_kind = k; composite = refl }
composite_type es (member k has o) = record { kind = _; is_kind = k; composite = refl }
composite_type es (declaring k declares o) = record { kind = _; is_kind = k; composite = refl }

module _ (before : List ParsedOf) (e : RunAt) where
  abbrev es : List EntryOf
  es = type_system_of before

  abbrev os : List OperationOf
  os = operations_of before

  abbrev fs : List FragmentOf
  fs = fragments_of before

  abbrev at : Span
  at = record { start = e.start; end = e.end }

  abbrev run : Sels Span
  run = row e.run

  abbrev change : Sels Span → Sels Span
  change = extracted e.start e.end (a_spread e.name at)

  abbrev added : List (Def Span)
  added = fragment (record { text = e.name; place = at }) (record { text = e.on; place = at }) [] run at at ∷ []

  abbrev between : List ParsedOf
  between = changed_from e.file change added 0 before

  abbrev gs : List FragmentOf
  gs = fragments_of between

  abbrev new : FragmentOf
  new = done.new es os fs gs e.file change e.on run e.name at

  abbrev becomes_fragment : FragmentOf → FragmentOf
  becomes_fragment = changed_fragment e.file change

  -- the new fragment stands at the end of those of its document
  new_here : (k : ℕ) → nat_eq e.file k ≡ true → new_fragments e.file change added k ≡ new ∷ []
  new_here k q = ap (λ z. if z then flat_map (fragment_in k) added else []) q ∙ ap (λ z. flat_map (fragment_in z) added) (number_is e.file k q)

  none_here : (k : ℕ) → nat_eq e.file k ≡ false → new_fragments e.file change added k ≡ []
  none_here k q = ap (λ z. if z then flat_map (fragment_in k) added else []) q

  module _ (rooted : AreRooted before) (can : CanExtract (static_of es) (roots_in es) (map definitions_read before) e) where
    abbrev document : List (Def Span)
    document = can.document.tree

    is_inserted : Inserted new (map becomes_fragment fs) gs
    is_inserted =
        let r = read_as before e.file document can.document.is_tree in
        let i = inserted_at e.file (λ r. map becomes_fragment (in_document fragment_in r.0 r.1)) (new_fragments e.file change added) new new_here none_here 0 e.file
        (omega arith) before r.reading r.there in
        subst (λ z. Inserted new z gs) (map_gathered (λ r. in_document fragment_in r.0 r.1) becomes_fragment (enumerate_from 0 before))
        (subst (λ z. Inserted new (flat_map (λ r. map becomes_fragment (in_document fragment_in r.0 r.1)) (enumerate_from 0 before)) z) (sym (fragments_changed e.file change added before)) i)

    abbrev Fits : Def Span → Type 0
    Fits = OfSet (roots_in es) (HoldsOrAvoids (static_of es) e.start e.end e.on e.run)

    fits : RunFits (static_of es) (roots_in es) e.start e.end e.on e.run can.first can.last 0 document
    fits = run_in (static_of es) (roots_in es) e.start e.end e.on e.run can.first can.last 0 document can.document.in_place can.others can.ends

    fit_at : (d : Def Span) → IsIn d document → Fits d
    fit_at d m = each_in Fits 0 (document ∷ []) (fits.fit, tt) document (inl refl) d m

    abbrev Moved : Option Text → Sels Span → Sels Span → Type 0
    Moved = IsMoved es e.on run e.name at

    abbrev HoldsOrStays : ℕ → Option Text → Sels Span → Sels Span → Type 0
    HoldsOrStays n parent set set' = ((n ≡ e.file) × Moved parent set set') ⊎ (set' ≡ set)

    same_document : (n : ℕ) (tree : List (Def Span)) → nat_eq e.file n ≡ true → slice_get (map definitions_read before) n ≡ Some tree → tree ≡ document
    same_document n tree q there = same_Some tree document (sym there ∙ ap (slice_get (map definitions_read before)) (number_is e.file n q) ∙ can.document.is_tree)

    parent_is : (o : OperationOf) → Contains os o → Some (roots_in es o.kind) ≡ root_of es o.kind
    parent_is o c = let t = rooted o c in ap Some (root_is before es o.kind t.0 t.1) ∙ sym t.1

    state_by : (n : ℕ) (t : Text) (parent : Option Text) (set : Sels Span) → Some t ≡ parent → (b : Bool) → nat_eq e.file n ≡ b →
        (nat_eq e.file n ≡ true → HoldsOrAvoids (static_of es) e.start e.end e.on e.run t set) →
        HoldsOrStays n parent set (if b then change set else set)
    state_by n t parent set p false q holds = inr refl
    state_by n t parent set p true q holds =
        ⊎_elim (λ m. inl (number_is e.file n q, subst (λ z. Moved z set (change set)) p m)) (λ same. inr same)
        (moved_or_same es e.start e.end e.on e.run e.name at can.first can.last t set fits.is_some (holds q))

    operation_state : (o : OperationOf) → Contains os o → HoldsOrStays o.file (root_of es o.kind) o.set (changed_at e.file change o.file o.set)
    operation_state o c =
        let there = operation_stands before o c in
        state_by o.file (roots_in es o.kind) (root_of es o.kind) o.set (parent_is o c) (nat_eq e.file o.file) refl
        (λ q. fit_at (operation_def o) (subst (IsIn (operation_def o)) (same_document o.file there.tree q there.is_tree) there.stands))

    fragment_state : (f : FragmentOf) → Contains fs f → HoldsOrStays f.file (Some f.on.text) f.set (changed_at e.file change f.file f.set)
    fragment_state f c =
        let there = fragment_stands before f c in
        state_by f.file f.on.text (Some f.on.text) f.set refl (nat_eq e.file f.file) refl
        (λ q. fit_at (fragment_def f) (subst (IsIn (fragment_def f)) (same_document f.file there.tree q there.is_tree) there.stands))

    abbrev Holder : Type 0
    Holder = done.Holder es os fs gs e.file change e.on run e.name at

    -- what holds the run
    changed_there : (n : ℕ) → n ≡ e.file → (parent : Option Text) (set : Sels Span) → Moved parent set (change set) → (n ≡ e.file) × Moved parent set (changed_at e.file change n set)
    changed_there n q parent set m = (q, subst (λ b. Moved parent set (if b then change set else set)) (sym (same_number e.file n q)) m)

    held_by : (d : Def Span) (t : Text) (set : Sels Span) → IsSetOf (roots_in es) d t set → IsIn d document → Moved (Some t) set (change set) → Holder
    held_by d t set (documents.of_operation {kind} {name} {variables} {directives} {set = own} {braces} {place}) there m =
        let r = read_as before e.file document can.document.is_tree in
        let o = operation_at e.file kind name variables directives own braces place in
        let c = operation_there before e.file r.reading r.there kind name variables directives own braces place
        (subst (IsIn (operation kind name variables directives own braces place)) (sym r.is) there) in
        done.an_operation o c (changed_there o.file (omega arith) (root_of es kind) own (subst (λ z. Moved z own (change own)) (parent_is o c) m))
    held_by d t set (documents.of_fragment {name} {on} {directives} {set = own} {braces} {place}) there m =
        let r = read_as before e.file document can.document.is_tree in
        let f = fragment_at e.file name on directives own braces place in
        let c = fragment_there before e.file r.reading r.there name on directives own braces place (subst (IsIn (fragment name on directives own braces place)) (sym r.is) there) in
        done.a_fragment f c (changed_there f.file (omega arith) (Some on.text) own m)

    is_held : Holder
    is_held =
        let ends = can.ends in
        let b = bounds (roots_in es) 0 document can.document.in_place ends.definition ends.stands ends.is_set in
        held_by ends.definition ends.root ends.set ends.is_set ends.stands
        (moved_by es e.start e.end e.on e.run e.name at can.first can.last ends.root ends.set b.from b.to b.nested can.others ends.ends)

    is_fresh : (f : FragmentOf) → Contains fs f → f.name.text ≢ e.name
    is_fresh f c = none_named e.name fs (subst (λ z. find_definition z e.name ≡ None) (fragments_seen before) can.free) f c

    module _ (object : Text) (possible : IsPossible es e.on object) (faultless : AreFaultless (executable_of before)) where
      is_extracted : done.IsExtracted es os fs gs e.file change e.on run e.name at
      is_extracted = record {
        inserted = is_inserted;
        operation = operation_state;
        fragment = fragment_state;
        holder = is_held;
        fresh = is_fresh;
        not_spread = λ n m s q. faultless.spreads _ (unknown_fragment (record { file = n; name = m; is_spread = s; is_unknown = λ f c k. is_fresh f c (sym k ∙ q); is = refl }));
        composite = composite_type es possible;
        possible = λ h. h.none_is_possible object possible possible;
      }

      abbrev after : ExecutableOf
      after = done.y es os fs gs e.file change e.on run e.name at

      between_is : executable_of between ≡ after
      between_is = executables_same (entries_changed e.file change added (λ n. refl) before) (operations_changed e.file change added (λ n. refl) before) refl

      by_rule : (IsFault : ExecutableOf → Fault → Type 0) → TreesSayWhatIsFaultless IsFault → IsFaultless IsFault after → (rs : List ParsedOf) →
          map erase_document (map definitions_read rs) ≡ rewritten_from (extraction e) 0 (map definitions_read before) → IsFaultless IsFault (executable_of rs)
      by_rule IsFault trees none_now rs is =
          trees between rs
          (changed_is_rewritten e.file change added (with_extracted e.start e.end e.name) (fragment (bare_name e.name) (bare_name e.on) [] (erase_all run) tt tt ∷ [])
          (extracted_erased e.start e.end e.name at) refl before ∙ sym is ∙ read_erased rs)
          (subst (IsFaultless IsFault) (sym between_is) none_now)

      fields : IsFaultless IsFieldFault after
      fields = fields_kept es os after.operations fs gs (done.keeps es os fs gs e.file change e.on run e.name at is_extracted) faultless.fields

      operations : IsFaultless IsOperationFault after
      operations = operations_kept es os after.operations fs gs (done.keeps es os fs gs e.file change e.on run e.name at is_extracted) faultless.operations

      fragments : IsFaultless IsFragmentFault after
      fragments =
          fragments_kept es os after.operations fs gs (done.keeps es os fs gs e.file change e.on run e.name at is_extracted)
          (done.keeps_fragments es os fs gs e.file change e.on run e.name at is_extracted) faultless.fragments

      spreads : IsFaultless IsSpreadFault after
      spreads = done.spreads_kept es os fs gs e.file change e.on run e.name at is_extracted faultless.spreads

      variables : IsFaultless IsVariableFault after
      variables = variables_kept es os after.operations fs gs (done.has_uses es os fs gs e.file change e.on run e.name at is_extracted) faultless.variables

      merging : FieldsThatAreKeptMerge → IsFaultless IsMergingFault after
      merging law = law after (executable_of before) refl (has_sets es os fs gs e.file change e.on run e.name at is_extracted) faultless.merging

pub extracts_keep_fields : TreesSayWhatIsFaultless IsFieldFault → ExtractsKeepRule IsFieldFault
extracts_keep_fields trees before rs e object is rooted can possible faultless = by_rule before e rooted can object possible faultless IsFieldFault trees
    (fields before e rooted can object possible faultless) rs is

pub extracts_keep_operations : TreesSayWhatIsFaultless IsOperationFault → ExtractsKeepRule IsOperationFault
extracts_keep_operations trees before rs e object is rooted can possible faultless = by_rule before e rooted can object possible faultless IsOperationFault trees
    (operations before e rooted can object possible faultless) rs is

pub extracts_keep_fragments : TreesSayWhatIsFaultless IsFragmentFault → ExtractsKeepRule IsFragmentFault
extracts_keep_fragments trees before rs e object is rooted can possible faultless = by_rule before e rooted can object possible faultless IsFragmentFault trees
    (fragments before e rooted can object possible faultless) rs is

pub extracts_keep_spreads : TreesSayWhatIsFaultless IsSpreadFault → ExtractsKeepRule IsSpreadFault
extracts_keep_spreads trees before rs e object is rooted can possible faultless = by_rule before e rooted can object possible faultless IsSpreadFault trees
    (spreads before e rooted can object possible faultless) rs is

pub extracts_keep_variables : TreesSayWhatIsFaultless IsVariableFault → ExtractsKeepRule IsVariableFault
extracts_keep_variables trees before rs e object is rooted can possible faultless = by_rule before e rooted can object possible faultless IsVariableFault trees
    (variables before e rooted can object possible faultless) rs is

pub extracts_keep_merging : TreesSayWhatIsFaultless IsMergingFault → FieldsThatAreKeptMerge → ExtractsKeepRule IsMergingFault
extracts_keep_merging trees law before rs e object is rooted can possible faultless = by_rule before e rooted can object possible faultless IsMergingFault trees
    (merging before e rooted can object possible faultless law) rs is
