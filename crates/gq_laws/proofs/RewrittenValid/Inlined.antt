-- A valid project in which a spread became an inline fragment: no rule is broken.
use Rattle.std.proofs.Common.{◌≡◌, ℕ, zero, suc, ◌+◌, Bool, true, false, nat_eq, List, [], ◌∷◌, Option, Some, None, Contains, map, slice_get, inl, inr, refl, sym, ap, ◌∙◌, subst, arith}
use Rattle.std.specs.Prelude.{◌==◌, ◌&&◌}
use Rattle.std.specs.List.{AllByRecursion}
use Rattle.std.proofs.lemmas.Bool.Decides.{nat_tests}
use Rattle.gq_text.specs.declared.place.Span.{Span}
use Rattle.gq_fault.specs.declared.fault.Fault.{Fault}
use Rattle.gq_fault.specs.FaultPlaces.{fault_at}
use Rattle.gq_fault.specs.declared.code.Code.TheVariants.{FragmentNameNotUnique}
use Rattle.gq_tree.specs.declared.tree.OperationKind.{OperationKind}
use Rattle.gq_tree.specs.Forest.{none, more}
use Rattle.gq_tree.specs.Plain.{NameOf, DirectiveOf, Head, Sels, Def, erase_document}
use Rattle.gq_tree.specs.Readings.{ParsedOf, definitions_read}
use Rattle.gq_types.specs.Entries.{Text, EntryOf}
use Rattle.gq_types.specs.Roots.{root_of}
use Rattle.gq_types.proofs.Gathered.{and_parts}
use Rattle.gq_document.specs.Definitions.{OperationOf, FragmentOf, entries_of}
use Rattle.gq_document.specs.Selections.{IsSelectionWithin, here, within, after}
use Rattle.gq_document.specs.Executable.{ExecutableOf}
use Rattle.gq_fields.specs.FieldFaults.{IsFieldFault}
use Rattle.gq_fragments.specs.FragmentFaults.{IsFragmentFault, repeated_fragment_name}
use Rattle.gq_fragments.specs.OperationFaults.{IsOperationFault}
use Rattle.gq_spreads.specs.SpreadFaults.{IsSpreadFault}
use Rattle.gq_variables.specs.VariableFaults.{IsVariableFault}
use Rattle.gq_meaning.specs.Thin.{IsIn}
use Rattle.gq_meaning.specs.Rewritten.{Static}
use Rattle.gq_rewritten.specs.Rewrites.{head_place, same_place}
use Rattle.gq_rules.specs.Project.{type_system_of, executable_of}
use Rattle.gq_laws.specs.Rewriting.KnownBefore.{Each, EndsSet, ends_here, ends_within, ends_after}
use Rattle.gq_laws.specs.Rewriting.Places.{HoldsNone, AreNested}
use Rattle.gq_laws.specs.Rewriting.Documents.{EachFrom, OfSet, IsSetOf, EndsSetIn}
use Rattle.gq_laws.specs.Rewriting.Documents as documents
use Rattle.gq_laws.specs.Rewriting.Edits.{SpreadAt, inlining, GoesAs, IsLastSpread, CanInline}
use Rattle.gq_laws.specs.Rewriting.Statics.{static_of, roots_in}
use Rattle.gq_laws.proofs.Rewriting.Executables.{StandsIn, operation_def, fragment_def, operation_stands, fragment_stands, each_set}
use Rattle.gq_laws.proofs.Rewriting.Located.{set_at, same_start, bounds}
use Rattle.gq_laws.proofs.Rewriting.Parents.{parent_is}
use Rattle.gq_laws.specs.Placing.Places.{erase_read}
use Rattle.gq_laws.specs.Placing.Types.{IsFaultless, TreesSayWhatIsFaultless}
use Rattle.gq_laws.specs.RewrittenValid.Faultless.{AreFaultless}
use Rattle.gq_laws.specs.RewrittenValid.InlinedSpread.{IsCondition, IsItsFragment, IsSpreadElsewhere}
use Rattle.gq_laws.specs.RewrittenValid.Inlined.{InlinesKeepRule}
use Rattle.gq_laws.proofs.RewrittenValid.InlinedSets.{old_head, IsOnly}
use Rattle.gq_laws.proofs.RewrittenValid.InlinedProject.{inlined_from, operation_stays, inlined_executable, trees_forget, project_inlined}
use Rattle.gq_laws.proofs.RewrittenValid.InlinedFacts.{HasSet, in_operation, in_fragment, HasSpread, CanBeInlined}
use Rattle.gq_laws.proofs.RewrittenValid.InlinedFields.{no_field_fault}
use Rattle.gq_laws.proofs.RewrittenValid.InlinedFragments.{one_of_each, no_fragment_fault}
use Rattle.gq_laws.proofs.RewrittenValid.InlinedOnce.{first_in, IsItThere, once_in}
use Rattle.gq_laws.proofs.RewrittenValid.InlinedOperations.{no_operation_fault}
use Rattle.gq_laws.proofs.RewrittenValid.InlinedSpreads.{no_spread_fault}
use Rattle.gq_laws.proofs.RewrittenValid.InlinedVariables.{no_variable_fault}

-- what is so of each definition, by the number of its document
one_of : {D : Type 0} (IsSo : D → Type 0) (ds : List D) → AllByRecursion IsSo ds → (d : D) → IsIn d ds → IsSo d
one_of IsSo [] all d m = absurd m
one_of IsSo (x ∷ ds) all d (inl e) = subst IsSo (sym e) all.0
one_of IsSo (x ∷ ds) all d (inr m) = one_of IsSo ds all.1 d m

each_here : {D : Type 0} (IsSo : ℕ → D → Type 0) (file : ℕ) (trees : List (List D)) → EachFrom IsSo file trees → (k : ℕ) (tree : List D) → slice_get trees k ≡ Some tree → (d : D) → IsIn d tree →
    IsSo (file + k) d
each_here IsSo file [] all k tree e d m = absurd (cc)
each_here IsSo file (t ∷ trees) all zero tree e d m =
    let same : t ≡ tree = cc in
    let number : file ≡ file + 0 = omega arith in
    subst (λ n. IsSo n d) number (one_of (IsSo file) t all.0 d (subst (IsIn d) (sym same) m))
each_here IsSo file (t ∷ trees) all (suc k) tree e d m =
    let number : suc file + k ≡ file + suc k = omega arith in subst (λ n. IsSo n d) number (each_here IsSo (suc file) trees all.1 k tree e d m)

each_standing : (IsSo : ℕ → Def Span → Type 0) (trees : List (List (Def Span))) → EachFrom IsSo 0 trees → (file : ℕ) (d : Def Span) → StandsIn trees file d → IsSo file d
each_standing IsSo trees all file d at =
    let number : 0 + file ≡ file = omega arith in subst (λ n. IsSo n d) number (each_here IsSo 0 trees all file at.tree at.is_tree d at.stands)

same_number : (m n : ℕ) → nat_eq m n ≡ true → m ≡ n
same_number m n e = grind (arith, nat_tests)

at_itself : (k m n : ℕ) → (nat_eq k k && (m == m && n == n)) ≡ true
at_itself k m n = grind (arith, nat_tests)

-- the last selections of a set begin with one that stands in it
begins_within : (es : List EntryOf) (h : Head Span) (below rest : Sels Span) {t u : Text} {sels tail : Sels Span} → EndsSet (static_of es) t sels u tail → tail ≡ more h below rest →
    IsSelectionWithin es (Some t) sels (Some u) (record { label = h; below = below })
begins_within es h below rest {t} ends_here e = subst (λ z. IsSelectionWithin es (Some t) z (Some t) (record { label = h; below = below })) (sym e) here
begins_within es h below rest {t} {u} (ends_within {head = head} {below = b} k ends) e =
    within (subst (λ z. IsSelectionWithin es z b (Some u) (record { label = h; below = below })) (sym (parent_is es t head ∙ k)) (begins_within es h below rest ends e))
begins_within es h below rest (ends_after ends) e = after (begins_within es h below rest ends e)

-- at the place stands the spread alone
module _ (s : SpreadAt) (name : NameOf Span) (directives : List (DirectiveOf Span)) (file : ℕ) where
  only_that : (from to : ℕ) (set : Sels Span) → Each (IsItThere (old_head s name directives)) set → AreNested from to set → IsOnly s name directives file set
  only_that from to none all nested = tt
  only_that from to (more h below rest) all nested = (
    λ e. let same = all.0 (same_start (head_place h) s.place (and_parts (nat_eq s.file file) (same_place (head_place h) s.place) e).1) in (same, subst (λ z. HoldsNone z below) same nested.5),
    only_that ((head_place h).start + 1) (head_place h).end below all.1 nested.3,
    only_that (head_place h).end to rest all.2 nested.4,
  )

  only_elsewhere : nat_eq s.file file ≡ false → (set : Sels Span) → IsOnly s name directives file set
  only_elsewhere apart none = tt
  only_elsewhere apart (more h below rest) = (
    λ e. let there = (and_parts (nat_eq s.file file) (same_place (head_place h) s.place) e).0 in absurd (cc),
    only_elsewhere apart below,
    only_elsewhere apart rest,
  )

read_erased : (rs : List ParsedOf) → map erase_read rs ≡ map erase_document (map definitions_read rs)
read_erased [] = refl
read_erased (r ∷ rs) = ap (λ z. erase_read r ∷ z) (read_erased rs)

module _ (before : List ParsedOf) (old : Option Text) (s : SpreadAt)
    (can : CanInline (static_of (type_system_of before)) (roots_in (type_system_of before)) (map definitions_read before) old s) where
  abbrev x : ExecutableOf
  x = executable_of before

  abbrev es : List EntryOf
  es = type_system_of before

  abbrev static : Static
  static = static_of es

  abbrev roots : OperationKind → Text
  roots = roots_in es

  abbrev trees : List (List (Def Span))
  trees = map definitions_read before

  abbrev OnlyIn : ℕ → Sels Span → Type 0
  OnlyIn file set = IsOnly s can.name can.directives file set

  abbrev AreIt : Text → Sels Span → Type 0
  AreIt t set = Each (IsItThere (old_head s can.name can.directives)) set

  -- in the document of the spread
  those : AllByRecursion (OfSet roots AreIt) can.document.tree
  those =
      let ends = can.ends in
      once_in (old_head s can.name can.directives) roots 0 can.document.tree can.document.in_place ends.definition ends.stands ends.is_set
      (first_in static (old_head s can.name can.directives) can.below can.rest ends.ends refl)

  in_document : (file : ℕ) (d : Def Span) (t : Text) (set : Sels Span) → StandsIn trees file d → IsSetOf roots d t set → nat_eq s.file file ≡ true → OnlyIn file set
  in_document file d t set at is_set e =
      let number : s.file ≡ file = same_number s.file file e in
      let both : Some can.document.tree ≡ Some at.tree = sym can.document.is_tree ∙ ap (slice_get trees) number ∙ at.is_tree in
      let same : at.tree ≡ can.document.tree = cc in
      let m = subst (IsIn d) same at.stands in
      let b = bounds roots 0 can.document.tree can.document.in_place d m is_set in
      let each = set_at roots AreIt d is_set (one_of (OfSet roots AreIt) can.document.tree those d m) in
      only_that s can.name can.directives file b.from b.to set each b.nested

  only_in : (file : ℕ) (d : Def Span) (t : Text) (set : Sels Span) → StandsIn trees file d → IsSetOf roots d t set → OnlyIn file set
  only_in file d t set at is_set = by (nat_eq s.file file) refl
    where
      by : (b : Bool) → nat_eq s.file file ≡ b → OnlyIn file set
      by true e = in_document file d t set at is_set e
      by false e = only_elsewhere s can.name can.directives file e set

  only : (file : ℕ) (parent : Option Text) (set : Sels Span) → HasSet x file parent set → OnlyIn file set
  only file parent set (in_operation {o = o} c) = only_in o.file (operation_def o) (roots o.kind) o.set (operation_stands before o c) documents.of_operation
  only file parent set (in_fragment {f = f} c) = only_in f.file (fragment_def f) f.on.text f.set (fragment_stands before f c) documents.of_fragment

  last : (file : ℕ) (parent : Option Text) (set : Sels Span) → HasSet x file parent set → Each (IsLastSpread old s file) set
  last file parent set (in_operation {o = o} c) =
      each_standing (λ file d. OfSet roots (λ t set. Each (IsLastSpread old s file) set) d) trees can.last o.file (operation_def o) (operation_stands before o c)
  last file parent set (in_fragment {f = f} c) =
      each_standing (λ file d. OfSet roots (λ t set. Each (IsLastSpread old s file) set) d) trees can.last f.file (fragment_def f) (fragment_stands before f c)

  goes_as : (f : FragmentOf) → Contains x.fragments f → GoesAs (inlining s) old f.file (fragment_def f)
  goes_as f c = each_standing (GoesAs (inlining s) old) trees can.goes f.file (fragment_def f) (fragment_stands before f c)

  all_stay : (o : OperationOf) → Contains x.operations o → operation_stays s o ≡ true
  all_stay o c = by (operation_stays s o) refl
    where
      goes : GoesAs (inlining s) old o.file (operation_def o)
      goes = each_standing (GoesAs (inlining s) old) trees can.goes o.file (operation_def o) (operation_stands before o c)

      by : (b : Bool) → operation_stays s o ≡ b → operation_stays s o ≡ true
      by true e = e
      by false e = absurd (goes.0 e)

  abbrev InSome : ℕ → Text → Sels Span → Type 0
  InSome file t set = (parent : Option Text) × HasSet x file parent set

  has_sets : EachFrom (λ k d. OfSet roots (InSome k) d) 0 trees
  has_sets = each_set before roots InSome (λ o c. (root_of es o.kind, in_operation c)) (λ f c. (Some f.on.text, in_fragment c))

  host : HasSpread x s can.name can.directives
  host =
      let ends = can.ends in
      let there : StandsIn trees s.file ends.definition = record { tree = can.document.tree; is_tree = can.document.is_tree; stands = ends.stands } in
      let has = set_at roots (InSome s.file) ends.definition ends.is_set (each_standing (λ k d. OfSet roots (InSome k) d) trees has_sets s.file ends.definition there) in
      record {
        file = s.file;
        parent = has.0;
        set = ends.set;
        has = has.1;
        at = at_itself s.file s.place.start s.place.end;
        outer = Some ends.root;
        inner = Some can.parent;
        below = can.below;
        stands = begins_within es (old_head s can.name can.directives) can.below can.rest ends.ends refl;
      }

  pub can_be_inlined : IsItsFragment x can.name.text s → ((d : DirectiveOf Span) → Contains can.directives d → IsCondition d) → ((text : Text) → old ≡ Some text → text ≡ can.name.text) →
      (old ≡ None → IsSpreadElsewhere x can.name.text s) → AreFaultless x → CanBeInlined s x
  can_be_inlined its conditions same_name elsewhere all = record {
    old = old;
    name = can.name;
    directives = can.directives;
    own = entries_of before;
    is_entries = refl;
    its = its;
    conditions = conditions;
    host = host;
    only = only;
    all_stay = all_stay;
    goes = λ f c. (goes_as f c).0;
    gone = λ f c. (goes_as f c).1;
    last = last;
    other = can.other;
    same_name = same_name;
    elsewhere = elsewhere;
    one_name = one_of_each (λ (f : FragmentOf). f.name.text) x.fragments
        (λ f r. all.fragments (fault_at f.file FragmentNameNotUnique f.name) (repeated_fragment_name (record { later = f; is_repeated = r; is = refl })));
  }

-- What keeps a rule in the project with all places keeps it.
keeps : (IsFault : ExecutableOf → Fault → Type 0) → TreesSayWhatIsFaultless IsFault →
    ((s : SpreadAt) (x : ExecutableOf) → CanBeInlined s x → AreFaultless x → IsFaultless IsFault (inlined_executable s x)) → InlinesKeepRule IsFault
keeps IsFault law kept before edited old s entries is can its conditions same_name elsewhere all =
    law (inlined_from s 0 before) edited (read_erased (inlined_from s 0 before) ∙ trees_forget s 0 before ∙ sym is ∙ sym (read_erased edited))
    (subst (IsFaultless IsFault) (sym (project_inlined s before)) (kept s (executable_of before) (can_be_inlined before old s can its conditions same_name elsewhere all) all))

pub fields_kept : TreesSayWhatIsFaultless IsFieldFault → InlinesKeepRule IsFieldFault
fields_kept law = keeps IsFieldFault law (λ s x k all. no_field_fault s x k all.fields)

pub operations_kept : TreesSayWhatIsFaultless IsOperationFault → InlinesKeepRule IsOperationFault
operations_kept law = keeps IsOperationFault law (λ s x k all. no_operation_fault s x k all.operations)

pub fragments_kept : TreesSayWhatIsFaultless IsFragmentFault → InlinesKeepRule IsFragmentFault
fragments_kept law = keeps IsFragmentFault law (λ s x k all. no_fragment_fault s x k all.fragments)

pub spreads_kept : TreesSayWhatIsFaultless IsSpreadFault → InlinesKeepRule IsSpreadFault
spreads_kept law = keeps IsSpreadFault law (λ s x k all. no_spread_fault s x k all.spreads)

pub variables_kept : TreesSayWhatIsFaultless IsVariableFault → InlinesKeepRule IsVariableFault
variables_kept law = keeps IsVariableFault law (λ s x k all. no_variable_fault s x k all.variables)
