-- A removal keeps each rule, since it does so with all places kept, and places do not matter.
use Rattle.std.proofs.Common.{◌≡◌, ℕ, Bool, true, false, List, [], ◌∷◌, ◌++◌, Some, map, nat_eq, Contains, refl, sym, ap, ◌∙◌, subst}
use Rattle.std.specs.Prelude.{if◌then◌else◌}
use Rattle.std.specs.List.{enumerate_from}
use Rattle.gq_text.specs.declared.place.Span.{Span}
use Rattle.gq_fault.specs.declared.fault.Fault.{Fault}
use Rattle.gq_tree.specs.Plain.{erase_document}
use Rattle.gq_tree.specs.Readings.{ParsedOf, definitions_read, in_document}
use Rattle.gq_types.specs.BuiltIn.{built_in}
use Rattle.gq_types.specs.Entries.{EntryOf}
use Rattle.gq_types.specs.Roots.{root_of}
use Rattle.gq_document.specs.Definitions.{OperationOf, FragmentOf, fragment_in, operations_of, fragments_of}
use Rattle.gq_document.specs.Executable.{ExecutableOf}
use Rattle.gq_fields.specs.FieldFaults.{IsFieldFault}
use Rattle.gq_fragments.specs.OperationFaults.{IsOperationFault}
use Rattle.gq_fragments.specs.FragmentFaults.{IsFragmentFault}
use Rattle.gq_spreads.specs.SpreadFaults.{IsSpreadFault}
use Rattle.gq_variables.specs.VariableFaults.{IsVariableFault}
use Rattle.gq_rewritten.specs.Rewrites.{rewritten_from, without_braces}
use Rattle.gq_rules.specs.Project.{type_system_of, executable_of}
use Rattle.gq_laws.specs.Rewriting.Edits.{removal, CanRemove}
use Rattle.gq_laws.specs.Rewriting.Statics.{static_of, roots_in}
use Rattle.gq_laws.specs.Placing.Places.{erase_read}
use Rattle.gq_laws.specs.Placing.Types.{IsFaultless, TreesSayWhatIsFaultless}
use Rattle.gq_laws.specs.RewrittenValid.Removed.{AreRooted, RemovalsKeepRule}
use Rattle.gq_laws.proofs.RewrittenValid.Placed.{changed_from, changed_fragment, without_such, operations_changed, entries_changed, new_fragments, fragments_changed, changed_is_rewritten}
use Rattle.gq_laws.proofs.RewrittenValid.Opened.{opened, opened_erased, OnlyNothing}
use Rattle.gq_laws.proofs.RewrittenValid.Only.{only_in_operation, only_in_fragment}
use Rattle.gq_laws.proofs.RewrittenValid.Kept.{fields_kept, operations_kept}
use Rattle.gq_laws.proofs.RewrittenValid.KeptFragments.{fragments_kept}
use Rattle.gq_laws.proofs.RewrittenValid.KeptVariables.{variables_kept}
use Rattle.gq_laws.proofs.RewrittenValid.Removed as removed

pub read_erased : (rs : List ParsedOf) → map erase_document (map definitions_read rs) ≡ map erase_read rs
read_erased [] = refl
read_erased (r ∷ rs) = ap (λ z. erase_read r ∷ z) (read_erased rs)

abbrev pub executable_from : List EntryOf → List OperationOf → List FragmentOf → ExecutableOf
executable_from es os fs = record { entries = built_in ++ es; operations = os; fragments = fs }

pub executables_same : {es us : List EntryOf} {os ps : List OperationOf} {fs gs : List FragmentOf} → es ≡ us → os ≡ ps → fs ≡ gs → executable_from es os fs ≡ executable_from us ps gs
executables_same {es} {us} {os} {ps} {fs} {gs} e o f = ap (λ z. executable_from z os fs) e ∙ ap (λ z. executable_from us z fs) o ∙ ap (λ z. executable_from us ps z) f

module _ (before : List ParsedOf) (file : ℕ) (place : Span) where
  abbrev between : List ParsedOf
  between = changed_from file (opened place) [] 0 before

  abbrev es : List EntryOf
  es = type_system_of before

  abbrev no_fragments : List FragmentOf
  no_fragments = []

  no_new : (b : Bool) → (if b then no_fragments else []) ≡ no_fragments
  no_new true = refl
  no_new false = refl

  between_fragments : fragments_of between ≡ map (changed_fragment file (opened place)) (fragments_of before)
  between_fragments =
      fragments_changed file (opened place) [] before
      ∙ without_such (λ (r : ℕ × ParsedOf). in_document fragment_in r.0 r.1) (λ r. new_fragments file (opened place) [] r.0) (changed_fragment file (opened place)) (enumerate_from 0 before)
      (λ r. no_new (nat_eq file r.0))

  module _ (rooted : AreRooted before) (can : CanRemove (static_of es) (roots_in es) (map definitions_read before) file place) where
    of_operations : (o : OperationOf) → Contains (operations_of before) o → nat_eq file o.file ≡ true → OnlyNothing es place (root_of es o.kind) o.set
    of_operations = only_in_operation es before rooted file can.document can.parent can.head can.below can.rest can.ends place can.at can.says

    of_fragments : (f : FragmentOf) → Contains (fragments_of before) f → nat_eq file f.file ≡ true → OnlyNothing es place (Some f.on.text) f.set
    of_fragments = only_in_fragment es before rooted file can.document can.parent can.head can.below can.rest can.ends place can.at can.says

    abbrev after : ExecutableOf
    after = removed.y es (operations_of before) (fragments_of before) file place of_operations of_fragments

    between_is : executable_of between ≡ after
    between_is = executables_same (entries_changed file (opened place) [] (λ n. refl) before) (operations_changed file (opened place) [] (λ n. refl) before) between_fragments

    by_rule : (IsFault : ExecutableOf → Fault → Type 0) → TreesSayWhatIsFaultless IsFault → (IsFaultless IsFault (executable_of before) → IsFaultless IsFault after) → (rs : List ParsedOf) →
        map erase_document (map definitions_read rs) ≡ rewritten_from (removal file place) 0 (map definitions_read before) → IsFaultless IsFault (executable_of before) →
        IsFaultless IsFault (executable_of rs)
    by_rule IsFault trees rule rs is faultless =
        trees between rs (changed_is_rewritten file (opened place) [] (without_braces place) [] (opened_erased place) refl before ∙ sym is ∙ read_erased rs)
        (subst (IsFaultless IsFault) (sym between_is) (rule faultless))

    abbrev os : List OperationOf
    os = operations_of before

    abbrev fs : List FragmentOf
    fs = fragments_of before

    fields : IsFaultless IsFieldFault (executable_of before) → IsFaultless IsFieldFault after
    fields = fields_kept es os after.operations fs after.fragments (removed.keeps es os fs file place of_operations of_fragments)

    operations : IsFaultless IsOperationFault (executable_of before) → IsFaultless IsOperationFault after
    operations = operations_kept es os after.operations fs after.fragments (removed.keeps es os fs file place of_operations of_fragments)

    fragments : IsFaultless IsFragmentFault (executable_of before) → IsFaultless IsFragmentFault after
    fragments = fragments_kept es os after.operations fs after.fragments (removed.keeps es os fs file place of_operations of_fragments)
        (removed.keeps_fragments es os fs file place of_operations of_fragments)

    spreads : IsFaultless IsSpreadFault (executable_of before) → IsFaultless IsSpreadFault after
    spreads = removed.spreads_kept es os fs file place of_operations of_fragments

    variables : IsFaultless IsVariableFault (executable_of before) → IsFaultless IsVariableFault after
    variables = variables_kept es os after.operations fs after.fragments (removed.has_uses es os fs file place of_operations of_fragments)

pub removals_keep_fields : TreesSayWhatIsFaultless IsFieldFault → RemovalsKeepRule IsFieldFault
removals_keep_fields trees before rs file place e is rooted can faultless = by_rule before file place rooted can IsFieldFault trees (fields before file place rooted can) rs is faultless

pub removals_keep_operations : TreesSayWhatIsFaultless IsOperationFault → RemovalsKeepRule IsOperationFault
removals_keep_operations trees before rs file place e is rooted can faultless = by_rule before file place rooted can IsOperationFault trees (operations before file place rooted can) rs is faultless

pub removals_keep_fragments : TreesSayWhatIsFaultless IsFragmentFault → RemovalsKeepRule IsFragmentFault
removals_keep_fragments trees before rs file place e is rooted can faultless = by_rule before file place rooted can IsFragmentFault trees (fragments before file place rooted can) rs is faultless

pub removals_keep_spreads : TreesSayWhatIsFaultless IsSpreadFault → RemovalsKeepRule IsSpreadFault
removals_keep_spreads trees before rs file place e is rooted can faultless = by_rule before file place rooted can IsSpreadFault trees (spreads before file place rooted can) rs is faultless

pub removals_keep_variables : TreesSayWhatIsFaultless IsVariableFault → RemovalsKeepRule IsVariableFault
removals_keep_variables trees before rs file place e is rooted can faultless = by_rule before file place rooted can IsVariableFault trees (variables before file place rooted can) rs is faultless
