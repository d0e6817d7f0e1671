-- What is read of a valid project before and after the edit of a rename has the same calls.
use Rattle.std.proofs.Common.{◌≡◌, ℕ, List, Option, Some, refl, sym, ap, subst, ◌∙◌}
use Rattle.gq_parse.proofs.OneReading.{OneTree}
use Rattle.gq_document.specs.Definitions.{OperationOf}
use Rattle.gq_document.specs.Executable.{ExecutableOf}
use Rattle.gq_index.specs.Occurrences.{executables}
use Rattle.gq_renamed.specs.Renamings.{Renaming, fragment_called}
use Rattle.gq_cut.specs.Cut.{variable_in}
use Rattle.gq_rules.specs.Project.{type_system_of, executable_of}
use Rattle.gq_table.specs.Rows.{RowOf}
use Rattle.gq_meaning.specs.Values.{Text, Values}
use Rattle.gq_meaning.specs.Results.{Call}
use Rattle.gq_executor.specs.Operations.{operation_of}
use Rattle.gq_laws.specs.Rewriting.Answerable.{RequestsHaveAResponse}
use Rattle.gq_laws.specs.Renaming.Helping.Alike.{TakesAlike, ArgumentsAlike, VariablesAlike}
use Rattle.gq_laws.proofs.Renaming.Keeping.{executing_is, same_types}
use Rattle.gq_laws.proofs.Renaming.PairedLemmas.{are_paired, operations_among, operations_are, executing}
use Rattle.gq_laws.proofs.Renaming.Promises.{NoneIsMixedIn, SpreadsAreDefinedIn, VariablesAreDefinedIn}
use Rattle.gq_law_calls.specs.Calls.{AreCalls}
use Rattle.gq_law_calls.specs.Steps.{FragmentRenamesKeepCalls, VariableRenamesKeepCalls}
use Rattle.gq_law_calls.proofs.FragmentCalls.{fragment_calls_go}
use Rattle.gq_law_calls.proofs.OneList.{both_ways}
use Rattle.gq_law_calls.proofs.VariableCalls.{variable_calls_go}

-- the same calls, where what executes is equal to these
go_by : (x x_is y y_is : ExecutableOf) (rows : List RowOf) (name : Option Text) (raw raw_after : Values) → x ≡ x_is → y ≡ y_is →
    ((calls : List Call) → AreCalls x_is rows name raw calls → AreCalls y_is rows name raw_after calls) →
    (calls : List Call) → AreCalls x rows name raw calls → AreCalls y rows name raw_after calls
go_by x x_is y y_is rows name raw raw_after e f go calls h =
    subst (λ (z : ExecutableOf). AreCalls z rows name raw_after calls) (sym f) (go calls (subst (λ (z : ExecutableOf). AreCalls z rows name raw calls) e h))

module _ (one_tree : OneTree) (unmixed : NoneIsMixedIn) (have : RequestsHaveAResponse) where
  pub fragment_renames_keep_calls : SpreadsAreDefinedIn → FragmentRenamesKeepCalls
  fragment_renames_keep_calls promise documents before after old new valid h free differs rows name raw =
      let rule : ℕ → Renaming = λ n. fragment_called old in
      let es = type_system_of before in
      both_ways (executable_of before) (executable_of after) rows name raw raw (have documents valid before h.are_read rows name raw).1
      (go_by (executable_of before) (executing es (executables before)) (executable_of after) (executing es (executables after)) rows name raw raw
      (executing_is before es refl) (executing_is after es (same_types one_tree unmixed rule new documents before after valid h))
      (fragment_calls_go old new es (executables before) (executables after) (are_paired rule new before after h.renamed) (promise documents before valid h.are_read) free rows name raw))

  pub variable_renames_keep_calls : VariablesAreDefinedIn → TakesAlike → ArgumentsAlike → VariablesAlike → VariableRenamesKeepCalls
  variable_renames_keep_calls promise takes arguments variables documents before after old new definition group valid h members free differs rows name raw raw_after given =
      let rule : ℕ → Renaming = variable_in group old in
      let es = type_system_of before in
      let ds = executables before in
      let meant : (o : OperationOf) → operation_of (operations_among ds) name ≡ Some o → operation_of (executable_of before).operations name ≡ Some o =
      (λ o e. ap (λ (os : List OperationOf). operation_of os name) (operations_are before) ∙ e) in
      both_ways (executable_of before) (executable_of after) rows name raw raw_after (have documents valid before h.are_read rows name raw).1
      (go_by (executable_of before) (executing es ds) (executable_of after) (executing es (executables after)) rows name raw raw_after
      (executing_is before es refl) (executing_is after es (same_types one_tree unmixed rule new documents before after valid h))
      (variable_calls_go takes arguments variables old new definition group ds (executables after) (are_paired rule new before after h.renamed) members
      (promise documents before valid h.are_read) free es rows name raw raw_after
      (λ n o e stands g. given.in_group n o (meant o e) stands g) (λ n o e stands g. given.others n o (meant o e) stands g)))
