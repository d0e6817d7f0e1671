-- What is read of a project before and after the edit of a rename has the same responses.
use Rattle.std.proofs.Common.{◌≡◌, ℕ, List, ◌++◌, Option, Some, refl, sym, ap, subst, ◌∙◌}
use Rattle.std.specs.Prelude.{◌↔◌}
use Rattle.gq_project.specs.declared.document.Doc.{Doc}
use Rattle.gq_tree.specs.Readings.{ParsedOf}
use Rattle.gq_types.specs.BuiltIn.{built_in}
use Rattle.gq_types.specs.Entries.{EntryOf}
use Rattle.gq_document.specs.Definitions.{OperationOf, FragmentOf}
use Rattle.gq_document.specs.Executable.{ExecutableOf}
use Rattle.gq_parse.proofs.OneReading.{OneTree}
use Rattle.gq_index.specs.Occurrences.{executables}
use Rattle.gq_renamed.specs.Renamings.{Renaming, fragment_called}
use Rattle.gq_cut.specs.Cut.{variable_in}
use Rattle.gq_rules.specs.Project.{type_system_of, executable_of}
use Rattle.gq_rules.specs.Validity.{IsValid}
use Rattle.gq_table.specs.Rows.{RowOf}
use Rattle.gq_meaning.specs.Values.{Text, Values}
use Rattle.gq_response.specs.Responses.{ResponseOf}
use Rattle.gq_executor.specs.Operations.{operation_of, IsResponse}
use Rattle.gq_laws.specs.Renaming.Kept.{AreRenamed, FragmentRenamesKeep, VariableRenamesKeep}
use Rattle.gq_laws.specs.Renaming.Helping.Alike.{TakesAlike, ArgumentsAlike, VariablesAlike}
use Rattle.gq_laws.specs.Renaming.Helping.Paired.{VariableRenamesAnswerAlike}
use Rattle.gq_laws.proofs.Renaming.SameTypes.{same_entries}
use Rattle.gq_laws.proofs.Renaming.PairedLemmas.{are_paired, operations_among, operations_are, fragments_are, executing}
use Rattle.gq_laws.proofs.Renaming.FragmentKept.{fragment_kept}
use Rattle.gq_laws.proofs.Renaming.VariableKept.{variable_kept}
use Rattle.gq_laws.proofs.Renaming.Promises.{NoneIsMixedIn, SpreadsAreDefinedIn, VariablesAreDefinedIn, of_one_kind}

-- what executes a project, by its executable definitions
pub executing_is : (rs : List ParsedOf) (es : List EntryOf) → type_system_of rs ≡ es → executable_of rs ≡ executing es (executables rs)
executing_is rs es e =
    ap (λ (x : List EntryOf). let y : ExecutableOf = record { entries = x; operations = (executable_of rs).operations; fragments = (executable_of rs).fragments } in y) e
    ∙ ap (λ (x : List OperationOf). let y : ExecutableOf = record { entries = es; operations = x; fragments = (executable_of rs).fragments } in y) (operations_are rs)
    ∙ ap (λ (x : List FragmentOf). let y : ExecutableOf = record { entries = es; operations = operations_among (executables rs); fragments = x } in y) (fragments_are rs)

-- the same responses, where what executes is equal to these
same_by : (x x_is y y_is : ExecutableOf) (rows : List RowOf) (name : Option Text) (raw raw_after : Values) (response : ResponseOf) → x ≡ x_is → y ≡ y_is → IsResponse x_is rows name raw response ↔ IsResponse y_is rows name raw_after response →
    IsResponse x rows name raw response ↔ IsResponse y rows name raw_after response
same_by x x_is y y_is rows name raw raw_after response e f h =
    let half : IsResponse x rows name raw response ↔ IsResponse y_is rows name raw_after response = subst (λ (z : ExecutableOf). IsResponse z rows name raw response ↔ IsResponse y_is rows name raw_after response) (sym e) h in
    subst (λ (z : ExecutableOf). IsResponse x rows name raw response ↔ IsResponse z rows name raw_after response) (sym f) half

module _ (one_tree : OneTree) (unmixed : NoneIsMixedIn) where
  pub same_types : (rule : ℕ → Renaming) (new : Text) (documents : List Doc) (before after : List ParsedOf) → ∥ IsValid documents ∥₁ → AreRenamed rule new documents before after → type_system_of after ≡ type_system_of before
  same_types rule new documents before after valid h =
      ap (λ (es : List EntryOf). built_in ++ es)
      (same_entries one_tree rule new documents before after h.in_order h.are_read h.are_trees h.are_read_after h.renamed (of_one_kind before (unmixed documents before valid h.are_read)))

  pub fragment_renames_keep : SpreadsAreDefinedIn → TakesAlike → ArgumentsAlike → VariablesAlike → FragmentRenamesKeep
  fragment_renames_keep promise takes arguments variables documents before after old new valid h free differs rows name raw response =
      let rule : ℕ → Renaming = λ n. fragment_called old in
      let es = type_system_of before in
      same_by (executable_of before) (executing es (executables before)) (executable_of after) (executing es (executables after)) rows name raw raw response
      (executing_is before es refl) (executing_is after es (same_types rule new documents before after valid h))
      (fragment_kept takes arguments variables old new es (executables before) (executables after) (are_paired rule new before after h.renamed) (promise documents before valid h.are_read) free rows name raw response)

  pub variable_renames_keep : VariablesAreDefinedIn → VariableRenamesAnswerAlike → VariablesAlike → VariableRenamesKeep
  variable_renames_keep promise answers variables documents before after old new definition group valid h members free differs rows name raw raw_after given response =
      let rule : ℕ → Renaming = variable_in group old in
      let es = type_system_of before in
      let ds = executables before in
      let meant : (o : OperationOf) → operation_of (operations_among ds) name ≡ Some o → operation_of (executable_of before).operations name ≡ Some o = λ o e. ap (λ (os : List OperationOf). operation_of os name) (operations_are before) ∙ e in
      same_by (executable_of before) (executing es ds) (executable_of after) (executing es (executables after)) rows name raw raw_after response
      (executing_is before es refl) (executing_is after es (same_types rule new documents before after valid h))
      (variable_kept answers variables old new definition group ds (executables after) (are_paired rule new before after h.renamed) members (promise documents before valid h.are_read) free es rows name raw raw_after
      (λ n o e stands g. given.in_group n o (meant o e) stands g) (λ n o e stands g. given.others n o (meant o e) stands g) response)
