-- Renames keep responses (section 6): what is true of a project before and after names in it were changed.
use Rattle.std.specs.Prelude.{◌≡◌, ◌↔◌, ℕ, List, Contains, Option, Some, map}
use Rattle.gq_project.specs.declared.document.Doc.{Doc}
use Rattle.gq_project.specs.Documents.{IsInOrder}
use Rattle.gq_text.specs.declared.place.Span.{Span}
use Rattle.gq_tree.specs.Plain.{VariableOf, erase_document}
use Rattle.gq_edit.specs.Edits.{after_edit}
use Rattle.gq_parse.specs.Parsed.{AreParsed}
use Rattle.gq_tree.specs.Readings.{ParsedOf, definitions_read}
use Rattle.gq_document.specs.Definitions.{OperationOf, FragmentOf}
use Rattle.gq_index.specs.Occurrences.{executables}
use Rattle.gq_index.specs.VariableGroups.{VariableGroup, IsOperationAt, fragments_among}
use Rattle.gq_renamed.specs.Renamings.{Renaming, fragment_called}
use Rattle.gq_renamed.specs.Projects.{AreTrees, rename_edits, rename_trees}
use Rattle.gq_cut.specs.Cut.{variable_in}
use Rattle.gq_rules.specs.Project.{executable_of}
use Rattle.gq_rules.specs.Validity.{IsValid}
use Rattle.gq_table.specs.Rows.{RowOf}
use Rattle.gq_meaning.specs.Values.{Text, Values}
use Rattle.gq_response.specs.Responses.{ResponseOf}
use Rattle.gq_executor.specs.Operations.{operation_of, IsResponse}
use Rattle.gq_laws.specs.Renaming.GivenValues.{AreRenamedValues}

-- Documents that are read so, and what is read of them after the edit of a rename; their trees have the names changed.
pub record AreRenamed (rule : ℕ → Renaming) (new : Text) (documents : List Doc) (before after : List ParsedOf) : Type 0 where
  pub in_order : IsInOrder documents
  pub are_read : AreParsed documents before
  pub are_trees : AreTrees documents (map definitions_read before)
  pub are_read_after : AreParsed (after_edit (rename_edits rule 0 new documents (map definitions_read before)) documents) after
  pub renamed : map erase_document (map definitions_read after) ≡ rename_trees rule 0 new (map erase_document (map definitions_read before))

-- The operation that is meant takes values that say the same: renamed where it stands in the group of the variable, else the same ones.
pub record AreGivenAlike (readings : List ParsedOf) (old : Text) (definition : ℕ) (new : Text) (name : Option Text) (before after : Values) : Type 0 where
  pub in_group : (n : ℕ) (o : OperationOf) → operation_of (executable_of readings).operations name ≡ Some o → IsOperationAt (executables readings) n o → VariableGroup (executables readings) old definition n → AreRenamedValues old new before after
  pub others : (n : ℕ) (o : OperationOf) → operation_of (executable_of readings).operations name ≡ Some o → IsOperationAt (executables readings) n o → (VariableGroup (executables readings) old definition n → ⊥) → before ≡ after

-- Before and after the rename of a fragment to a name that no fragment has, each operation of a valid project has one response.
abbrev pub FragmentRenamesKeep : Type 0
FragmentRenamesKeep =
    (documents : List Doc) (before after : List ParsedOf) (old new : Text) → ∥ IsValid documents ∥₁ → AreRenamed (λ n. fragment_called old) new documents before after →
    ((f : FragmentOf) → Contains (fragments_among (executables before)) f → f.name.text ≡ new → ⊥) → (old ≡ new → ⊥) →
    (rows : List RowOf) (name : Option Text) (raw : Values) (response : ResponseOf) → IsResponse (executable_of before) rows name raw response ↔ IsResponse (executable_of after) rows name raw response

-- Before and after the rename of a variable to a name that no operation of its group defines, each operation of a valid
-- project has one response, where it takes values that say the same.
abbrev pub VariableRenamesKeep : Type 0
VariableRenamesKeep =
    (documents : List Doc) (before after : List ParsedOf) (old new : Text) (definition : ℕ) (group : List ℕ) → ∥ IsValid documents ∥₁ → AreRenamed (variable_in group old) new documents before after →
    ((n : ℕ) → Contains group n ↔ VariableGroup (executables before) old definition n) →
    ((n : ℕ) (o : OperationOf) → VariableGroup (executables before) old definition n → IsOperationAt (executables before) n o → (v : VariableOf Span) → Contains o.variables v → v.name.text ≡ new → ⊥) → (old ≡ new → ⊥) →
    (rows : List RowOf) (name : Option Text) (raw raw_after : Values) → AreGivenAlike before old definition new name raw raw_after →
    (response : ResponseOf) → IsResponse (executable_of before) rows name raw response ↔ IsResponse (executable_of after) rows name raw_after response
