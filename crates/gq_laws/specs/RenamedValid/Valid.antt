-- A valid project (section 5) whose names are changed is valid.
use Rattle.std.specs.Prelude.{◌≢◌, ◌↔◌, ℕ, List, Contains, map}
use Rattle.gq_text.specs.declared.place.Span.{Span}
use Rattle.gq_fault.specs.declared.fault.Fault.{Fault}
use Rattle.gq_tree.specs.Plain.{VariableOf}
use Rattle.gq_tree.specs.Readings.{ParsedOf, definitions_read}
use Rattle.gq_project.specs.declared.document.Doc.{Doc}
use Rattle.gq_project.specs.Documents.{IsInOrder}
use Rattle.gq_parse.specs.Parsed.{AreParsed}
use Rattle.gq_edit.specs.Edits.{after_edit}
use Rattle.gq_types.specs.Entries.{Text}
use Rattle.gq_document.specs.Definitions.{OperationOf, FragmentOf}
use Rattle.gq_document.specs.Executable.{ExecutableOf}
use Rattle.gq_index.specs.Occurrences.{executables}
use Rattle.gq_index.specs.VariableGroups.{VariableGroup, IsOperationAt, fragments_among}
use Rattle.gq_cut.specs.Cut.{variable_in}
use Rattle.gq_renamed.specs.Names.{IsNameText, IsFragmentNameText}
use Rattle.gq_renamed.specs.Renamings.{fragment_called}
use Rattle.gq_renamed.specs.Projects.{rename_edits}
use Rattle.gq_rules.specs.Project.{executable_of}
use Rattle.gq_rules.specs.Validity.{IsValid}
use Rattle.gq_laws.specs.Placing.Types.{IsFaultless}
use Rattle.gq_laws.specs.Renaming.Kept.{AreRenamed}

-- A fragment is given a name that no fragment has, by the edit that changes its name at each definition and each spread.
abbrev pub FragmentRenamesStayValid : Type 0
FragmentRenamesStayValid =
    (documents : List Doc) (readings : List ParsedOf) (old new : Text) → IsInOrder documents → AreParsed documents readings → ∥ IsValid documents ∥₁ → IsFragmentNameText new →
    ((f : FragmentOf) → Contains (fragments_among (executables readings)) f → f.name.text ≢ new) →
    IsValid (after_edit (rename_edits (λ n. fragment_called old) 0 new documents (map definitions_read readings)) documents)

-- A variable is given a name in its group that no operation of the group defines: what is read afterwards has no fault of those rules.
abbrev pub VariableRenamesKeepRule : (ExecutableOf → Fault → Type 0) → Type 0
VariableRenamesKeepRule IsFault =
    (documents : List Doc) (before after : List ParsedOf) (old new : Text) (definition : ℕ) (group : List ℕ) → ∥ IsValid documents ∥₁ → AreRenamed (variable_in group old) new documents before after →
    ((n : ℕ) → Contains group n ↔ VariableGroup (executables before) old definition n) →
    ((n : ℕ) (o : OperationOf) → VariableGroup (executables before) old definition n → IsOperationAt (executables before) n o → (v : VariableOf Span) → Contains o.variables v → v.name.text ≢ new) →
    IsFaultless IsFault (executable_of after)

-- A valid project is valid after the edit that changes the variable's name so.
abbrev pub VariableRenamesStayValid : Type 0
VariableRenamesStayValid =
    (documents : List Doc) (readings : List ParsedOf) (old new : Text) (definition : ℕ) (group : List ℕ) →
    IsInOrder documents → AreParsed documents readings → ∥ IsValid documents ∥₁ → IsNameText new →
    ((n : ℕ) → Contains group n ↔ VariableGroup (executables readings) old definition n) →
    ((n : ℕ) (o : OperationOf) → VariableGroup (executables readings) old definition n → IsOperationAt (executables readings) n o →
    (v : VariableOf Span) → Contains o.variables v → v.name.text ≢ new) →
    IsValid (after_edit (rename_edits (variable_in group old) 0 new documents (map definitions_read readings)) documents)
