-- What the laws of calls rest on: projects that ask for the same, and projects in which names were changed, have the same calls (section 6).
use Rattle.std.specs.Prelude.{◌≡◌, ◌↔◌, ℕ, List, Contains, Option, map}
use Rattle.gq_text.specs.declared.place.Span.{Span}
use Rattle.gq_tree.specs.Plain.{VariableOf, erase_document}
use Rattle.gq_project.specs.declared.document.Doc.{Doc}
use Rattle.gq_tree.specs.Readings.{ParsedOf, definitions_read}
use Rattle.gq_parse.specs.Parsed.{AreParsed}
use Rattle.gq_document.specs.Definitions.{OperationOf, FragmentOf, entries_of}
use Rattle.gq_index.specs.Occurrences.{executables}
use Rattle.gq_index.specs.VariableGroups.{VariableGroup, IsOperationAt, fragments_among}
use Rattle.gq_renamed.specs.Renamings.{fragment_called}
use Rattle.gq_cut.specs.Cut.{variable_in}
use Rattle.gq_rules.specs.Project.{type_system_of, executable_of}
use Rattle.gq_rules.specs.Validity.{IsValid}
use Rattle.gq_table.specs.Rows.{RowOf}
use Rattle.gq_meaning.specs.Values.{Text, Values}
use Rattle.gq_meaning.specs.Results.{Call}
use Rattle.gq_laws.specs.Rewriting.Documents.{Restates}
use Rattle.gq_laws.specs.Rewriting.Statics.{static_of, roots_in}
use Rattle.gq_laws.specs.Renaming.Kept.{AreRenamed, AreGivenAlike}
use Rattle.gq_law_calls.specs.Calls.{AreCalls, CallsStay}

-- Calls stay in what is read of two valid projects, where the definitions of the type system are the same, and the operations and fragments of
-- the one become those of the other, places forgotten.
abbrev pub RestatedProjectsKeepCalls : Type 0
RestatedProjectsKeepCalls =
    (documents edited : List Doc) → ∥ IsValid documents ∥₁ → ∥ IsValid edited ∥₁ → (before after : List ParsedOf) → AreParsed documents before → AreParsed edited after →
    entries_of before ≡ entries_of after →
    Restates (static_of (type_system_of before)) (roots_in (type_system_of before)) (map definitions_read before) (map erase_document (map definitions_read after)) →
    CallsStay before after

-- Before and after the rename of a fragment to a name that no fragment has, each operation of a valid project has the same calls.
abbrev pub FragmentRenamesKeepCalls : Type 0
FragmentRenamesKeepCalls =
    (documents : List Doc) (before after : List ParsedOf) (old new : Text) → ∥ IsValid documents ∥₁ → AreRenamed (λ n. fragment_called old) new documents before after →
    ((f : FragmentOf) → Contains (fragments_among (executables before)) f → f.name.text ≡ new → ⊥) → (old ≡ new → ⊥) → CallsStay before after

-- Before and after the rename of a variable to a name that no operation of its group defines, each operation of a valid
-- project has the same calls, where it takes values that say the same.
abbrev pub VariableRenamesKeepCalls : Type 0
VariableRenamesKeepCalls =
    (documents : List Doc) (before after : List ParsedOf) (old new : Text) (definition : ℕ) (group : List ℕ) → ∥ IsValid documents ∥₁ → AreRenamed (variable_in group old) new documents before after →
    ((n : ℕ) → Contains group n ↔ VariableGroup (executables before) old definition n) →
    ((n : ℕ) (o : OperationOf) → VariableGroup (executables before) old definition n → IsOperationAt (executables before) n o → (v : VariableOf Span) → Contains o.variables v →
    v.name.text ≡ new → ⊥) →
    (old ≡ new → ⊥) →
    (rows : List RowOf) (name : Option Text) (raw raw_after : Values) → AreGivenAlike before old definition new name raw raw_after →
    (calls : List Call) → AreCalls (executable_of before) rows name raw calls ↔ AreCalls (executable_of after) rows name raw_after calls
