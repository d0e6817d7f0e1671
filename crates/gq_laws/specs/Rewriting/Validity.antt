-- What a valid project promises to execution.
use Rattle.std.specs.Prelude.{List, Contains, map}
use Rattle.gq_project.specs.declared.document.Doc.{Doc}
use Rattle.gq_fault.specs.declared.fault.Fault.{Fault}
use Rattle.gq_tree.specs.Readings.{ParsedOf}
use Rattle.gq_parse.specs.Parsed.{AreParsed}
use Rattle.gq_document.specs.Definitions.{OperationOf}
use Rattle.gq_rules.specs.Faults.{IsFaultOf}
use Rattle.gq_rules.specs.Project.{executable_of}
use Rattle.gq_rules.specs.Validity.{IsValid}
use Rattle.gq_meaning.specs.Selected.{set_of}
use Rattle.gq_meaning.specs.Acyclic.{Rankable}
use Rattle.gq_collect.specs.Fragments.{definition_of}

-- nothing is demanded of a valid project, whatever reads it
abbrev pub NothingIsDemanded : Type 0
NothingIsDemanded = (documents : List Doc) → ∥ IsValid documents ∥₁ → (readings : List ParsedOf) → AreParsed documents readings → (item : Fault) → IsFaultOf readings item → ⊥

-- its fragments can be ranked by their spreads, and each operation stands above them (section 5.5.2.2)
abbrev pub FragmentsAreRanked : Type 0
FragmentsAreRanked = (documents : List Doc) → ∥ IsValid documents ∥₁ → (readings : List ParsedOf) → AreParsed documents readings →
    (o : OperationOf) → Contains (executable_of readings).operations o → Rankable (map definition_of (executable_of readings).fragments) (set_of o.set)
