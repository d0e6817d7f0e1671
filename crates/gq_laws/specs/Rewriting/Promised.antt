-- What is promised of projects that are valid.
use Rattle.std.specs.Prelude.{List}
use Rattle.gq_project.specs.declared.document.Doc.{Doc}
use Rattle.gq_tree.specs.Readings.{ParsedOf}
use Rattle.gq_parse.specs.Parsed.{AreParsed}
use Rattle.gq_rules.specs.Validity.{IsValid}

-- it holds of each valid project, whatever reads its documents
abbrev pub OfValidProjects : (List ParsedOf → Type 0) → Type 0
OfValidProjects Holds = (documents : List Doc) → ∥ IsValid documents ∥₁ → (readings : List ParsedOf) → AreParsed documents readings → Holds readings
