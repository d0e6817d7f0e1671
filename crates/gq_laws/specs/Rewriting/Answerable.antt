-- That each request to a valid project has a response (section 6.1).
use Rattle.std.specs.Prelude.{List, Option}
use Rattle.gq_project.specs.declared.document.Doc.{Doc}
use Rattle.gq_tree.specs.Readings.{ParsedOf}
use Rattle.gq_parse.specs.Parsed.{AreParsed}
use Rattle.gq_rules.specs.Project.{executable_of}
use Rattle.gq_rules.specs.Validity.{IsValid}
use Rattle.gq_table.specs.Rows.{RowOf}
use Rattle.gq_meaning.specs.Values.{Text, Values}
use Rattle.gq_response.specs.Responses.{ResponseOf}
use Rattle.gq_executor.specs.Operations.{IsResponse}

-- Over every table, and for all values of variables, each operation of a valid project has a response.
abbrev pub RequestsHaveAResponse : Type 0
RequestsHaveAResponse = (documents : List Doc) → ∥ IsValid documents ∥₁ → (readings : List ParsedOf) → AreParsed documents readings →
    (rows : List RowOf) (name : Option Text) (raw : Values) → (response : ResponseOf) × IsResponse (executable_of readings) rows name raw response
