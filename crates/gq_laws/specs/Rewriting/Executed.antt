-- The response to an operation of a project, by its documents (section 6.1).
use Rattle.std.specs.Prelude.{◌≡◌, List, Option}
use Rattle.gq_project.specs.declared.document.Doc.{Doc}
use Rattle.gq_tree.specs.Readings.{ParsedOf}
use Rattle.gq_parse.specs.Parsed.{AreParsed}
use Rattle.gq_rules.specs.Project.{executable_of}
use Rattle.gq_table.specs.Rows.{RowOf}
use Rattle.gq_meaning.specs.Values.{Text, Values}
use Rattle.gq_response.specs.Responses.{ResponseOf}
use Rattle.gq_executor.specs.Operations.{IsResponse}

-- the response to the operation of that name, or to the only one, over a table of these rows, where raw are the values
-- that are given for its variables
pub record IsExecuted (documents : List Doc) (rows : List RowOf) (name : Option Text) (raw : Values) (response : ResponseOf) : Type 0 where
  pub readings : List ParsedOf
  pub are_readings : AreParsed documents readings
  pub is_response : IsResponse (executable_of readings) rows name raw response

-- a project has at most one response to each request
abbrev pub RequestsHaveOneResponse : Type 0
RequestsHaveOneResponse = (documents : List Doc) (rows : List RowOf) (name : Option Text) (raw : Values) (r s : ResponseOf) → IsExecuted documents rows name raw r → IsExecuted documents rows name raw s → r ≡ s
