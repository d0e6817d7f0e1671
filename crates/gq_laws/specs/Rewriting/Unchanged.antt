-- Two valid projects of the same types, where the second one's documents ask for what those of the first do (section 6).
use Rattle.std.specs.Prelude.{◌≡◌, ◌↔◌, List, Option, map}
use Rattle.gq_tree.specs.Plain.{erase_document}
use Rattle.gq_project.specs.declared.document.Doc.{Doc}
use Rattle.gq_parse.specs.Parsed.{AreParsed}
use Rattle.gq_tree.specs.Readings.{ParsedOf, definitions_read}
use Rattle.gq_document.specs.Definitions.{entries_of}
use Rattle.gq_rules.specs.Project.{type_system_of, executable_of}
use Rattle.gq_rules.specs.Validity.{IsValid}
use Rattle.gq_laws.specs.Rewriting.Documents.{Restates}
use Rattle.gq_laws.specs.Rewriting.Statics.{static_of, roots_in}
use Rattle.gq_table.specs.Rows.{RowOf}
use Rattle.gq_meaning.specs.Values.{Text, Values}
use Rattle.gq_response.specs.Responses.{ResponseOf}
use Rattle.gq_executor.specs.Operations.{IsResponse}

-- Over every table and for all values of variables, each operation has in the second exactly the responses that it has in the first.
abbrev pub ResponsesStay : List ParsedOf → List ParsedOf → Type 0
ResponsesStay before after = (rows : List RowOf) (name : Option Text) (raw : Values) (response : ResponseOf) → IsResponse (executable_of before) rows name raw response ↔ IsResponse (executable_of after) rows name raw response

-- So it is for what is read of two valid projects, where the definitions of the type system are the same, and the operations
-- and fragments of the one become those of the other, places forgotten.
abbrev pub RestatedProjectsKeepResponses : Type 0
RestatedProjectsKeepResponses =
    (documents edited : List Doc) → ∥ IsValid documents ∥₁ → ∥ IsValid edited ∥₁ → (before after : List ParsedOf) → AreParsed documents before → AreParsed edited after → entries_of before ≡ entries_of after →
    Restates (static_of (type_system_of before)) (roots_in (type_system_of before)) (map definitions_read before) (map erase_document (map definitions_read after)) → ResponsesStay before after
