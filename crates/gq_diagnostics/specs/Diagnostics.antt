-- What is told of each document of a project (LSP 3.17, "PublishDiagnostics Notification").
use Rattle.std.specs.Prelude.{◌≡◌, List, map, filter}
use Rattle.std.specs.Str.{bytes_eq}
use Rattle.gq_project.specs.declared.document.Doc.{Doc}
use Rattle.gq_fault.specs.declared.found.Found.{Found}
use Rattle.gq_rules.specs.Validity.{IsReportOf}

-- what stands of a report in a document, in its order
abbrev pub found_in : List Found → Doc → List Found
found_in report document = filter (λ found. bytes_eq found.key document.key) report

-- what the report on the project tells of each document, one list for each, in the order of the documents
pub record AreDiagnostics (documents : List Doc) (all : List (List Found)) : Type 0 where
  pub report : List Found
  pub is_report : IsReportOf documents report
  pub each : all ≡ map (found_in report) documents
