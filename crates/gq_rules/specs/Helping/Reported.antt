-- A report, or none where nothing is told.
use Rattle.std.specs.Prelude.{List, Option, Some, None}
use Rattle.gq_project.specs.declared.document.Doc.{Doc}
use Rattle.gq_rules.specs.declared.report.Report.{Report}
use Rattle.gq_rules.specs.Validity.{IsReportOf, IsValid, IsInvalid}

abbrev pub IsReported : List Doc → Option Report → Type 0
IsReported documents None = IsValid documents
IsReported documents (Some report) = IsReportOf documents report.found.items × IsInvalid documents
