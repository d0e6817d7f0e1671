-- Why a project is refused.
use Rattle.std.specs.Prelude.{List}
use Rattle.gq_project.specs.declared.document.Doc.{Doc}
use Rattle.gq_rules.specs.declared.valid.Why.{Why}
use Rattle.gq_rules.specs.declared.valid.Why.TheVariants as why
use Rattle.gq_rules.specs.Validity.{IsReportOf, IsInvalid}

-- something is told of it, and the report has that; or a growth was refused
abbrev pub IsWhy : List Doc → Why → Type 0
IsWhy documents (why.Report report) = IsReportOf documents report.found.items × IsInvalid documents
IsWhy documents why.NoMemory = Unit {0}
