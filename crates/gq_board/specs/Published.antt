-- What the changes that were published make of the documents.
use Rattle.std.specs.Prelude.{List, fold}
use Rattle.gq_project.specs.declared.document.Doc.{Doc}
use Rattle.gq_project.specs.declared.document.DocChange.{DocChange}
use Rattle.gq_project.specs.Documents.{after_change}

-- the documents after these changes of the first ones
abbrev pub docs_after : List Doc → List DocChange → List Doc
docs_after base changes = fold after_change base changes
