-- What is known of the faults of documents, and what else was made of each.
use Rattle.std.specs.Prelude.{List}
use Rattle.gq_tree.specs.Readings.{ParsedOf, SharedParsed, readings_view}
use Rattle.gq_types.specs.Entries.{EntryOf}
use Rattle.gq_types.specs.Look.{types_view}
use Rattle.gq_types.specs.declared.entry.Entry.{Entry}
use Rattle.gq_by_file.specs.ByFile.{AreByFile}
use Rattle.gq_kept.specs.Helping.Held.{AreHeld}
use Rattle.gq_kept.specs.Helping.Selected.{AreSelected}
use Rattle.gq_kept.specs.declared.by_document.ByDocument.{ByDocument}

-- of documents that are read so, over a type system
pub record AreByDocument (es : List EntryOf) (rs : List ParsedOf) (b : ByDocument) : Type 0 where
  pub faults : AreByFile es rs b.faults
  pub fields : AreSelected rs b.fields.lists.items
  pub parts : AreHeld rs b.parts.notes.items

-- so over the types that are looked up
abbrev pub AreByDocumentOver : List Entry → List SharedParsed → ByDocument → Type 0
AreByDocumentOver types readings b = AreByDocument (types_view types) (readings_view readings) b
