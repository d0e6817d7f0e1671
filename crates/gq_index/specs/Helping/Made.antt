-- Tables that are made of the parts of documents.
use Rattle.std.specs.Prelude.{◌≡◌, List, map}
use Rattle.gq_tree.specs.Readings.{ParsedOf}
use Rattle.gq_index.specs.declared.files.File.{File}
use Rattle.gq_index.specs.declared.index.Tables.{Tables}
use Rattle.gq_index.specs.declared.index.Index.{Index}
use Rattle.gq_index.specs.Indexed.{AreTablesOf}
use Rattle.gq_index.specs.Occurrences.{executables}
use Rattle.gq_index.specs.Parts.{parts_in}
use Rattle.gq_index.specs.Views.{parts_kept}

-- they are the tables of any documents of which these files are kept
abbrev pub AreTablesFor : List File → Tables → Type 0
AreTablesFor files tables = (readings : List ParsedOf) → map parts_kept files ≡ map parts_in readings → AreTablesOf (executables readings) tables

-- the index keeps these files, and its tables are theirs
pub record IsMadeOf (kept : List File) (index : Index) : Type 0 where
  pub files : index.files ≡ kept
  pub tables : AreTablesFor kept index.tables
