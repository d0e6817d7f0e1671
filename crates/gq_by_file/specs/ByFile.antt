-- What is known of the faults of files, each by itself and together.
use Rattle.std.specs.Prelude.{List}
use Rattle.gq_tree.specs.Readings.{ParsedOf, SharedParsed, readings_view}
use Rattle.gq_types.specs.Entries.{EntryOf}
use Rattle.gq_types.specs.Look.{types_view}
use Rattle.gq_types.specs.declared.entry.Entry.{Entry}
use Rattle.gq_by_file.specs.Across.{AreAcross}
use Rattle.gq_by_file.specs.declared.by_file.ByFile.{ByFile}
use Rattle.gq_by_file.specs.Own.{AreOwn}

-- of files that are read so, over a type system
pub record AreByFile (es : List EntryOf) (rs : List ParsedOf) (b : ByFile) : Type 0 where
  pub owned : AreOwn es rs b.own.items
  pub across : AreAcross es rs b.across

-- so over the types that are looked up
abbrev pub AreByFileOver : List Entry → List SharedParsed → ByFile → Type 0
AreByFileOver types readings b = AreByFile (types_view types) (readings_view readings) b
