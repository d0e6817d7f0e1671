-- What is kept of what rests on several files, where the names and the links of all are known.
use Rattle.gq_tree.specs.Readings.{ParsedOf}
use Rattle.std.specs.Prelude.{List}
use Rattle.gq_types.specs.Entries.{EntryOf}
use Rattle.gq_by_file.specs.Across.{AreAcross, AreLinksOf}
use Rattle.gq_by_file.specs.Names.{AreNames}
use Rattle.gq_by_file.specs.declared.across.Across.{Across}

pub record AreLearned (es : List EntryOf) (rs : List ParsedOf) (a : Across) : Type 0 where
  pub kept : AreAcross es rs a
  pub names : AreNames rs a.names.items
  pub links : AreLinksOf a.names.items a.links.rows.items
