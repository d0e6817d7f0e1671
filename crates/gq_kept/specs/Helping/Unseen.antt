-- Which documents see where a type system becomes another one.
use Rattle.std.specs.Prelude.{◌≡◌, Bool, List, map}
use Rattle.gq_tree.specs.Readings.{ParsedOf}
use Rattle.gq_types.specs.Entries.{Text, EntryOf}
use Rattle.gq_laws.specs.Placing.OtherFields.{erase_without}
use Rattle.gq_kept.specs.Helping.Selected.{AreMarkedFor}

-- The type systems differ in fields of some names alone, and those documents have a mark in which a field of such a name is selected.
pub record AreMarkedBy (es us : List EntryOf) (rs : List ParsedOf) (marks : List Bool) : Type 0 where
  pub names : List Text
  pub same : map (erase_without names) es ≡ map (erase_without names) us
  pub are : AreMarkedFor names rs marks
