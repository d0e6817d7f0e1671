-- What an index keeps of documents, as far as it was made.
use Rattle.std.specs.Prelude.{◌≡◌, List, Option}
use Rattle.std.specs.Arc.{arc_value}
use Rattle.std.specs.declared.alloc.Global.{Global}
use Rattle.std.specs.declared.sync.Arc.{Arc}
use Rattle.gq_tree.specs.Readings.{ParsedOf}
use Rattle.gq_index.specs.declared.parts.Parts.{Parts}
use Rattle.gq_index.specs.Parts.{parts_in}
use Rattle.gq_index.specs.Views.{parts_held}
use Rattle.gq_kept.specs.Helping.Noted.{AreNoted}

-- the parts are those of a document that is read so
abbrev pub ArePartsOf : ParsedOf → Arc Parts Global → Type 0
ArePartsOf r parts = parts_held (arc_value parts) ≡ parts_in r

-- so of each document of which there are some
abbrev pub AreHeld : List ParsedOf → List (Option (Arc Parts Global)) → Type 0
AreHeld rs notes = AreNoted ArePartsOf rs notes
