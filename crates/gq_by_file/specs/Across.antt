-- What is kept of what rests on several files.
use Rattle.std.specs.Prelude.{◌≡◌, ◌↔◌, ◌⊎◌, ℕ, true, List, [], Contains}
use Rattle.std.specs.declared.vec.Vec.{Vec}
use Rattle.std.specs.declared.alloc.Global.{Global}
use Rattle.gq_fault.specs.declared.fault.Fault.{Fault}
use Rattle.gq_tree.specs.Readings.{ParsedOf}
use Rattle.gq_types.specs.Entries.{EntryOf}
use Rattle.gq_document.specs.Executable.{ExecutableOf}
use Rattle.gq_rules.specs.Files.{together}
use Rattle.gq_by_file.specs.Closed.Closed.{within, IsClosed}
use Rattle.gq_by_file.specs.Closed.RestsOnNames.{IsFaultByNames, IsFaultBySpreads}
use Rattle.gq_by_file.specs.Links.{AreLinks}
use Rattle.gq_by_file.specs.Names.{AreNames}
use Rattle.gq_by_file.specs.declared.across.Across.{Across}
use Rattle.gq_by_file.specs.declared.covers.Cover.{Cover}
use Rattle.gq_by_file.specs.declared.names.FileNames.{FileNames}

-- a closed set of files, and all that is told of these by themselves and rests on spreads
pub record IsCover (x : ExecutableOf) (c : Cover) : Type 0 where
  pub closed : IsClosed c.files.items x
  pub exact : (f : Fault) → Contains c.faults.items f ↔ IsFaultBySpreads (within c.files.items x) f

abbrev pub AreCovers : ExecutableOf → List Cover → Type 0
AreCovers x covers = (c : Cover) → Contains covers c → IsCover x c

-- nothing rests on names in any files that have those
abbrev pub AreClean : List FileNames → Type 0
AreClean names = (es : List EntryOf) (rs : List ParsedOf) → AreNames rs names → (f : Fault) → IsFaultByNames (together es rs) f → ⊥

-- in any files that have those names, spreads lead so
abbrev pub AreLinksOf : List FileNames → List (Vec ℕ Global) → Type 0
AreLinksOf names rows = (es : List EntryOf) (rs : List ParsedOf) → AreNames rs names → AreLinks (together es rs) rows

-- of files that are read so, over a type system; the names are known of all files or of none
pub record AreAcross (es : List EntryOf) (rs : List ParsedOf) (a : Across) : Type 0 where
  pub names : (a.names.items ≡ []) ⊎ AreNames rs a.names.items
  pub clean : a.is_clean ≡ true → AreClean a.names.items
  pub links : (a.links.rows.items ≡ []) ⊎ AreLinksOf a.names.items a.links.rows.items
  pub covers : AreCovers (together es rs) a.covers.items
