-- What is told of files by parts of them, and what that comes to.
use Rattle.std.specs.Prelude.{◌≡◌, ◌↔◌, ◌⊎◌, ◌++◌, ℕ, List, [], Contains}
use Rattle.gq_tree.specs.Readings.{ParsedOf}
use Rattle.gq_fault.specs.declared.fault.Fault.{Fault}
use Rattle.gq_spreads.specs.Helping.Rows.{row_items}
use Rattle.gq_types.specs.Entries.{EntryOf}
use Rattle.gq_type_system.specs.SchemaFaults.{IsSchemaFault}
use Rattle.gq_document.specs.Executable.{ExecutableOf}
use Rattle.gq_rules.specs.Files.{together, IsOfItsFile}
use Rattle.gq_rules.specs.WrongOver.{IsWrongOver}
use Rattle.gq_by_file.specs.Closed.Closed.{within, IsClosed}
use Rattle.gq_by_file.specs.Closed.RestsOnNames.{IsFaultBySpreads}
use Rattle.gq_by_file.specs.Names.{AreNames}
use Rattle.gq_by_file.specs.Helping.Links.{links_among}
use Rattle.gq_by_file.specs.declared.apart.Learned.{Learned}

-- the operations and fragments are those of the files
abbrev pub IsOver : ExecutableOf → List ParsedOf → Type 0
IsOver x rs = x ≡ together x.entries rs

-- what one of those files tells alone
abbrev pub IsOwnOf : List EntryOf → List ParsedOf → List ℕ → Fault → Type 0
IsOwnOf es rs files f = Contains files f.file × IsOfItsFile es rs f

-- a closed set with that file, of which all that rests on spreads is told
pub record IsLookedAt (x : ExecutableOf) (faults : List Fault) (n : ℕ) : Type 0 where
  pub files : List ℕ
  pub closed : IsClosed files x
  pub has : Contains files n
  pub told : (f : Fault) → IsFaultBySpreads (within files x) f → Contains faults f

-- Nothing but what rests on spreads or on one file is told, and of those files all: what each tells alone, and what spreads lead to.
pub record AreToldOf (x : ExecutableOf) (rs : List ParsedOf) (files : List ℕ) (faults : List Fault) : Type 0 where
  pub sound : (f : Fault) → Contains faults f → IsFaultBySpreads x f ⊎ IsOfItsFile x.entries rs f
  pub spreads : (n : ℕ) → Contains files n → IsLookedAt x faults n
  pub own : (f : Fault) → IsOwnOf x.entries rs files f → Contains faults f

-- the names in all files, and where spreads lead by these
pub record AreLearnedOf (rs : List ParsedOf) (known : Learned) : Type 0 where
  pub names : AreNames rs known.names.items
  pub links : row_items known.links.rows.items ≡ links_among known.names.items

-- What is put behind what is told of texts: where that is nothing, all that is wrong over a type system; else what is wrong with it.
pub record PutsWrongOver (x : ExecutableOf) (old new : List Fault) : Type 0 where
  pub added : List Fault
  pub is : new ≡ old ++ added
  pub alone : old ≡ [] → (f : Fault) → Contains added f ↔ IsWrongOver x f
  pub behind : (old ≡ [] → ⊥) → (f : Fault) → Contains added f ↔ IsSchemaFault x.entries f
