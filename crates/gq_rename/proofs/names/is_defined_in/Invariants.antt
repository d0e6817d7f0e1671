use Rattle.std.proofs.Common.{◌≡◌, List, drop}
use Rattle.std.specs.List.{list_any}
use Rattle.gq_index.specs.Indexed.{IsIndexOf}
use Rattle.gq_index.specs.Occurrences.{DefinitionOf}
use Rattle.gq_rename.specs.Helping.Defines.{defines}
use Rattle.gq_rename.proofs.names.is_defined_in.Given as goal

abbrev pub invariant-loop-number : goal.invariant-loop-number
invariant-loop-number l = (ds : List DefinitionOf) → IsIndexOf ds l.index → list_any (defines ds l.name) (drop l.number-index l.group) ≡ list_any (defines ds l.name) l.group
