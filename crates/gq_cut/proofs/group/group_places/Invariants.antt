use Rattle.std.proofs.Common.{◌≡◌, ◌++◌, List, drop}
use Rattle.gq_index.specs.Indexed.{IsIndexOf}
use Rattle.gq_index.specs.Occurrences.{DefinitionOf}
use Rattle.gq_cut.specs.Helping.Runs.{group_occurrences}
use Rattle.gq_cut.proofs.group.group_places.Given as goal

abbrev pub invariant-loop-number : goal.invariant-loop-number
invariant-loop-number l = (ds : List DefinitionOf) → IsIndexOf ds l.index → l.places.items ++ group_occurrences ds (drop l.number-index l.group) l.name ≡ group_occurrences ds l.group l.name
