use Rattle.std.proofs.Common.{◌≡◌, ◌++◌, List, drop}
use Rattle.gq_index.specs.Indexed.{IsIndexOf}
use Rattle.gq_index.specs.Occurrences.{DefinitionOf}
use Rattle.gq_query.specs.Helping.Gathered.{wanted_among}
use Rattle.gq_query.proofs.groups.put_wanted.Given as goal

abbrev pub invariant-loop-number : goal.invariant-loop-number
invariant-loop-number l = (ds : List DefinitionOf) → IsIndexOf ds l.index →
    l.all.items ++ wanted_among ds l.name l.wanted.uses l.wanted.declarations (drop l.number-index l.numbers) ≡ l.initial.all.items ++ wanted_among ds l.name l.wanted.uses l.wanted.declarations l.numbers
