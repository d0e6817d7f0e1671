use Rattle.std.proofs.Common.{◌≡◌, List, drop}
use Rattle.gq_index.specs.Indexed.{IsIndexOf}
use Rattle.gq_index.specs.Occurrences.{DefinitionOf}
use Rattle.gq_query.specs.Groups.{variable_at}
use Rattle.gq_query.specs.Helping.Gathered.{first_of}
use Rattle.gq_query.proofs.variables.defining_number.Given as goal

abbrev pub invariant-loop-number : goal.invariant-loop-number
invariant-loop-number l = (ds : List DefinitionOf) → IsIndexOf ds l.index → first_of (variable_at ds l.name) (drop l.number-index l.numbers) ≡ first_of (variable_at ds l.name) l.numbers
