use Rattle.std.proofs.Common.{◌≡◌, ◌++◌, [], drop}
use Rattle.gq_types.specs.Entries.{entries_view}
use Rattle.gq_types.specs.Helping.RequiredNames.{required_after, inputs_among}
use Rattle.gq_types.proofs.required.required_among.Given as goal

-- what was put, and what the other entries add
abbrev pub invariant-loop-number : goal.invariant-loop-number
invariant-loop-number l =
    l.required ++ required_after l.names (inputs_among (entries_view l.entries) (drop l.number-index l.numbers)) ≡ required_after [] (inputs_among (entries_view l.entries) l.numbers)
