use Rattle.std.proofs.Common.{◌≡◌, ◌++◌, drop}
use Rattle.std.specs.Prelude.{flat_map}
use Rattle.gq_types.specs.Entries.{entries_view}
use Rattle.gq_coerce.specs.Helping.Inputs.{inputs_at}
use Rattle.gq_coerce.specs.Helping.Views.{inputs_view}
use Rattle.gq_coerce.proofs.inputs.inputs_of.Given as goal

abbrev pub invariant-loop-number : goal.invariant-loop-number
invariant-loop-number l = inputs_view l.all.items ++ flat_map (inputs_at (entries_view l.entries)) (drop l.number-index l.numbers) ≡ flat_map (inputs_at (entries_view l.entries)) l.numbers
