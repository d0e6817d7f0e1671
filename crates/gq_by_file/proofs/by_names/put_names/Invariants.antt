use Rattle.std.proofs.Common.{◌≡◌, ◌++◌, drop}
use Rattle.gq_by_file.proofs.by_names.put_names.Given as goal

abbrev pub invariant-loop-name : goal.invariant-loop-name
invariant-loop-name l = l.all ++ drop l.name-index l.names ≡ l.initial.all ++ l.names
