use Rattle.std.proofs.Common.{◌≡◌, drop}
use Rattle.std.specs.List.{list_any}
use Rattle.std.specs.Str.{bytes_eq}
use Rattle.gq_types.specs.LookUps.{texts_of}
use Rattle.gq_fragments.proofs.conditions_by_name.is_among.Given as goal

abbrev pub invariant-loop-one : goal.invariant-loop-one
invariant-loop-one l = list_any (bytes_eq l.condition) (texts_of (drop l.one-index l.conditions)) ≡ list_any (bytes_eq l.condition) (texts_of l.conditions)
