use Rattle.std.proofs.Common.{◌≡◌, drop}
use Rattle.gq_type_system.specs.Helping.RootTypesPlaces.{taken_view, has_kind}
use Rattle.gq_type_system.proofs.root_types.has_kind.Given as goal

abbrev pub invariant-loop-one : goal.invariant-loop-one
invariant-loop-one l = has_kind (taken_view (drop l.one-index l.taken)) l.kind ≡ has_kind (taken_view l.taken) l.kind
