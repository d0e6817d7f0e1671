use Rattle.std.proofs.Common.{◌≡◌, ◌++◌, drop}
use Rattle.gq_types.specs.Look.{types_view}
use Rattle.gq_type_system.specs.Helping.UnknownTypePlaces.{unknown_types_in}
use Rattle.gq_type_system.specs.Helping.WrongKindPlaces.{wrong_kinds_in}
use Rattle.gq_type_system.specs.Helping.UsesViews.{uses_view}
use Rattle.gq_type_system.proofs.used_types.put_faults_in.Given as goal

abbrev pub invariant-loop-one : goal.invariant-loop-one
invariant-loop-one l =
    let es = types_view l.types in
    record {
      unknown : l.unknown.items ++ unknown_types_in es l.file (uses_view (drop l.one-index l.uses)) ≡ l.initial.unknown.items ++ unknown_types_in es l.file (uses_view l.uses);
      wrong : l.wrong.items ++ wrong_kinds_in es l.file (uses_view (drop l.one-index l.uses)) ≡ l.initial.wrong.items ++ wrong_kinds_in es l.file (uses_view l.uses);
    }
