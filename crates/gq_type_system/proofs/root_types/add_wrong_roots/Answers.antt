use Rattle.std.proofs.Common.{◌++◌}
use Rattle.gq_types.specs.Look.{types_view}
use Rattle.gq_type_system.specs.Helping.RootTypesPlaces.{wrong_roots_of}
use Rattle.gq_type_system.specs.Helping.Walk.{at_each_number}
use Rattle.gq_type_system.proofs.WalkLemmas.{is_number, next_number}
use Rattle.gq_type_system.proofs.root_types.add_wrong_roots.Goals as goal

pub loop-number-preserved : goal.loop-number-preserved
loop-number-preserved c =
    let es = types_view c.args.types.now in
    let inside = is_number c.entries-entries.result.now es c.loop-number.number c.entries-entries.ensures c.loop-number-test.true in
    next_number (wrong_roots_of es) es c.loop-number.number c.loop-number.faults.items c.add_wrong_roots_of.new.faults.items (c.args.faults.now.items ++ at_each_number (wrong_roots_of es) 0 es) inside c.in_ok-add_wrong_roots_of.ensures c.loop-number.invariant
