-- A new desk stands for no event.
use Rattle.std.proofs.Common.{[], sym, subst}
use Rattle.gq_desk.specs.Standing.{StandsFor}
use Rattle.gq_desk_tests.proofs.tests.driving.drive_twice.Goals as goal

pub drive_both-requires : goal.drive_both-requires
drive_both-requires c = subst (StandsFor 2 []) (sym c.new-desk.ensures) (c.new_desks_stand_for_none.ensures 2)
