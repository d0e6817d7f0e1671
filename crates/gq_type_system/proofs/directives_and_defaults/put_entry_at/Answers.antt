use Rattle.std.proofs.Common.{append-nil, sym}
use Rattle.gq_type_system.specs.Helping.DirectivesAndDefaultsPlaces.{itself, group_view}
use Rattle.gq_type_system.proofs.GroupLemmas.{at_past}
use Rattle.gq_type_system.proofs.directives_and_defaults.put_entry_at.Goals as goal

pub returns-in-None : goal.returns-in-None
returns-in-None c = rw (at_past itself c.args.entries.now c.args.number c.in-None.ensures.lookup.3) (sym (append-nil (group_view c.args.group.now.items)))
