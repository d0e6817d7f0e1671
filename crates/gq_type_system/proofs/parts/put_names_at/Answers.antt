use Rattle.std.proofs.Common.{append-nil, sym}
use Rattle.gq_type_system.specs.Helping.Groups.{part_names_in, names_in}
use Rattle.gq_type_system.proofs.GroupLemmas.{at_past}
use Rattle.gq_type_system.proofs.parts.put_names_at.Goals as goal

pub returns-in-None : goal.returns-in-None
returns-in-None c = rw (at_past (part_names_in c.args.part) c.args.entries.now c.args.number c.in-None.ensures.lookup.3) (sym (append-nil (names_in c.args.names.now.items)))
