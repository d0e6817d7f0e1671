use Rattle.std.proofs.Common.{append-nil, sym}
use Rattle.gq_type_system.specs.Helping.Groups.{roots_in_entry, roots_in_view}
use Rattle.gq_type_system.proofs.GroupLemmas.{at_past}
use Rattle.gq_type_system.proofs.root_entries.put_roots_at.Goals as goal

pub returns-in-None : goal.returns-in-None
returns-in-None c = rw (at_past roots_in_entry c.args.entries.now c.args.number c.in-None.ensures.lookup.3) (sym (append-nil (roots_in_view c.args.roots.now.items)))
