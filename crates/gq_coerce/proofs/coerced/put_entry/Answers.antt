use Rattle.gq_coerce.proofs.Entries.{put_done}
use Rattle.gq_coerce.proofs.coerced.put_entry.Goals as goal

pub returns : goal.returns
returns c = put_done c.args.name c.args.value c.args.entries.now.items c.push.new.self.items c.in_ok-push.ensures.items
