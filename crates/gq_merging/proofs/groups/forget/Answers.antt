use Rattle.gq_merging.proofs.ThreadLemmas.{no_groups_passed}
use Rattle.gq_merging.proofs.groups.forget.Goals as goal

pub returns : goal.returns
returns c es rows = no_groups_passed es rows c.clear.new.self.items c.clear.ensures.items
