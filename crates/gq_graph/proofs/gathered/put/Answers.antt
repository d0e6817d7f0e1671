use Rattle.gq_graph.proofs.Gathering.{inserted}
use Rattle.gq_graph.proofs.gathered.put.Goals as goal

pub returns-clause-added : goal.returns-clause-added
returns-clause-added c = inserted c.args.number c.args.found.now.keys c.insert.new.self.keys c.in_ok-insert.ensures.keys
