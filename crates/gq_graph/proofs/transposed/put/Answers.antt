use Rattle.std.proofs.Common.{rules, ◌≡◌, ◌∷◌, [], ◌++◌, get_or}
use Rattle.gq_graph.proofs.Turning.{put_one}
use Rattle.gq_graph.proofs.transposed.put.Goals as goal

pub returns-clause-put : goal.returns-clause-put
returns-clause-put c =
    let e : c.push.new.self.items ≡ (get_or c.args.rows.now.items c.args.place c.index_mut.result.now).items ++ c.args.number ∷ [] =
    search rules in
    put_one c.args.rows.now.items c.args.place c.args.number c.index_mut.result.now c.push.new.self c.requires.range e
