use Rattle.gq_check.proofs.checking.check.Goals as goal

pub returns : goal.returns
returns g c = c.tell_all.ensures c.args.format c.judge-judged.ensures.ok c.judge-judged.ensures.err
