use Rattle.gq_events.proofs.Answering.{told_failed}
use Rattle.gq_events.proofs.event.Answer.write.Goals as goal

pub returns-in_ok-why-in-NoMemory : goal.returns-in_ok-why-in-NoMemory
returns-in_ok-why-in-NoMemory c =
    told_failed c.args.task c.args.self c.in_ok-why-in-NoMemory.why c.refuse.result c.args.outs.now.items c.refuse.new.outs.items c.in-NoMemory.is c.in_ok-why-in-NoMemory.ensures c.refuse.ensures
