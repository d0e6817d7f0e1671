use Rattle.gq_names.proofs.UnderLemmas.{one_grown}
use Rattle.gq_types.proofs.joined.put.Goals as goal

pub returns : goal.returns
returns c = one_grown c.args.lists.now c.args.place c.args.number c.index-lists-place.result c.push.new.self c.requires c.index-lists-place.is (cc (c.in_ok-push.ensures.items))
