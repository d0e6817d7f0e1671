use Rattle.gq_rename.proofs.Offering.{members_of}
use Rattle.gq_rename.proofs.offers.offer_variable.Goals as goal

pub offer_group-requires-clause-members : goal.offer_group-requires-clause-members
offer_group-requires-clause-members c ds is inside =
    members_of ds c.args.target.now c.as_str-old_name.result.now c.deref.result.now c.in_ok-group.group.items c.as_str-old_name.ensures c.deref.ensures.value (c.in_ok-group.ensures.group ds is inside)
