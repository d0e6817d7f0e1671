use Rattle.std.proofs.Common.{◌∙◌}
use Rattle.json.specs.Token as token
use Rattle.gq_rpc.proofs.Faultless.{one_printed}
use Rattle.gq_rpc.proofs.writes.quoted_behind.Goals as goal

pub returns : goal.returns
returns c =
    one_printed (token.string c.args.text.now) _ _ _ _ _ c.into_inner.ensures.items (c.in_ok-string.ensures.room.0 ∙ c.new-out.ensures.before)
    c.new-out.ensures.tokens c.in_ok-string.ensures.ok
