use Rattle.std.proofs.Common.{◌∙◌, ◌++◌, ◌∷◌, [], ap, to_z-of_z}
use Rattle.std.specs.Fmt.{signed_decimal}
use Rattle.json.specs.Token as token
use Rattle.gq_rpc.proofs.Faultless.{one_printed}
use Rattle.gq_rpc.proofs.writes.number_behind.Goals as goal

pub returns : goal.returns
returns c =
    one_printed (token.number (signed_decimal c.args.number)) _ _ _ _ _ c.into_inner.ensures.items (c.in_ok-i64.ensures.room.0 ∙ c.new-out.ensures.before)
    c.new-out.ensures.tokens (c.in_ok-i64.ensures.ok ∙ ap (λ z. c.new-out.result.tokens ++ token.number (signed_decimal z) ∷ []) (to_z-of_z c.ranges.number))
