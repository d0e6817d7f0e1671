use Rattle.std.proofs.Common.{◌≡◌, get_or, true, rules}
use Rattle.std.specs.Char.{is_ascii_digit}
use Rattle.std.proofs.lemmas.Int.Digits.{digits_value_more}
use Rattle.gq_rpc.proofs.Places.{capped_next}
use Rattle.gq_rpc.proofs.header.capped_value.Goals as goal

pub loop-b-preserved : goal.loop-b-preserved
loop-b-preserved c =
    let more = digits_value_more 10 c.args.digits.now c.loop-b.b-index (search rules) in
    let digit : is_ascii_digit (get_or c.args.digits.now c.loop-b.b-index 0) ≡ true = search rules in
    capped_next _ _ (get_or c.args.digits.now c.loop-b.b-index 0) _ _ _ c.min-value.ensures c.loop-b.invariant more digit
