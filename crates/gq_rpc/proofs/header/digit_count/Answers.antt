use Rattle.gq_rpc.proofs.Places.{unwrap_or_position}
use Rattle.gq_rpc.proofs.header.digit_count.Goals as goal

pub returns-clause-count : goal.returns-clause-count
returns-clause-count c = rw (c.unwrap_or.ensures, c.find_digit_end.ensures) (unwrap_or_position _ c.args.text.now)
