use Rattle.gq_rpc.proofs.Places.{unwrap_or_position}
use Rattle.gq_rpc.proofs.header.name_len.Goals as goal

pub returns-clause-count : goal.returns-clause-count
returns-clause-count c = rw (c.unwrap_or.ensures, c.find_colon.ensures) (unwrap_or_position _ c.args.text.now)
