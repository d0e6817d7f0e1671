use Rattle.gq_rpc.proofs.Paths.{unwrap_or_position}
use Rattle.gq_rpc.proofs.keys.part_len.Goals as goal

pub returns-clause-count : goal.returns-clause-count
returns-clause-count c = rw (c.unwrap_or.ensures, c.find_slash.ensures) (unwrap_or_position _ c.args.path.now)
