use Rattle.gq_rpc.proofs.Places.{digits_pass}
use Rattle.gq_rpc.proofs.header.read_length.Goals as goal

pub capped_value-requires : goal.capped_value-requires
capped_value-requires c = digits_pass _ c.digit_count-count.result c.digit_count-count.ensures.count
