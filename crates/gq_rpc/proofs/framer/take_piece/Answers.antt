use Rattle.gq_rpc.proofs.Streams.{Feeds-refused}
use Rattle.gq_rpc.proofs.framer.take_piece.Goals as goal

pub returns-then-is_err : goal.returns-then-is_err
returns-then-is_err c = Feeds-refused _ _ _ _
