use denote.Param.Send.{sendable}
use Rattle.std.proofs.Crossing.{crosses}
use Rattle.gq_crew.proofs.Crossing.{ReaderSide-send, ReaderCame-send}
use Rattle.gq_crew.proofs.reader_thread.start_reader.Goals as goal

pub spawn_with-started-requires-send-F : goal.spawn_with-started-requires-send-F
spawn_with-started-requires-send-F g c κs within = search (sendable, crosses, ReaderSide-send) depth 16

pub spawn_with-started-requires-send-T : goal.spawn_with-started-requires-send-T
spawn_with-started-requires-send-T g c κs within = search (sendable, crosses, ReaderSide-send, ReaderCame-send) depth 16
