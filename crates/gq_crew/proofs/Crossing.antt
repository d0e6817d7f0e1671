-- What the threads own, and what the reader's leaves, may cross threads: shown from their parts, since a search that goes down
-- through the channels runs out of steps.
use denote.RattleType.{RattleType}
use denote.Param.Send.{IsSend, sendable}
use Rattle.std.proofs.Crossing.{crosses}
use Rattle.gq_text.proofs.owned.OwnedText.TheSendSync as OwnedText
use Rattle.gq_board.specs.declared.history.Room.{Ghosts}
use Rattle.gq_board.proofs.looker.Looker.TheSendSync as Looker
use Rattle.gq_reader.proofs.fault.RunFault.TheSendSync as RunFault
use Rattle.gq_workers.proofs.Crossing.{JobsIn-send, Outbox-send, ReaderEnd-field_send}
use Rattle.gq_crew.specs.contracts.staff.Hire as HireType
use Rattle.gq_crew.specs.contracts.reader_side.ReaderSide as ReaderSideType
use Rattle.gq_crew.specs.contracts.reader_side.ReaderCame as ReaderCameType

pub Hire-field_send : (J : RattleType) (g : Ghosts J.Denot) → IsSend (HireType.the_field J g).row
Hire-field_send J g = search (sendable, crosses, Looker.the_send, JobsIn-send, Outbox-send) depth 12

pub Hire-send : (J : RattleType) (g : Ghosts J.Denot) → IsSend (HireType.the_row J g)
Hire-send J g = search (sendable, crosses, Hire-field_send) depth 12

module _ (J S F : RattleType) (g : Ghosts J.Denot) (input : IsSend S) (files : IsSend F) where
  pub ReaderSide-field_send : IsSend (ReaderSideType.the_field J S F g).row
  ReaderSide-field_send = search (sendable, crosses, OwnedText.the_send, ReaderEnd-field_send) depth 12

  pub ReaderSide-send : IsSend (ReaderSideType.the_row J S F g)
  ReaderSide-send = search (sendable, crosses, ReaderSide-field_send) depth 12

  pub ReaderCame-field_send : IsSend (ReaderCameType.the_field J S F g).row
  ReaderCame-field_send = search (sendable, crosses, RunFault.the_send, ReaderEnd-field_send) depth 24

  pub ReaderCame-send : IsSend (ReaderCameType.the_row J S F g)
  ReaderCame-send = search (sendable, crosses, ReaderCame-field_send) depth 12
