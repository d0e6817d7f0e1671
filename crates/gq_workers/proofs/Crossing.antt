-- Jobs, what comes of them, and the ends of the channels may cross threads: shown from their parts, since a search that goes
-- down through the trees of pieces runs out of steps.
use denote.RattleType.{RattleType}
use denote.Param.Send.{IsSend, IsSync, sendable}
use Rattle.std.proofs.Crossing.{crosses}
use Rattle.gq_text.proofs.owned.OwnedText.TheSendSync as OwnedText
use Rattle.gq_tree.proofs.Crossing.{Parsed-send, Parsed-sync}
use Rattle.gq_project.proofs.project.Project.TheSendSync as Project
use Rattle.gq_rpc.proofs.messages.Incoming.TheSendSync as Incoming
use Rattle.gq_parse.specs.contracts.piece.Piece as PieceType
use Rattle.gq_events.specs.contracts.event.Job as JobType
use Rattle.gq_events.specs.contracts.event.Done as DoneType
use Rattle.gq_events.specs.contracts.event.Event as EventType
use Rattle.gq_events.proofs.event.Task.TheSendSync as Task
use Rattle.gq_events.proofs.event.Answer.TheSendSync as Answer
use Rattle.gq_events.proofs.event.Load.TheSendSync as Load
use Rattle.gq_events.proofs.event.InputEnd.TheSendSync as InputEnd
use Rattle.atomic_table.proofs.badge.Badge.TheSendSync as Badge
use Rattle.atomic_table.proofs.shared.Seat.TheSendSync as Seat
use Rattle.atomic_table.proofs.shared.Shared.TheSendSync as Shared
use Rattle.atomic_table.proofs.owned.Table.TheSendSync as Table
use Rattle.atomic_table.proofs.send_lease.SendLease.TheSendSync as SendLease
use Rattle.crossbeam_channel.proofs.flavors.array.Rows.TheSendSync as Rows
use Rattle.crossbeam_channel.proofs.flavors.array.ruled.Both.TheSendSync as Both
use Rattle.crossbeam_channel.proofs.flavors.array.ruled.Receiving.TheSendSync as Receiving
use Rattle.crossbeam_channel.proofs.flavors.array.ruled.Sending.TheSendSync as Sending
use Rattle.gq_board.specs.declared.history.Room.{Ghosts}
use Rattle.gq_board.proofs.looker.Told.TheSendSync as Told
use Rattle.gq_workers.specs.contracts.order.Dispatch as DispatchType
use Rattle.gq_workers.specs.contracts.order.Order as OrderType
use Rattle.gq_workers.specs.contracts.sent.Sent as SentType
use Rattle.gq_workers.specs.contracts.delivery.Delivery as DeliveryType
use Rattle.gq_workers.specs.contracts.jobs.Jobs as JobsType
use Rattle.gq_workers.specs.contracts.jobs.JobsIn as JobsInType
use Rattle.gq_workers.specs.contracts.jobs.JobsOut as JobsOutType
use Rattle.gq_workers.specs.contracts.ends.ReaderEnd as ReaderEndType
use Rattle.gq_workers.specs.contracts.ends.DeskEnd as DeskEndType
use Rattle.gq_workers.specs.contracts.ends.Outbox as OutboxType
use Rattle.gq_workers.specs.contracts.ends.Collected as CollectedType

Piece-field_send : IsSend (PieceType.the_field).row
Piece-field_send = search (sendable, crosses, OwnedText.the_send, Parsed-send, Parsed-sync) depth 12

pub Piece-send : IsSend PieceType.the_row
Piece-send = search (sendable, crosses, Piece-field_send) depth 12

Piece-field_sync : IsSync (PieceType.the_field).row
Piece-field_sync = search (sendable, crosses, OwnedText.the_sync, Parsed-send, Parsed-sync) depth 12

pub Piece-sync : IsSync PieceType.the_row
Piece-sync = search (sendable, crosses, Piece-field_sync) depth 12

pub Job-field_send : IsSend (JobType.the_field).row
Job-field_send = search (sendable, crosses, Task.the_field_send, Piece-send, Piece-sync) depth 12

pub Job-send : IsSend JobType.the_row
Job-send = search (sendable, crosses, Job-field_send) depth 12

pub Done-field_send : IsSend (DoneType.the_field).row
Done-field_send = search (sendable, crosses, Task.the_field_send, Project.the_send, Answer.the_field_send, Piece-send, Piece-sync) depth 12

pub Done-send : IsSend DoneType.the_row
Done-send = search (sendable, crosses, Done-field_send) depth 12

pub Event-field_send : IsSend (EventType.the_field).row
Event-field_send = search (sendable, crosses, Incoming.the_field_send, Load.the_field_send, Done-field_send, InputEnd.the_field_send) depth 12

pub Event-send : IsSend EventType.the_row
Event-send = search (sendable, crosses, Event-field_send) depth 12

-- what a channel under a rule is made of
ruleset channels = (
  Both.the_field_send,
  Rows.the_field_send,
  Rows.the_field_sync,
  Table.the_field_send,
  Table.the_field_sync,
  Shared.the_send,
  Shared.the_sync,
  Seat.the_send,
  Badge.the_send,
  SendLease.the_send,
  SendLease.the_sync,
)

module _ (J : RattleType) (g : Ghosts J.Denot) where
  pub Order-field_send : IsSend (OrderType.the_field J g).row
  Order-field_send = search (sendable, crosses, Job-field_send, Told.the_send) depth 12

  pub Order-send : IsSend (OrderType.the_row J g)
  Order-send = search (sendable, crosses, Order-field_send) depth 12

  pub Dispatch-field_send : IsSend (DispatchType.the_field J g).row
  Dispatch-field_send = search (sendable, crosses, Order-field_send, Told.the_send) depth 12

  pub Dispatch-send : IsSend (DispatchType.the_row J g)
  Dispatch-send = search (sendable, crosses, Dispatch-field_send) depth 12

  pub Sent-field_send : IsSend (SentType.the_field J g).row
  Sent-field_send = search (sendable, crosses, Order-field_send, Done-field_send, Told.the_send) depth 12

  pub Sent-send : IsSend (SentType.the_row J g)
  Sent-send = search (sendable, crosses, Sent-field_send) depth 12

  pub Delivery-field_send : IsSend (DeliveryType.the_field J g).row
  Delivery-field_send = search (sendable, crosses, Event-field_send, Sent-field_send) depth 12

  pub Delivery-send : IsSend (DeliveryType.the_row J g)
  Delivery-send = search (sendable, crosses, Delivery-field_send) depth 12

  pub Jobs-send : IsSend (JobsType.the_row J g)
  Jobs-send = search (sendable, crosses, channels, Sending.the_field_send, Receiving.the_field_send, Dispatch-send) depth 20

  pub JobsOut-send : IsSend (JobsOutType.the_row J g)
  JobsOut-send = search (sendable, crosses, channels, Sending.the_field_send, Dispatch-send) depth 20

  pub JobsIn-send : IsSend (JobsInType.the_row J g)
  JobsIn-send = search (sendable, crosses, channels, Receiving.the_field_send, Dispatch-send) depth 20

  pub Outbox-send : IsSend (OutboxType.the_row J g)
  Outbox-send = search (sendable, crosses, channels, Sending.the_field_send, Delivery-send) depth 20

  pub ReaderEnd-field_send : IsSend (ReaderEndType.the_field J g).row
  ReaderEnd-field_send = search (sendable, crosses, channels, Sending.the_field_send, Delivery-send) depth 20

  pub ReaderEnd-send : IsSend (ReaderEndType.the_row J g)
  ReaderEnd-send = search (sendable, crosses, ReaderEnd-field_send) depth 12

  pub DeskEnd-field_send : IsSend (DeskEndType.the_field J g).row
  DeskEnd-field_send = search (sendable, crosses, channels, Receiving.the_field_send, Delivery-send) depth 20

  pub DeskEnd-send : IsSend (DeskEndType.the_row J g)
  DeskEnd-send = search (sendable, crosses, DeskEnd-field_send) depth 12

  pub Collected-field_send : IsSend (CollectedType.the_field J g).row
  Collected-field_send = search (sendable, crosses, channels) depth 20

  pub Collected-send : IsSend (CollectedType.the_row J g)
  Collected-send = search (sendable, crosses, Collected-field_send) depth 12
