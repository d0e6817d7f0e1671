-- What contracts see of the ends of the inbox: which inbox it is, and what was posted or collected.
use Rattle.std.specs.Prelude.{List}
use Rattle.atomic_table.specs.Seated.{TableId}
use Rattle.atomic_table.specs.declared.badge.Badge.{Badge}
use Rattle.crossbeam_channel.specs.declared.flavors.array.Key.{Key}
use Rattle.crossbeam_channel.specs.Claims.{Pass, view}
use Rattle.gq_board.specs.declared.history.Room.{Ghosts}
use Rattle.gq_events.specs.declared.event.Event.{Event}
use Rattle.gq_workers.specs.declared.ends.Collected.{Collected}
use Rattle.gq_workers.specs.declared.delivery.Delivery.{Delivery}
use Rattle.gq_workers.specs.declared.ends.DeskEnd.{DeskEnd}
use Rattle.gq_workers.specs.declared.delivery.Post.{Post}
use Rattle.gq_workers.specs.declared.ends.ReaderEnd.{ReaderEnd}

module _ {J : Type 0} {g : Ghosts J} where
  -- which inbox it is
  abbrev pub inbox_of : Pass (Delivery J g) Post → TableId × Badge (Key (Delivery J g))
  inbox_of pass = (pass.table_id, pass.me.0.of)

  abbrev pub reader_on : ReaderEnd J g → TableId × Badge (Key (Delivery J g))
  reader_on r = inbox_of r.pass

  abbrev pub desk_on : DeskEnd J g → TableId × Badge (Key (Delivery J g))
  desk_on d = inbox_of d.pass

  abbrev pub collected_on : Collected J g → TableId × Badge (Key (Delivery J g))
  collected_on c = inbox_of c.pass

  -- what the reader has posted, in order
  abbrev pub posted : ReaderEnd J g → List Event
  posted r = (view r.pass).posted

  -- what the desk has collected, in order
  abbrev pub collected : DeskEnd J g → List Event
  collected d = (view d.pass).collected

  abbrev pub collected_in : Collected J g → List Event
  collected_in c = (view c.pass).collected
