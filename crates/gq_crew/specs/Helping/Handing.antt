-- What the hands of a crew do with what a desk hands on.
use Rattle.std.specs.Prelude.{List, [], ◌∷◌, ◌++◌}
use Rattle.gq_project.specs.declared.document.DocChange.{DocChange}
use Rattle.gq_events.specs.Laws.{Handing, Published, Given}
use Rattle.gq_workers.specs.declared.order.OrderOf.{OrderOf}

-- the changes that they have published, and the orders that they have put
pub record HandsOf : Type 0 where
  pub published : List DocChange
  pub put : List OrderOf

-- a change is published behind the others; a job is put with all that is published by then
abbrev pub handed : HandsOf → Handing → HandsOf
handed h (Published change) = record { published = h.published ++ change ∷ []; put = h.put }
handed h (Given job) = record { published = h.published; put = h.put ++ record { number = job.number; told = h.published } ∷ [] }

abbrev pub changes_in : List Handing → List DocChange
changes_in [] = []
changes_in (Published change ∷ handings) = change ∷ changes_in handings
changes_in (Given job ∷ handings) = changes_in handings
