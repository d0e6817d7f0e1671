-- What rules see of an order, that news is none, and which checks are superseded.
use Rattle.std.specs.Prelude.{Bool, false, List, [], ◌∷◌, ◌++◌, length, nat_lt}
use Rattle.gq_project.specs.declared.document.DocChange.{DocChange}
use Rattle.gq_events.specs.declared.event.Task.{Task}
use Rattle.gq_events.specs.declared.event.Task.TheVariants as task
use Rattle.gq_workers.specs.declared.order.Dispatch.{Dispatch}
use Rattle.gq_workers.specs.declared.order.Dispatch.TheVariants as dispatch
use Rattle.gq_workers.specs.declared.order.Order.{Order}
use Rattle.gq_workers.specs.declared.order.OrderOf.{OrderOf}

abbrev pub order_of : {J : Type 0} → Order J → OrderOf
order_of o = record { number = o.job.number; told = o.told }

-- the order, if one came
abbrev pub orders_in : {J : Type 0} → Dispatch J → List OrderOf
orders_in (dispatch.Order o) = order_of o ∷ []
orders_in (dispatch.News told) = []

-- these orders, and behind them the one that came, if one did
abbrev pub with_order : {J : Type 0} → List OrderOf → Dispatch J → List OrderOf
with_order orders (dispatch.Order o) = orders ++ order_of o ∷ []
with_order orders (dispatch.News told) = orders

-- a check, where more was seen than had been published when its order was put
abbrev pub is_behind : Task → List DocChange → List DocChange → Bool
is_behind (task.Ask encoding id q) told seen = false
is_behind (task.Check encoding) told seen = nat_lt (length told) (length seen)
