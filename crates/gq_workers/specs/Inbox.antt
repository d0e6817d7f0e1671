-- The rule of the inbox.
use Rattle.std.specs.Prelude.{◌≡◌, ℕ, List, [], ◌∷◌, ◌++◌, Bool, true, false}
use mathlib.Core.Option.{some}
use lib.ListN.{get_elem?}
use Rattle.gq_board.specs.declared.history.Room.{Ghosts}
use Rattle.gq_events.specs.declared.event.Event.{Event}
use Rattle.gq_workers.specs.declared.order.OrderOf.{OrderOf}
use Rattle.gq_workers.specs.declared.delivery.Delivery.{Delivery}
use Rattle.gq_workers.specs.declared.delivery.Delivery.TheVariants.{Read, Sent}
use Rattle.gq_workers.specs.declared.delivery.Post.{Post}
use Rattle.gq_workers.specs.Orders.{order_of}

abbrev pub post : Bool → Bool → List Event → List Event → List OrderOf → Post
post posts collects posted collected handed = record { posts = posts; collects = collects; posted = posted; collected = collected; handed = handed }

-- a pass that has done nothing, and may neither post nor collect
abbrev pub nobody : Post
nobody = post false false [] [] []

abbrev pub posting : List Event → Post
posting posted = post true false posted [] []

abbrev pub collecting : List Event → Post
collecting collected = post false true [] collected []

-- what was read
abbrev pub read_in : {J : Type 0} {g : Ghosts J} → Delivery J g → List Event
read_in (Read e) = e ∷ []
read_in (Sent s) = []

-- the same of each, in order: what workers made is left out
abbrev pub reads_in : {J : Type 0} {g : Ghosts J} → List (Delivery J g) → List Event
reads_in [] = []
reads_in (d ∷ ds) = read_in d ++ reads_in ds

-- what was read is one more that was posted, and what a worker made is one more that was handed on
abbrev pub after_send : {J : Type 0} {g : Ghosts J} → Post → Delivery J g → Post
after_send v (Read e) = record v { posted = v.posted ++ e ∷ [] }
after_send v (Sent s) = record v { handed = v.handed ++ order_of s.order ∷ [] }

abbrev pub after_collect : {J : Type 0} {g : Ghosts J} → Post → Delivery J g → Post
after_collect v d = record v { collected = v.collected ++ read_in d }

-- one pass posts, and knows all that was posted. One collects, and knows all that was collected
abbrev pub Fits : ℕ → ℕ → List Event → List Event → ℕ → Post → Type 0
Fits reader desk posted collected pass v = (v.posts ≡ true → (pass ≡ reader) × (v.posted ≡ posted)) × (v.collects ≡ true → (pass ≡ desk) × (v.collected ≡ collected))

-- what was collected, and then what the inbox holds of what was read, is what was posted
abbrev pub Delivers : {J : Type 0} {g : Ghosts J} → List (Delivery J g) → List Post → Type 0
Delivers items views =
    (reader : ℕ) × (desk : ℕ) × (posted : List Event) × (collected : List Event) × (collected ++ reads_in items ≡ posted)
    × ((pass : ℕ) (v : Post) → get_elem? views pass ≡ some v → Fits reader desk posted collected pass v)

-- only the pass that posts may send what was read
abbrev pub MaySend : {J : Type 0} {g : Ghosts J} → Post → Delivery J g → Type 0
MaySend v (Read e) = v.posts ≡ true
MaySend v (Sent s) = Unit {0}
