-- Each move keeps the rule of the channel of jobs.
use Rattle.std.proofs.Common.{◌≡◌, ℕ, zero, suc, ◌+◌, List, [], ◌∷◌, ◌++◌, flat_map, set, sym, refl, ap, arith}
use mathlib.Core.Option.{some, some-injective, some-ne-none}
use lib.ListN.{get_elem?}
use Rattle.crossbeam_channel.specs.Fifo.{Pushes, Pops, Forks}
use Rattle.gq_workers.specs.declared.jobs.Hand.{Hand}
use Rattle.gq_workers.specs.declared.order.OrderOf.{OrderOf}
use Rattle.gq_workers.specs.declared.order.Dispatch.{Dispatch}
use Rattle.gq_workers.specs.declared.order.Dispatch.TheVariants as dispatch
use Rattle.gq_workers.specs.Jobs.{hand, weigh, total, Balanced}
use Rattle.gq_workers.specs.Orders.{order_of, orders_in, with_order}

weigh-append : (h : OrderOf → ℕ) (xs ys : List OrderOf) → weigh h (xs ++ ys) ≡ weigh h xs + weigh h ys
weigh-append h [] ys = omega arith
weigh-append h (x ∷ xs) ys = omega (arith, weigh-append h xs ys)

total-snoc : (f : Hand → ℕ) (views : List Hand) (v : Hand) → total f (views ++ v ∷ []) ≡ total f views + f v
total-snoc f [] v = omega arith
total-snoc f (x ∷ xs) v = omega (arith, total-snoc f xs v)

-- the total after a change of one view
total-set : (f : Hand → ℕ) (views : List Hand) (pass : ℕ) (v w : Hand) → get_elem? views pass ≡ some v → total f (set views pass w) + f v ≡ total f views + f w
total-set f [] pass v w at = absurd (some-ne-none v (sym at))
total-set f (x ∷ xs) zero v w at = let same : f x ≡ f v = ap f (some-injective x v at) in omega arith
total-set f (x ∷ xs) (suc pass) v w at = omega (arith, total-set f xs pass v w at)

-- what is seen of items, and the orders with what is seen of one behind them
module _ {T : Type 0} (seen : T → List OrderOf) (with : List OrderOf → T → List OrderOf)
    (adds : (h : OrderOf → ℕ) (orders : List OrderOf) (x : T) → weigh h (with orders x) ≡ weigh h orders + weigh h (seen x)) where
  abbrev pub Ruled : List T → List Hand → Type 0
  Ruled items views = Balanced (flat_map seen items) views

  weigh-snoc : (h : OrderOf → ℕ) (items : List T) (x : T) → weigh h (flat_map seen (items ++ x ∷ [])) ≡ weigh h (flat_map seen items) + weigh h (seen x)
  weigh-snoc h [] x = omega (arith, weigh-append h (seen x) [])
  weigh-snoc h (y ∷ ys) x = omega (
    arith,
    weigh-append h (seen y) (flat_map seen (ys ++ x ∷ [])),
    weigh-append h (seen y) (flat_map seen ys),
    weigh-snoc h ys x,
  )

  pub begins : Ruled [] (hand [] [] ∷ [])
  begins h = refl

  pub puts : (n pass : ℕ) (v : Hand) (x : T) → Pushes Ruled n pass v x (λ w. w ≡ hand (with v.put x) v.taken)
  puts n pass v x items views room b at =
      let w = hand (with v.put x) v.taken in (
        w,
        (λ h.
            let a = total-set (λ u. weigh h u.put) views pass v w at in
            let c = total-set (λ u. weigh h u.taken) views pass v w at in
            let p = b h in
            omega (arith, weigh-snoc h items x, adds h v.put x)),
        refl,
      )

  pub takes : (pass : ℕ) (v : Hand) → Pops Ruled pass v (λ x w. w ≡ hand v.put (with v.taken x))
  takes pass v x items views b at =
      let w = hand v.put (with v.taken x) in (
        w,
        (λ h.
            let a = total-set (λ u. weigh h u.put) views pass v w at in
            let c = total-set (λ u. weigh h u.taken) views pass v w at in
            let p = b h in
            omega (arith, weigh-append h (seen x) (flat_map seen items), adds h v.taken x)),
        refl,
      )

  pub forks : (pass : ℕ) (v : Hand) → Forks Ruled pass v v (hand [] [])
  forks pass v items views b at h =
      let a = total-set (λ u. weigh h u.put) views pass v v at in
      let c = total-set (λ u. weigh h u.taken) views pass v v at in
      let p = b h in
      let d = total-snoc (λ u. weigh h u.put) (set views pass v) (hand [] []) in
      let e = total-snoc (λ u. weigh h u.taken) (set views pass v) (hand [] []) in
      omega arith

-- an order that comes weighs what it weighs, and news nothing
pub adds_order : {J : Type 0} (h : OrderOf → ℕ) (orders : List OrderOf) (x : Dispatch J) → weigh h (with_order orders x) ≡ weigh h orders + weigh h (orders_in x)
adds_order h orders (dispatch.Order o) = weigh-append h orders (order_of o ∷ [])
adds_order h orders (dispatch.News told) = omega arith
