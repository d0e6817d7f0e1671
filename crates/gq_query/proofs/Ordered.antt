-- The derived order of places is the one that is meant, and equal places are the same.
use Rattle.std.proofs.Common.{◌≡◌, ◌↔◌, Bool, true, false, ◌&&◌, nat_eq, List, [], ◌∷◌, refl, ap, subst, ◌∙◌, eqb-true, map, Contains}
use Rattle.std.specs.List.{AllByRecursion}
use Rattle.std.specs.List.Sorted.{IsStrictlySortedBy}
use Rattle.std.specs.declared.cmp.Ordering.TheVariants.{Less}
use Rattle.gq_types.proofs.Gathered.{from_map, to_map}
use Rattle.gq_index.specs.declared.occurrence.Occurrence.{Occurrence}
use Rattle.gq_query.specs.contracts.order.PlaceOrd.TheImpl as place_order
use Rattle.gq_query.specs.contracts.order.PlacePartialEq.TheImpl as place_equality
use Rattle.gq_query.specs.declared.order.Place.{Place}
use Rattle.gq_query.specs.Order.{occurrence_cmp}
use Rattle.gq_query.specs.Helping.Placed.{occurrence_view, place_view, place_cmp}

cmp_is : (x y : Place) → place_order.ghosts.cmp x y ≡ place_cmp x y
cmp_is x y = refl

pub by_place_cmp : (xs : List Place) → IsStrictlySortedBy (λ x y. place_order.ghosts.cmp x y) xs → IsStrictlySortedBy place_cmp xs
by_place_cmp xs h = subst (λ r. IsStrictlySortedBy r xs) (λ i x y. cmp_is x y i) h

both : (a b : Bool) → (a && b) ≡ true → (a ≡ true) × (b ≡ true)
both true b h = (refl, h)
both false b h = absurd (cc)

pub same_place : (x y : Place) → place_equality.ghosts.eq x y ≡ true → x ≡ y
same_place x y h =
    let a = both (nat_eq x.file y.file) (nat_eq x.span.start y.span.start && nat_eq x.span.end y.span.end) h in
    let b = both (nat_eq x.span.start y.span.start) (nat_eq x.span.end y.span.end) a.1 in
    let file = eqb-true x.file y.file a.0 in
    let start = eqb-true x.span.start y.span.start b.0 in
    let end = eqb-true x.span.end y.span.end b.1 in
    λ i. record { file = file i; span = record { start = start i; end = end i } }

-- the order of places is that of occurrences
all_below : (p : Place) (ps : List Place) → AllByRecursion (λ q. place_cmp p q ≡ Less) ps → AllByRecursion (λ o. occurrence_cmp (occurrence_view p) o ≡ Less) (map occurrence_view ps)
all_below p [] h = h
all_below p (q ∷ ps) h = (h.0, all_below p ps h.1)

pub sorted_occurrences : (ps : List Place) → IsStrictlySortedBy place_cmp ps → IsStrictlySortedBy occurrence_cmp (map occurrence_view ps)
unfolding IsStrictlySortedBy
sorted_occurrences [] h = h
sorted_occurrences (p ∷ ps) h = (all_below p ps h.0, sorted_occurrences ps h.1)

-- places that were gathered from occurrences and put in order stand for these occurrences
pub same_occurrences : (all : List Occurrence) (ps : List Place) → ((p : Place) → Contains ps p ↔ Contains (map place_view all) p) → (o : Occurrence) → Contains (map occurrence_view ps) o ↔ Contains all o
same_occurrences all ps same o = (
  (λ there.
      let p = from_map occurrence_view ps o there in
      let q = from_map place_view all p.0 ((same p.0).0 p.1) in
      let back : q.0 ≡ o = (let e : occurrence_view (place_view q.0) ≡ o = ap occurrence_view q.2 ∙ p.2 in e) in
      subst (λ x. Contains all x) back q.1),
  (λ here. to_map occurrence_view ps (place_view o) ((same (place_view o)).1 (to_map place_view all o here))),
)
