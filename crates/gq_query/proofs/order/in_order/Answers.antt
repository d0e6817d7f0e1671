use Rattle.std.proofs.Common.{◌≡◌, ◌↔◌, ◌∙◌, List, Contains, map, ap, subst, sym}
use Rattle.std.specs.List.Sorted.{IsStrictlySortedBy}
use Rattle.gq_index.specs.declared.occurrence.Occurrence.{Occurrence}
use Rattle.gq_query.specs.declared.order.Place.{Place}
use Rattle.gq_query.specs.Order.{occurrence_cmp}
use Rattle.gq_query.specs.Helping.Placed.{occurrence_view}
use Rattle.gq_query.proofs.Ordered.{sorted_occurrences, same_occurrences}
use Rattle.gq_query.proofs.order.in_order.Goals as goal

pub returns-clause-sorted : goal.returns-clause-sorted
returns-clause-sorted c =
    let placed : List Place = c.put_in_order.new.places.items in
    let e : c.in_ok-found.found.items ≡ map occurrence_view placed = c.in_ok-found.ensures ∙ ap (map occurrence_view) c.deref.ensures.value in
    subst (λ (l : List Occurrence). IsStrictlySortedBy occurrence_cmp l) (sym e) (sorted_occurrences placed c.put_in_order.ensures.sorted)

pub returns-clause-same : goal.returns-clause-same
returns-clause-same c = λ o.
    let placed : List Place = c.put_in_order.new.places.items in
    let e : c.in_ok-found.found.items ≡ map occurrence_view placed = c.in_ok-found.ensures ∙ ap (map occurrence_view) c.deref.ensures.value in
    subst (λ (l : List Occurrence). Contains l o ↔ Contains c.args.all.now o) (sym e)
    (same_occurrences c.args.all.now placed (λ p. subst (λ (l : List Place). Contains placed p ↔ Contains l p) c.in_ok-places.ensures (c.put_in_order.ensures.same p)) o)
