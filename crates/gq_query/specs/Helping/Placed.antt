-- The code's places and occurrences.
use Rattle.std.specs.Ordering.{nat_cmp, on, then_cmp}
use Rattle.std.specs.declared.cmp.Ordering.{Ordering}
use Rattle.gq_index.specs.declared.occurrence.Occurrence.{Occurrence}
use Rattle.gq_query.specs.declared.order.Place.{Place}

abbrev pub occurrence_view : Place → Occurrence
occurrence_view p = record { file = p.file; span = p.span }

abbrev pub place_view : Occurrence → Place
place_view o = record { file = o.file; span = o.span }

abbrev pub place_cmp : Place → Place → Ordering
place_cmp = then_cmp (on (λ p. p.file) nat_cmp) (then_cmp (on (λ p. p.span.start) nat_cmp) (on (λ p. p.span.end) nat_cmp))
