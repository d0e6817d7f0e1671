-- Places in the order of documents and texts.
use Rattle.std.specs.Prelude.{◌↔◌, List, Contains}
use Rattle.std.specs.Ordering.{nat_cmp, on, then_cmp}
use Rattle.std.specs.declared.cmp.Ordering.{Ordering}
use Rattle.std.specs.List.Sorted.{IsStrictlySortedBy}
use Rattle.gq_index.specs.declared.occurrence.Occurrence.{Occurrence}

-- by the document, the start and the end
abbrev pub occurrence_cmp : Occurrence → Occurrence → Ordering
occurrence_cmp = then_cmp (on (λ o. o.file) nat_cmp) (then_cmp (on (λ o. o.span.start) nat_cmp) (on (λ o. o.span.end) nat_cmp))

-- these places are exactly those, in order, each once
pub record AreExactly (Is : Occurrence → Type 0) (found : List Occurrence) : Type 0 where
  pub sorted : IsStrictlySortedBy occurrence_cmp found
  pub exact : (o : Occurrence) → Contains found o ↔ Is o
