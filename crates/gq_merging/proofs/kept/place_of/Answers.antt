use Rattle.std.proofs.Common.{◌≡◌, ◌∙◌, Some, length, refl, sym, ap}
use Rattle.std.specs.List.{slice_get}
use Rattle.std.specs.Cmp.Lexicographic.{same_text}
use Rattle.std.proofs.lemmas.Option.{slice_get_read}
use Rattle.gq_merging.proofs.KeptLemmas.{table_at}
use Rattle.gq_merging.proofs.kept.place_of.Goals as goal

pub returns-then-eq : goal.returns-then-eq
returns-then-eq c =
    let there : slice_get c.deref-2.result.now c.in_ok-place.field-0.now ≡ Some c.in_ok-table.table.now =
    slice_get_read c.deref-2.result.now (length c.deref-2.result.now) c.in_ok-place.field-0.now c.in_ok-table.table.now refl c.in_ok-table.ensures.lookup.3.0 c.in_ok-table.ensures.lookup.1 in
    table_at c.args.kept.now.tables.items c.in_ok-place.field-0.now c.in_ok-table.table.now c.args.fragments.now
    (ap (λ ts. slice_get ts c.in_ok-place.field-0.now) (sym c.deref-2.ensures.value) ∙ there)
    (sym c.as_slice.ensures.value ∙ same_text c.as_slice.result.now c.args.fragments.now (sym c.if-eq.true ∙ c.eq.ensures))
