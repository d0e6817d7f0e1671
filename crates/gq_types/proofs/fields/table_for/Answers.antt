use Rattle.std.proofs.Common.{◌≡◌, ◌+◌, ◌∷◌, ◌++◌, add-one, ap, drop, drop-cons, get_or, sym, ◌∙◌}
use Rattle.gq_types.specs.Entries.{entries_view}
use Rattle.gq_types.specs.Helping.FieldTables.{field_names_at, field_places_at}
use Rattle.gq_types.proofs.FieldLemmas.{names_put, places_put}
use Rattle.gq_types.proofs.fields.table_for.Goals as goal

pub loop-number-preserved : goal.loop-number-preserved
loop-number-preserved c =
    let es = entries_view c.args.entries.now in
    let ns = c.args.numbers.now in
    let i = c.loop-number.number-index in
    let old = c.loop-number.table in
    let new = c.add_fields.new.table in
    let fs = c.fields_among.result.now in
    let cut : drop i ns ≡ get_or ns i 0 ∷ drop (i + 1) ns = rw add-one (drop-cons ns i 0 c.loop-number-test.true) in (
      names_put es (get_or ns i 0) (drop (i + 1) ns) fs c.fields_among.ensures old.names new.names (field_names_at es ns) c.in_ok-add_fields.ensures.names
          (ap (λ ys. old.names ++ field_names_at es ys) (sym cut) ∙ c.loop-number.invariant.0),
      places_put es (get_or ns i 0) (drop (i + 1) ns) fs c.fields_among.ensures old.values.items new.values.items (field_places_at es ns) c.in_ok-add_fields.ensures.places
          (ap (λ ys. old.values.items ++ field_places_at es ys) (sym cut) ∙ c.loop-number.invariant.1),
    )
