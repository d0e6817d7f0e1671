use Rattle.std.proofs.Common.{◌≡◌, List, Vec, Global, ℕ, map, ap, sym, ◌∙◌, subst}
use Rattle.std.proofs.lemmas.Result.{IfOk-weaker}
use Rattle.gq_type_system.specs.EndlessInputs.{InputField}
use Rattle.gq_type_system.specs.Helping.EndlessInputsPlaces.{row_items, MarksByDefault}
use Rattle.gq_type_system.specs.Helping.DefaultValuesPlaces.{fields_view, lead_table, all_fields, field_numbers, any_marked}
use Rattle.gq_types.specs.Entries.{EntryOf}
use Rattle.gq_types.specs.Look.{types_view}
use Rattle.gq_type_system.proofs.DefaultWays.{defaults_in_range, marks_by_default}
use Rattle.gq_type_system.proofs.default_values.marked_by_default.Goals as goal

-- the rows by the fields and numbers that were found
known_rows : (es : List EntryOf) (rows : List (Vec ℕ Global)) (fields : List InputField) (numbers : List (List ℕ)) → row_items rows ≡ lead_table es fields numbers
    → fields ≡ all_fields es → numbers ≡ field_numbers es → row_items rows ≡ lead_table es (all_fields es) (field_numbers es)
known_rows es rows fields numbers is fields_are numbers_are = is ∙ (λ i. lead_table es (fields_are i) (numbers_are i))

pub on_cycles-requires : goal.on_cycles-requires
on_cycles-requires c =
    record {
      rows = defaults_in_range (types_view c.args.types.now) c.deref.result.now
          (known_rows (types_view c.args.types.now) c.deref.result.now (fields_view c.in_ok-all.all.fields.items) (row_items c.in_ok-all.all.numbers.items)
          (ap row_items c.deref.ensures.value ∙ c.in_ok-rows.ensures) c.in_ok-all.ensures.fields c.in_ok-all.ensures.numbers);
    }

pub returns : goal.returns
returns c =
    let es = types_view c.args.types.now in
    let rows = known_rows es c.deref.result.now (fields_view c.in_ok-all.all.fields.items) (row_items c.in_ok-all.all.numbers.items)
    (ap row_items c.deref.ensures.value ∙ c.in_ok-rows.ensures) c.in_ok-all.ensures.fields c.in_ok-all.ensures.numbers in
    let marks = marks_by_default es c.deref.result.now rows c.in_ok-marks.marks.items c.in_ok-marks.ensures.exact in
    let seen : map (any_marked c.deref-2.result.now) (row_items c.deref-3.result.now) ≡ map (any_marked c.in_ok-marks.marks.items) (field_numbers es) =
    (λ i. map (any_marked (c.deref-2.ensures.value i)) (row_items (c.deref-3.ensures.value i))) ∙ ap (λ (ns : List (List ℕ)). map (any_marked c.in_ok-marks.marks.items) ns) c.in_ok-all.ensures.numbers in
    IfOk-weaker c.marked_rows.result _ (λ marks. MarksByDefault es marks.items)
    (λ marked is. subst (MarksByDefault es) (sym (is ∙ seen)) marks)
    c.marked_rows.ensures
