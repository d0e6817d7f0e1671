use Rattle.std.proofs.Common.{◌≡◌, ◌+◌, ◌++◌, ◌∷◌, [], ◌<◌, List, length, ap, sym, ◌∙◌, flat_map, arith}
use Rattle.std.proofs.lemmas.List.{length-map, map-append}
use Rattle.gq_type_system.specs.Helping.DefaultValuesPlaces.{fields_view, fields_at, fields_left, number_rows, count_from}
use Rattle.gq_types.specs.Entries.{entry_view}
use Rattle.gq_type_system.specs.EndlessInputs.{InputField}
use Rattle.gq_type_system.specs.Helping.EndlessInputsPlaces.{row_items}
use Rattle.gq_types.specs.Look.{types_view}
use Rattle.gq_type_system.proofs.Numbering.{fields_step, rows_step}
use Rattle.gq_type_system.proofs.EntryRows.{rows_more}
use Rattle.gq_type_system.proofs.input_fields.input_fields.Goals as goal

pub loop-number-preserved : goal.loop-number-preserved
loop-number-preserved c =
    let es = types_view c.args.types.now in
    let i = c.loop-number.number in
    let long : length c.entries-number-end.result.now ≡ length es = sym (length-map c.entries-number-end.result.now entry_view) ∙ ap length c.entries-number-end.ensures in
    let below : i < length es = omega (arith, c.loop-number-test.true) in
    let more : fields_left es i ≡ fields_at es i ∷ fields_left es (i + 1) = rows_more (fields_at es) es i below in
    let longer : fields_view c.put_fields_of.new.fields.items ≡ fields_view c.loop-number.fields.items ++ fields_at es i = c.in_ok-put_fields_of.ensures.fields in
    let counted : row_items c.push.new.self.items ≡ row_items c.loop-number.numbers.items ++ count_from (length (fields_view c.loop-number.fields.items)) (fields_at es i) ∷ [] =
    ap row_items c.in_ok-push.ensures.items ∙ map-append (λ v. v.items) c.loop-number.numbers.items (c.in_ok-put_fields_of.field-0 ∷ [])
    ∙ ap (λ ns. row_items c.loop-number.numbers.items ++ ns ∷ []) c.in_ok-put_fields_of.ensures.numbers in
    record {
      fields = fields_step (fields_view c.loop-number.fields.items) (fields_view c.put_fields_of.new.fields.items) _ (fields_at es i) (flat_map (λ fields. fields) (fields_left es (i + 1))) longer
          (ap (λ (xss : List (List InputField)). fields_view c.loop-number.fields.items ++ flat_map (λ fields. fields) xss) (sym more) ∙ c.loop-number.invariant.fields);
      numbers = rows_step (row_items c.loop-number.numbers.items) (row_items c.push.new.self.items) _ (fields_view c.loop-number.fields.items) (fields_view c.put_fields_of.new.fields.items) (fields_at es i) (fields_left es (i + 1)) counted longer
          (ap (λ (xss : List (List InputField)). row_items c.loop-number.numbers.items ++ number_rows (length (fields_view c.loop-number.fields.items)) xss) (sym more) ∙ c.loop-number.invariant.numbers);
    }
