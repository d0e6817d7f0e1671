use Rattle.std.proofs.Common.{◌≡◌, ◌+◌, ◌++◌, ℕ, List, ap, sym, ◌∙◌, drop, get_or, flat_map, length}
use Rattle.std.proofs.lemmas.List.{at_drop_more}
use Rattle.gq_type_system.specs.Helping.DefaultValuesPlaces.{fields_view, named_fields, named_fields_at, count_from}
use Rattle.gq_type_system.specs.EndlessInputs.{InputField}
use Rattle.gq_types.specs.Look.{types_view}
use Rattle.gq_type_system.proofs.Numbering.{fields_step, numbers_step}
use Rattle.gq_type_system.proofs.input_fields.put_fields_of.Goals as goal

pub loop-joined-preserved : goal.loop-joined-preserved
loop-joined-preserved c =
    let g : ℕ → List InputField = named_fields_at (types_view c.args.types.now) c.type_name-type_name.result.now in
    let js = c.joined-joined-items.result.now in
    let i = c.loop-joined.joined-index in
    let rest : List InputField = flat_map g (drop (i + 1) js) in
    let more : flat_map g (drop i js) ≡ g (get_or js i 0) ++ rest = at_drop_more (flat_map g) js i 0 c.loop-joined-test.true in
    let read = ap (named_fields c.type_name-type_name.result.now) c.inputs_at.ensures in
    let longer : fields_view c.put_fields.new.fields.items ≡ fields_view c.loop-joined.fields.items ++ g (get_or js i 0) =
    c.in_ok-put_fields.ensures.fields ∙ ap (λ xs. fields_view c.loop-joined.fields.items ++ xs) read in
    let counted : c.put_fields.new.numbers.items ≡ c.loop-joined.numbers.items ++ count_from (length (fields_view c.loop-joined.fields.items)) (g (get_or js i 0)) =
    c.in_ok-put_fields.ensures.numbers ∙ ap (λ (xs : List InputField). c.loop-joined.numbers.items ++ count_from (length (fields_view c.loop-joined.fields.items)) xs) read in
    record {
      fields = fields_step (fields_view c.loop-joined.fields.items) (fields_view c.put_fields.new.fields.items) _ (g (get_or js i 0)) rest longer
          (ap (λ xs. fields_view c.loop-joined.fields.items ++ xs) (sym more) ∙ c.loop-joined.invariant.fields);
      numbers = numbers_step c.loop-joined.numbers.items c.put_fields.new.numbers.items _ (fields_view c.loop-joined.fields.items) (fields_view c.put_fields.new.fields.items) (g (get_or js i 0)) rest counted longer
          (ap (λ (xs : List InputField). c.loop-joined.numbers.items ++ count_from (length (fields_view c.loop-joined.fields.items)) xs) (sym more) ∙ c.loop-joined.invariant.numbers);
    }
