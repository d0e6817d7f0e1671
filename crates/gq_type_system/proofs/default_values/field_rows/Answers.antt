use Rattle.std.proofs.Common.{◌++◌, ◌∷◌, [], ◌+◌, List, ℕ, map, ap, sym, ◌∙◌, drop}
use Rattle.std.proofs.lemmas.List.{at_drop_more, map-append}
use Rattle.gq_type_system.specs.EndlessInputs.{InputField}
use Rattle.gq_type_system.specs.Helping.DefaultValuesPlaces.{fields_view, field_leads}
use Rattle.gq_type_system.specs.Helping.EndlessInputsPlaces.{row_items}
use Rattle.gq_types.specs.Look.{types_view}
use Rattle.gq_type_system.proofs.Numbering.{fields_step}
use Rattle.gq_type_system.proofs.default_values.field_rows.Goals as goal

pub loop-field-preserved : goal.loop-field-preserved
loop-field-preserved c =
    let leads : InputField → List ℕ = field_leads (types_view c.args.types.now) (fields_view c.args.all.now.fields.items) (row_items c.args.all.now.numbers.items) in
    let fields = c.deref-field-items.result.now in
    let i = c.loop-field.field-index in
    let put = ap row_items c.in_ok-push.ensures.items ∙ map-append (λ v. v.items) c.loop-field.rows.items (c.in_ok-field_leads.field-0 ∷ [])
    ∙ ap (λ row. row_items c.loop-field.rows.items ++ row ∷ []) c.in_ok-field_leads.ensures in
    fields_step (row_items c.loop-field.rows.items) (row_items c.push.new.self.items) _ _ (map leads (fields_view (drop (i + 1) fields))) put
    (ap (λ rows. row_items c.loop-field.rows.items ++ rows) (sym (at_drop_more (λ rest. map leads (fields_view rest)) fields i _ c.loop-field-test.true)) ∙ c.loop-field.invariant)
