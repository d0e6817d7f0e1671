use Rattle.std.proofs.Common.{ap, sym, ◌∙◌}
use Rattle.std.specs.Option.{option_and_then}
use Rattle.gq_types.specs.Joined.{inputs_in_body}
use Rattle.gq_types.specs.Look.{types_view, input_of}
use Rattle.gq_types.specs.Helping.Tables.{lists_in, stands_at}
use Rattle.gq_types.proofs.PartLookups.{input_is}
use Rattle.gq_types.proofs.types.Types.input_field.Goals as goal

pub returns-in_err-place : goal.returns-in_err-place
returns-in_err-place c =
    let es = types_view c.args.self.now in
    let found = input_is es c.args.name.now (lists_in c.in_ok-parts_named.field-0.now) c.args.type_name.now c.in_ok-parts_named.ensures in
    ap input_of c.from_residual-in_err-place.ensures ∙ sym (found ∙ ap (λ o. option_and_then (λ p. stands_at inputs_in_body es p) o) (sym c.get.ensures ∙ c.in_err-place.was))

pub returns : goal.returns
returns c =
    let es = types_view c.args.self.now in
    let found = input_is es c.args.name.now (lists_in c.in_ok-parts_named.field-0.now) c.args.type_name.now c.in_ok-parts_named.ensures in
    c.input_at.ensures ∙ ap (λ xs. stands_at inputs_in_body xs c.in_ok-place.place) c.entries.ensures
    ∙ sym (found ∙ ap (λ o. option_and_then (λ p. stands_at inputs_in_body es p) o) (sym c.get.ensures ∙ c.in_ok-place.was))
