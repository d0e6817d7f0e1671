use Rattle.std.proofs.Common.{ap, sym, ◌∙◌}
use Rattle.std.specs.Option.{option_map}
use Rattle.gq_types.specs.Entries.{entries_view}
use Rattle.gq_types.proofs.FieldLemmas.{first_of_entry}
use Rattle.gq_types.proofs.fields.place_in.Goals as goal

pub returns-in_err-index : goal.returns-in_err-index
returns-in_err-index c =
    let found = first_of_entry (entries_view c.args.entries.now) c.args.entry c.args.name.now c.fields_among.result.now c.fields_among.ensures in
    c.from_residual.ensures ∙ ap (option_map (λ i. record { entry = c.args.entry; index = i })) (sym c.in_err-index.was ∙ c.index_in.ensures) ∙ found

pub returns : goal.returns
returns c =
    let found = first_of_entry (entries_view c.args.entries.now) c.args.entry c.args.name.now c.fields_among.result.now c.fields_among.ensures in
    ap (option_map (λ i. record { entry = c.args.entry; index = i })) (sym c.in_ok-index.was ∙ c.index_in.ensures) ∙ found
