use Rattle.std.proofs.Common.{◌≡◌, ◌<◌, length, ap, sym, ◌∙◌, arith}
use Rattle.std.proofs.lemmas.List.{length-map}
use Rattle.gq_types.specs.Entries.{entry_view}
use Rattle.gq_type_system.specs.Helping.EndlessInputsPlaces.{required_of}
use Rattle.gq_types.specs.Look.{types_view}
use Rattle.gq_tree.proofs.Trees.{gathers}
use Rattle.gq_type_system.proofs.EntryRows.{rows_more}
use Rattle.gq_type_system.proofs.required_inputs.required_rows.Goals as goal

pub loop-number-preserved : goal.loop-number-preserved
loop-number-preserved c =
    let es = types_view c.args.types.now in
    let long : length c.entries-number-end.result.now ≡ length es = sym (length-map c.entries-number-end.result.now entry_view) ∙ ap length c.entries-number-end.ensures in
    let below : c.loop-number.number < length es = omega (arith, c.loop-number-test.true) in
    let more = rows_more (required_of es) es c.loop-number.number below in
    grind (arith, gathers, more)
