use Rattle.std.proofs.Common.{arith}
use Rattle.std.proofs.lemmas.Grind.{common_steps}
use Rattle.std.proofs.lemmas.Option.{gets, slice_get-map}
use Rattle.gq_document.specs.Definitions.{fragment_view}
use Rattle.gq_spreads.proofs.name_rows.put_spreads_at.Goals as goal

pub returns-in-None : goal.returns-in-None
returns-in-None c =
    let lookup = c.in-None.ensures.lookup in
    let viewed = slice_get-map fragment_view c.args.fragments.now c.args.place in
    grind (arith, common_steps, gets)
