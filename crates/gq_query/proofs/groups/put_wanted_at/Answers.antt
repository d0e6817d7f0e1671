use Rattle.std.proofs.Common.{refl, length}
use Rattle.std.proofs.lemmas.Option.{slice_get_read, slice_get_past}
use Rattle.std.proofs.lemmas.Result.{on_ok_weaker}
use Rattle.gq_index.specs.VariableNames.{used_variables, defined_variables}
use Rattle.gq_query.proofs.Grouped.{both_behind, nothing_wanted, spans_at}
use Rattle.gq_query.proofs.groups.put_wanted_at.Goals as goal

pub returns-in_ok-put_spans_if-in-Some : goal.returns-in_ok-put_spans_if-in-Some
returns-in_ok-put_spans_if-in-Some c =
    let places = c.places.result.now in
    let place = c.in-Some.place.now in
    let got = c.in-Some.ensures.lookup in
    let here = slice_get_read places (length places) c.args.number place refl got.3.0 got.1 in
    on_ok_weaker c.put_spans_if-in-Some.result
    (λ e ds is.
    both_behind c.args.wanted.uses c.args.wanted.declarations c.args.all.now.items _ _ _ _ _ _ c.in_ok-put_spans_if-in-Some.ensures e
    (spans_at used_variables ds c.args.name.now c.args.number places (c.places.ensures ds is) place c.variable_uses-uses.result.now here (c.variable_uses-uses.ensures ds is))
    (spans_at defined_variables ds c.args.name.now c.args.number places (c.places.ensures ds is) place c.variable_definitions-definitions.result.now here (c.variable_definitions-definitions.ensures ds is)))
    c.put_spans_if-in-Some.ensures

pub returns-in-None : goal.returns-in-None
returns-in-None c ds is =
    let places = c.places.result.now in
    nothing_wanted c.args.wanted.uses c.args.wanted.declarations ds c.args.name.now c.args.number places (c.places.ensures ds is) (slice_get_past places c.args.number c.in-None.ensures.lookup.3) c.args.all.now.items
