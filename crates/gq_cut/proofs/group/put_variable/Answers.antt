use Rattle.std.proofs.Common.{◌≡◌}
use Rattle.std.proofs.lemmas.Option.{slice_get-get_or}
use Rattle.gq_cut.proofs.GroupLemmas.{both_put, none_put}
use Rattle.gq_cut.proofs.group.put_variable.Goals as goal

pub returns-in_ok-put_spans-2 : goal.returns-in_ok-put_spans-2
returns-in_ok-put_spans-2 c ds is =
    let listed = c.places-definitions.result.now in
    both_put ds c.args.number c.args.name.now listed _ c.args.places.now.items c.put_spans.new.places.items c.put_spans-then-number-definitions.new.places.items c.variable_definitions.result.now c.variable_uses.result.now (c.places-definitions.ensures ds is)
    (slice_get-get_or listed c.args.number _ c.if-number-definitions.true) (c.variable_definitions.ensures ds is) (c.variable_uses.ensures ds is) c.in_ok-put_spans.ensures c.in_ok-put_spans-2.ensures

pub returns-else-number-definitions : goal.returns-else-number-definitions
returns-else-number-definitions c ds is = none_put ds c.args.number c.args.name.now c.places-definitions.result.now c.args.places.now.items (c.places-definitions.ensures ds is) c.if-number-definitions.false
