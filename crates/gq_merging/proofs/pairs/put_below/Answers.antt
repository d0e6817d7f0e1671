use Rattle.std.proofs.Common.{rules, ◌≡◌, true}
use Rattle.gq_types.specs.Look.{types_view}
use Rattle.gq_merging.specs.FieldsMerge.{leads_on}
use Rattle.gq_merging.specs.Helping.Views.{met_view, look_view, field_at}
use Rattle.gq_merging.proofs.LookLemmas.{below_led}
use Rattle.gq_merging.proofs.pairs.put_below.Goals as goal

pub returns-in_ok-put_number : goal.returns-in_ok-put_number
returns-in_ok-put_number c =
    let leads : leads_on (types_view c.args.look.types.now) c.args.look.purpose (field_at c.args.one.now.left.it) (field_at c.args.one.now.right.it) ≡ true = search rules in
    below_led (look_view c.args.look) (met_view c.args.one.now) c.args.found.now.keys c.put_number.new.found.keys leads c.in_ok-put_number.ensures
