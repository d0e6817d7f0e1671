use Rattle.std.proofs.lemmas.Result.{on_ok_weaker}
use Rattle.gq_merging.specs.Helping.NameTables.{by_name_view}
use Rattle.gq_merging.specs.Helping.SetTables.{members_at}
use Rattle.gq_merging.specs.Helping.Views.{members_view, rows_view, look_view}
use Rattle.gq_merging.proofs.LookLemmas.{look_all_keyed, looked_alike}
use Rattle.gq_merging.proofs.faults.look_at_sets.Goals as goal

pub returns-then-right-le-FEW : goal.returns-then-right-le-FEW
returns-then-right-le-FEW c =
    on_ok_weaker c.look_among.result
    (λ looked. looked_alike (look_view c.args.look) (members_view c.own_members-left.result.now) (members_at (rows_view c.args.look.rows.now) c.args.left)
    (members_view c.own_members-right.result.now) (members_at (rows_view c.args.look.rows.now) c.args.right)
    c.args.faults.now.items c.look_among.new.faults.items c.args.found.now.keys c.look_among.new.found.keys c.own_members-left.ensures c.own_members-right.ensures looked)
    c.look_among.ensures

pub returns : goal.returns
returns c =
    on_ok_weaker c.look_among_keyed.result
    (λ looked. looked_alike (look_view c.args.look) (members_view c.own_members-left.result.now) (members_at (rows_view c.args.look.rows.now) c.args.left)
    (members_view c.own_members-right.result.now) (members_at (rows_view c.args.look.rows.now) c.args.right)
    c.args.faults.now.items c.look_among_keyed.new.faults.items c.args.found.now.keys c.look_among_keyed.new.found.keys c.own_members-left.ensures c.own_members-right.ensures
    (look_all_keyed (look_view c.args.look) (members_view c.own_members-left.result.now) (members_view c.own_members-right.result.now) (by_name_view c.in_ok-by_key.by_key)
    c.args.faults.now.items c.look_among_keyed.new.faults.items c.args.found.now.keys c.look_among_keyed.new.found.keys c.in_ok-by_key.ensures looked))
    c.look_among_keyed.ensures
