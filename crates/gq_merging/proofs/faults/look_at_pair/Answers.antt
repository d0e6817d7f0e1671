use Rattle.std.proofs.Common.{rules, ◌/◌, ◌%◌, Contains, length, subst}
use Rattle.gq_merging.specs.Helping.PairTables.{IsGiven, IsNumber, Gains}
use Rattle.gq_merging.specs.Helping.Views.{look_view}
use Rattle.gq_merging.proofs.LookLemmas.{gains_after}
use Rattle.gq_merging.proofs.PairNumbers.{right_below}
use Rattle.gq_merging.proofs.faults.look_at_pair.Goals as goal

pub returns-clause-gains : goal.returns-clause-gains
returns-clause-gains c =
    let count = length c.args.look.rows.now in
    let left = c.args.number / count in
    let right = c.args.number % count in
    gains_after (look_view c.args.look) c.args.number c.args.faults.now.items c.look_at_sets.new.faults.items
    c.args.found.now.keys c.look_at_sets.new.found.keys c.put_lefts.new.found.keys c.put_rights.new.found.keys
    c.in_ok-look_at_sets.ensures
    (subst (λ ns. Gains (IsGiven (Contains ns) (λ l. IsNumber count c.args.look.size l right)) c.look_at_sets.new.found.keys c.put_lefts.new.found.keys) c.own_spreads.ensures c.in_ok-put_lefts.ensures)
    (subst (λ ns. Gains (IsGiven (Contains ns) (λ r. IsNumber count c.args.look.size left r)) c.put_lefts.new.found.keys c.put_rights.new.found.keys) c.own_spreads-2.ensures c.in_ok-put_rights.ensures)

pub overflow_cast-right : goal.overflow_cast-right
overflow_cast-right c = let below = right_below (length c.args.look.rows.now) c.args.number c.requires.number in search (rules, below)
