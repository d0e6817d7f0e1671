use Rattle.gq_merging.specs.Helping.Views.{rows_view}
use Rattle.gq_merging.proofs.ClassLemmas.{under_pushed, under_none}
use Rattle.gq_merging.proofs.classes.put_number.Goals as goal

pub returns-in_ok-push-clause-under : goal.returns-in_ok-push-clause-under
returns-in_ok-push-clause-under c = under_pushed (rows_view c.args.rows.now) c.args.number c.number_of_same.result c.args.group.now.items c.push.new.self.items c.number_of_same.ensures.under c.in_ok-push.ensures.items

pub returns-else-has_selections-clause-under : goal.returns-else-has_selections-clause-under
returns-else-has_selections-clause-under c = under_none (rows_view c.args.rows.now) c.args.number c.args.group.now.items (c.has_selections.ensures.none c.if-has_selections.false)
