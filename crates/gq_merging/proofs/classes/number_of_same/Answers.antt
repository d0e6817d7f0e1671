use Rattle.gq_merging.specs.Helping.Views.{rows_view}
use Rattle.gq_merging.proofs.ClassLemmas.{under_fragment, under_itself, member_through}
use Rattle.gq_merging.proofs.classes.number_of_same.Goals as goal

pub returns-in-Some-clause-under : goal.returns-in-Some-clause-under
returns-in-Some-clause-under c = under_fragment (rows_view c.args.rows.now) c.args.number c.in-Some.fragment c.in-Some.ensures

pub returns-in_default-clause-under : goal.returns-in_default-clause-under
returns-in_default-clause-under c = under_itself (rows_view c.args.rows.now) c.args.number

pub returns-in-Some-clause-over : goal.returns-in-Some-clause-over
returns-in-Some-clause-over c = member_through (rows_view c.args.rows.now) c.args.number c.in-Some.fragment c.in-Some.ensures
