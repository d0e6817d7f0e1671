use Rattle.std.proofs.Common.{sym}
use Rattle.gq_tree.specs.Same.{same_values}
use Rattle.gq_tree.specs.Views.{argument_view}
use Rattle.gq_tree.proofs.Sameness.{lists_apart}
use Rattle.gq_tree.proofs.same.have_same_arguments.Goals as goal

pub returns-then-a-b : goal.returns-then-a-b
returns-then-a-b c = sym (lists_apart argument_view argument_view same_values c.args.a.now c.args.b.now c.if-a-b.true)
