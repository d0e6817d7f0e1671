use Rattle.std.proofs.Common.{sym, ◌∙◌}
use Rattle.gq_tree.specs.Views.{variable_view}
use Rattle.gq_types.specs.Look.{types_view}
use Rattle.gq_variables.specs.Helping.Views.{variables_view}
use Rattle.gq_variables.proofs.AgainLemmas.{unknown_adds_nothing, covered_adds_nothing}
use Rattle.gq_variables.proofs.again.adds_nothing.Goals as goal

pub returns-then-not-is_known : goal.returns-then-not-is_known
returns-then-not-is_known c = λ t.
    unknown_adds_nothing (types_view c.args.types.now) (variables_view c.args.known.now) (variable_view c.args.other.now) (sym c.is_known.ensures ∙ c.if-not-is_known.true)

pub returns-then-are_of_two_types : goal.returns-then-are_of_two_types
returns-then-are_of_two_types c = λ t. c.are_of_two_types.ensures c.if-are_of_two_types.true (variable_view c.args.other.now)

pub returns : goal.returns
returns c = λ covered.
    covered_adds_nothing (types_view c.args.types.now) (variables_view c.args.known.now) (variable_view c.args.other.now) (sym c.is_covered.ensures ∙ covered)
