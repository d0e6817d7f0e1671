use Rattle.std.proofs.Common.{◌≡◌, false, ap, sym, ◌∙◌, subst}
use Rattle.std.specs.Option.{option_map_or}
use Rattle.gq_table.specs.Views.{entries_view}
use Rattle.gq_meaning.specs.Directives.{holds_true}
use Rattle.gq_collect.proofs.DirectiveWalks.{of_if, argument_here, argument_later, no_argument}
use Rattle.gq_collect.proofs.directives.is_if_true.Goals as goal

pub returns-then-eq : goal.returns-then-eq
returns-then-eq c =
    argument_here (entries_view c.args.variables.now) c.args.directive.now.arguments.items c.deref-argument-items.result.now c.loop-argument.argument-index c.argument-item.result _ _ _ c.deref-argument-items.ensures.value
    c.loop-argument-test.true c.argument-item.is c.as_str.ensures c.eq.ensures c.if-eq.true c.is_true.ensures c.loop-argument.invariant

pub loop-argument-preserved : goal.loop-argument-preserved
loop-argument-preserved c =
    argument_later c.args.directive.now.arguments.items c.deref-argument-items.result.now c.loop-argument.argument-index c.argument-item.result _ _
    c.loop-argument-test.true c.argument-item.is c.as_str.ensures c.eq.ensures c.if-eq.false c.loop-argument.invariant

pub returns : goal.returns
returns c = no_argument (entries_view c.args.variables.now) c.args.directive.now.arguments.items c.deref-argument-items.result.now c.loop-argument.argument-index c.loop-argument-test.false c.loop-argument.invariant
