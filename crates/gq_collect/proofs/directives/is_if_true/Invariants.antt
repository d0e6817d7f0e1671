use Rattle.std.proofs.Common.{◌≡◌, drop, map, false}
use Rattle.std.specs.Prelude.{codes}
use Rattle.std.specs.Option.{option_map_or}
use Rattle.gq_tree.specs.Views.{argument_view}
use Rattle.gq_table.specs.Views.{entries_view}
use Rattle.gq_meaning.specs.Directives.{holds_true, argument_of}
use Rattle.gq_collect.proofs.directives.is_if_true.Given as goal

abbrev pub invariant-loop-argument : goal.invariant-loop-argument
invariant-loop-argument l = argument_of (codes "if") (map argument_view l.directive.arguments.items) ≡ argument_of (codes "if") (map argument_view (drop l.argument-index l.argument-items))
