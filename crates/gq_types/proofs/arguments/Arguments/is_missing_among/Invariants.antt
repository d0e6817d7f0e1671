use Rattle.std.proofs.Common.{◌≡◌, drop, map}
use Rattle.std.specs.List.{list_any}
use Rattle.gq_tree.specs.Views.{input_view}
use Rattle.gq_types.specs.Required.{is_missing_by}
use Rattle.gq_types.proofs.arguments.Arguments.is_missing_among.Given as goal

abbrev pub invariant-loop-definition : goal.invariant-loop-definition
invariant-loop-definition l =
    list_any (λ d. is_missing_by (map input_view l.self.all.now) l.given (input_view d)) (drop l.definition-index l.all) ≡ list_any (λ d. is_missing_by (map input_view l.self.all.now) l.given (input_view d)) l.self.all.now
