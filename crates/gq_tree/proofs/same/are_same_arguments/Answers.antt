use Rattle.std.proofs.Common.{sym, ◌∙◌, map}
use Rattle.gq_tree.specs.Plain.{place_value, no_place}
use Rattle.gq_tree.specs.Same.{same_values}
use Rattle.gq_tree.specs.Views.{argument_view}
use Rattle.gq_tree.proofs.Sameness.{lists_decide, values_decide}
use Rattle.gq_tree.proofs.same.are_same_arguments.Goals as goal

pub returns : goal.returns
returns c =
    let d = lists_decide same_values (place_value no_place) (place_value no_place) values_decide (map argument_view c.args.a.now) (map argument_view c.args.b.now) in
    (λ h. d.0 (sym c.have_same_arguments.ensures ∙ h), λ h. c.have_same_arguments.ensures ∙ d.1 h)
