use Rattle.std.proofs.Common.{◌≡◌, ap, ◌∙◌, map, true, subst}
use Rattle.std.specs.Prelude.{filter}
use Rattle.gq_tree.specs.Views.{variable_view}
use Rattle.gq_variables.specs.Helping.Alike.{is_named, are_alike}
use Rattle.gq_variables.specs.Helping.Views.{variables_view}
use Rattle.gq_variables.proofs.AlikeLemmas.{as_before}
use Rattle.gq_variables.proofs.alike.are_as_before.Goals as goal

pub returns : goal.returns
returns c =
    let earlier = ap variables_view c.deref.ensures.value ∙ c.in_ok-before.ensures in
    let later = ap variables_view c.deref-2.ensures.value ∙ c.in_ok-now.ensures in
    λ alike. as_before c.args.names.now (map variable_view c.args.before.now) (map variable_view c.args.now.now)
    (subst (λ ws. are_alike ws (filter (is_named c.args.names.now) (map variable_view c.args.now.now)) ≡ true) earlier
    (subst (λ vs. are_alike (variables_view c.deref.result.now) vs ≡ true) later (c.are_alike.ensures alike)))
