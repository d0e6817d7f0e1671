use Rattle.std.proofs.Common.{◌≡◌, ap, sym, ◌∙◌, false}
use Rattle.std.specs.Option.{option_map, option_map_or}
use Rattle.gq_table.specs.Views.{under, value_view}
use Rattle.gq_meaning.specs.Directives.{is_true}
use Rattle.gq_collect.proofs.directives.is_variable_true.Goals as goal

pub returns-in-Some : goal.returns-in-Some
returns-in-Some c =
    c.is_given_true.ensures ∙ ap (λ o. option_map_or (λ v. is_true v.label.says) o false) (ap (option_map (λ v. under c.args.name.now (value_view v.now))) (sym c.in-Some.is) ∙ c.get.ensures)

pub returns-in-None : goal.returns-in-None
returns-in-None c = ap (λ o. option_map_or (λ v. is_true v.label.says) o false) (ap (option_map (λ v. under c.args.name.now (value_view v.now))) (sym c.in-None.is) ∙ c.get.ensures)
