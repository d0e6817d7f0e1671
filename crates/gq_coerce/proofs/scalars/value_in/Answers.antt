use Rattle.std.proofs.Common.{◌≡◌, ◌∙◌, ap, sym}
use Rattle.std.specs.Option.{option_map, option_map_or}
use Rattle.gq_table.specs.Views.{value_view, under}
use Rattle.gq_coerce.specs.Coerced.{absent, given, unnamed}
use Rattle.gq_coerce.proofs.Trees.{unnamed_view}
use Rattle.gq_coerce.proofs.scalars.value_in.Goals as goal

pub returns-in_ok-copied-in-Some : goal.returns-in_ok-copied-in-Some
returns-in_ok-copied-in-Some c =
    ap given (c.in_ok-copied-in-Some.ensures ∙ sym (unnamed_view c.in-Some.value.now))
    ∙ ap (λ o. option_map_or (λ v. given (unnamed v)) o absent) (ap (option_map (λ v. under c.args.name.now (value_view v.now))) (sym c.in-Some.is) ∙ c.get.ensures)
