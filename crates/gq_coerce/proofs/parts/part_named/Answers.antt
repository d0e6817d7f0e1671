use Rattle.std.proofs.Common.{◌≡◌, ap, sym, ◌∙◌, map}
use Rattle.std.specs.Option.{option_map}
use Rattle.gq_tree.specs.Views.{value_view}
use Rattle.gq_coerce.proofs.Finding.{found_at, found_nowhere}
use Rattle.gq_coerce.proofs.parts.part_named.Goals as goal

pub returns-in-Some : goal.returns-in-Some
returns-in-Some c =
    ap (option_map (λ p. value_view p.value.now)) (sym (found_at (λ p. p.name.now) c.args.name.now c.args.parts.now c.args.names.now c.requires c.in-Some.place c.index-parts-place.result (sym c.place.ensures ∙ c.in-Some.is) c.index-parts-place.is))

pub returns-in-None : goal.returns-in-None
returns-in-None c = ap (option_map (λ p. value_view p.value.now)) (sym (found_nowhere (λ p. p.name.now) c.args.name.now c.args.parts.now c.args.names.now c.requires (sym c.place.ensures ∙ c.in-None.is)))
