use Rattle.std.proofs.Common.{sym, ◌∙◌, ap}
use Rattle.std.specs.Prelude.{position}
use Rattle.std.specs.Str.{bytes_eq}
use Rattle.gq_tree.specs.Views.{variable_view}
use Rattle.gq_types.proofs.ArgumentLemmas.{found_place, found_nowhere}
use Rattle.gq_variables.proofs.variables.Variables.first.Goals as goal

pub returns-in-Some : goal.returns-in-Some
returns-in-Some c =
    sym (found_place variable_view (λ v. v.name.text) c.args.name.now c.args.self.now.all.now c.in-Some.place c.index-self-place.result
    (ap (position (bytes_eq c.args.name.now)) (sym c.args.self.now.are_named) ∙ sym c.in-Some.ensures))

pub returns-in-None : goal.returns-in-None
returns-in-None c =
    sym (found_nowhere variable_view (λ v. v.name.text) c.args.name.now c.args.self.now.all.now
    (ap (position (bytes_eq c.args.name.now)) (sym c.args.self.now.are_named) ∙ sym c.in-None.ensures))
