use Rattle.std.proofs.Common.{sym, ◌∙◌, map}
use Rattle.std.specs.Str.{bytes_eq}
use Rattle.gq_tree.specs.Views.{input_view}
use Rattle.gq_types.proofs.ArgumentLemmas.{position-map}
use Rattle.gq_types.proofs.arguments.Arguments.place.Goals as goal

pub returns-in-None : goal.returns-in-None
returns-in-None c =
    let test = bytes_eq c.args.name.now in
    let all = c.args.self.all.now in
    c.place_among.ensures ∙ sym (position-map input_view (λ i. test i.name.text) all) ∙ sym (position-map (λ i. i.name.text) test (map input_view all))
