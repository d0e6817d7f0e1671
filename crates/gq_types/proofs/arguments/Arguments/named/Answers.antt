use Rattle.std.proofs.Common.{sym}
use Rattle.gq_tree.specs.Views.{input_view}
use Rattle.gq_types.proofs.ArgumentLemmas.{found_place, found_nowhere}
use Rattle.gq_types.proofs.arguments.Arguments.named.Goals as goal

pub returns-in-Some : goal.returns-in-Some
returns-in-Some c =
    sym (found_place input_view (λ a. a.name.text) c.args.name.now c.args.self.all.now c.in-Some.place c.index-self-place.result (sym c.in-Some.ensures))

pub returns-in-None : goal.returns-in-None
returns-in-None c =
    sym (found_nowhere input_view (λ a. a.name.text) c.args.name.now c.args.self.all.now (sym c.in-None.ensures))
