use Rattle.std.proofs.Common.{refl}
use Rattle.gq_tree.specs.Views.{type_system_view}
use Rattle.gq_kept.specs.Helping.Compared.{alike}
use Rattle.gq_kept.specs.Helping.Texts.{texts_at}
use Rattle.gq_kept.proofs.ComparedLemmas.{same_without}
use Rattle.gq_kept.proofs.GatheredLemmas.{nothing_gathered}
use Rattle.gq_kept.proofs.differing.Differing.compare.Goals as goal

pub returns-then-is_same_definition : goal.returns-then-is_same_definition
returns-then-is_same_definition c =
    let same = c.is_same_definition.ensures c.if-is_same_definition.true in
    record {
      names = λ done. nothing_gathered (texts_at c.args.self.now.names.items) (λ texts. same_without texts (type_system_view c.args.one.now) (type_system_view c.args.other.now) same);
      objects = λ done are. (are, alike same refl);
    }
