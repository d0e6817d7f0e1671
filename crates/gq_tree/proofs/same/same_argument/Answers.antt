use Rattle.gq_tree.specs.Views.{name_of}
use Rattle.gq_tree.proofs.ValueLemmas.{named_alike}
use Rattle.gq_tree.proofs.same.same_argument.Goals as goal

pub returns : goal.returns
returns c =
    named_alike (name_of c.args.a.now.name) (name_of c.args.b.now.name) c.args.a.now.value c.args.b.now.value c.have_same_text.result c.same_value.result c.have_same_text.ensures c.if-not-have_same_text.false c.same_value.ensures
