use Rattle.std.proofs.Common.{◌∙◌}
use Rattle.std.proofs.lemmas.Result.{IfOk-weaker}
use Rattle.gq_table.proofs.JsonLemmas.{not_two, two_items}
use Rattle.gq_table.proofs.json_rows.read_object_items.Goals as goal

pub returns : goal.returns
returns c =
    IfOk-weaker c.object_outcome.result _ _ (λ o e. e ∙ two_items c.args.items.now c.index-items-0.result c.index-items-1.result c.if-items-ne2.false c.index-items-0.is c.index-items-1.is) c.object_outcome.ensures

pub returns-then-items-ne2 : goal.returns-then-items-ne2
returns-then-items-ne2 c = not_two c.args.items.now c.if-items-ne2.true
