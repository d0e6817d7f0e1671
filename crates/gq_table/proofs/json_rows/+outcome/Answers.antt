use Rattle.std.proofs.Common.{◌∙◌, refl}
use Rattle.gq_table.specs.Json.{result_tagged}
use Rattle.gq_table.proofs.JsonLemmas.{not_one}
use Rattle.gq_table.proofs.json_rows.+outcome.Goals as goal

pub read_outcome_tagged-returns-then-len-ne1 : goal.read_outcome_tagged-returns-then-len-ne1
read_outcome_tagged-returns-then-len-ne1 t c = not_one result_tagged refl (λ k l d e ms. refl) c.args.members.now.entries (λ h. c.if-len-ne1.true (c.len.ensures.len ∙ h))
