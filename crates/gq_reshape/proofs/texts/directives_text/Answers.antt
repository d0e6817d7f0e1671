use Rattle.std.proofs.Common.{◌∙◌, arith, sym, false-eqb}
use Rattle.std.proofs.lemmas.Result.{IfOk-weaker}
use Rattle.gq_reshape.proofs.LowLemmas.{all_directives, all_fit}
use Rattle.gq_reshape.proofs.texts.directives_text.Goals as goal

pub range-between-requires-clause-start_le_end : goal.range-between-requires-clause-start_le_end
range-between-requires-clause-start_le_end c =
    (all_fit c.args.text.now c.args.directives.now c.index-directives-0.result c.index-directives-directives.result (let some = false-eqb _ _ (sym c.if-is_empty.false ∙ c.is_empty.ensures) in omega (arith, some)) c.requires).0

pub range-between-requires-clause-end_boundary : goal.range-between-requires-clause-end_boundary
range-between-requires-clause-end_boundary c =
    (all_fit c.args.text.now c.args.directives.now c.index-directives-0.result c.index-directives-directives.result (let some = false-eqb _ _ (sym c.if-is_empty.false ∙ c.is_empty.ensures) in omega (arith, some)) c.requires).1

pub returns : goal.returns
returns c =
    IfOk-weaker c.behind_space.result _ _
    (λ made is.
    is
    ∙ all_directives c.args.directives.now c.index-directives-0.result c.index-directives-directives.result c.args.text.now c.range-between.result.now (let some = false-eqb _ _ (sym c.if-is_empty.false ∙ c.is_empty.ensures) in omega (arith, some)) c.range-between.ensures.value)
    c.behind_space.ensures
