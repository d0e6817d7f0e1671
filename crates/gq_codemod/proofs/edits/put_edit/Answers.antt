use Rattle.std.proofs.Common.{◌∙◌}
use Rattle.gq_codemod.proofs.Lines.{line-joined}
use Rattle.gq_codemod.proofs.edits.put_edit.Goals as goal

pub returns : goal.returns
returns c =
    line-joined c.args.name.now c.args.edit.now _ _ _ _ _ (c.as_str-start.ensures.value ∙ c.in_ok-start.ensures) (c.as_str-end.ensures.value ∙ c.in_ok-end.ensures) c.as_str-text.ensures c.in_ok-write.ensures.bytes
