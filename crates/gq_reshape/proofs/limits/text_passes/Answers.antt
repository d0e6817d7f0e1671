use Rattle.std.proofs.Common.{◌∙◌, ap, sym, List, ℕ}
use Rattle.std.specs.Option.{option_copied}
use Rattle.gq_text.specs.Replaced.{replaced}
use Rattle.gq_reshape.proofs.Limiting.{text_told}
use Rattle.gq_reshape.proofs.limits.text_passes.Goals as goal

pub returns : goal.returns
returns c =
    text_told c.args.project.now c.args.edit.now c.in-Some.doc.now c.as_str-2.result.now c.tokens_pass_limit.result
    (sym c.document.ensures ∙ ap option_copied c.in-Some.is)
    (c.as_str-2.ensures ∙ c.in_ok-text.ensures ∙ ap (λ rs. replaced rs c.as_str.result.now) c.as_slice.ensures.all ∙ ap (λ (t : List ℕ). replaced c.args.edit.now.replacements t) c.as_str.ensures)
    c.tokens_pass_limit.ensures
