use Rattle.std.proofs.Common.{◌+◌, ap}
use Rattle.gq_check.proofs.FormLemmas.{line-joined}
use Rattle.gq_check.proofs.formats.line_text.Goals as goal

pub returns : goal.returns
returns c =
    line-joined c.args.found.now c.args.position _ _ _ _ _ _ c.as_str-key.ensures (ap (λ n. n + 1) c.from.ensures) (ap (λ n. n + 1) c.from-2.ensures) c.as_str-code.ensures c.words-words.ensures c.in_ok-text.ensures.ok
