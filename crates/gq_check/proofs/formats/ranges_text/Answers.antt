use Rattle.std.proofs.Common.{◌∙◌}
use Rattle.gq_check.proofs.FormLemmas.{ranges-joined}
use Rattle.gq_check.proofs.formats.ranges_text.Goals as goal

pub returns : goal.returns
returns c =
    ranges-joined c.args.in_units c.args.in_bytes _ _ _ (c.as_str-units.ensures.value ∙ c.in_ok-units.ensures) (c.as_str-bytes.ensures.value ∙ c.in_ok-bytes.ensures) c.in_ok-text.ensures.ok
