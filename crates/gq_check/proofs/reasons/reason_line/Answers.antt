use Rattle.std.proofs.Common.{ℕ, Vec, ap, ◌∙◌}
use Rattle.std.specs.declared.alloc.Global.{Global}
use Rattle.gq_check.proofs.FormLemmas.{reason-joined}
use Rattle.gq_check.proofs.reasons.reason_line.Goals as goal

pub returns : goal.returns
returns c = reason-joined c.args.name.now c.args.why.now _ (ap (λ (bytes : Vec ℕ Global). bytes.items) c.into_bytes.ensures.value ∙ c.in_ok-line.ensures.ok)
