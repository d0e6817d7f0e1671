use Rattle.std.proofs.Common.{sym}
use Rattle.serde_json.specs.View.{view}
use Rattle.gq_check.proofs.BodyLemmas.{value_is, no_value}
use Rattle.gq_check.proofs.inputs.json_in.Goals as goal

pub returns-in-Ok : goal.returns-in-Ok
returns-in-Ok c = sym (value_is c.args.bytes.now (view c.in-Ok.value) c.in-Ok.ensures.ok.0 c.in-Ok.ensures.ok.1)

pub returns-in-Err-2 : goal.returns-in-Err-2
returns-in-Err-2 c =
    sym (no_value c.args.bytes.now (c.in-Err.ensures.err (λ m. let t = c.is_memory.ensures.1 m in let f = c.if-is_memory.false in absurd (cc))))
