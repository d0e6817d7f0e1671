use Rattle.gq_rpc.specs.Decoding.{body_value}
use Rattle.gq_check.proofs.BodyLemmas.{no_value}
use Rattle.gq_check.proofs.FlawLemmas.{no_table_why}
use Rattle.gq_check.proofs.flaws.table_why.Goals as goal

pub returns-in_ok-format-in-Err-2 : goal.returns-in_ok-format-in-Err-2
returns-in_ok-format-in-Err-2 c =
    no_table_why (body_value c.args.bytes.now) _ (no_value c.args.bytes.now (c.in-Err.ensures.err (λ m. let t = c.is_memory.ensures.1 m in let f = c.if-is_memory.false in absurd (cc))))
