use Rattle.gq_parse.proofs.OneFault.{TokenLaws, one_syntax, one_limit, not_both}
use Rattle.gq_parse.proofs.laws.one_fault.Goals as goal

pub returns : goal.returns
returns c =
    let laws : TokenLaws = record {
      one_reading = c.one_reading.ensures;
      one_fault = c.one_fault.ensures;
      bad_has_none = c.faults_read_as_nothing.ensures;
      limit_is_passed = c.limits_are_passed.ensures;
      stand = c.tokens_stand_in_order.ensures;
    } in
    record { syntax = one_syntax laws; limit = one_limit laws; not_both = not_both laws }
