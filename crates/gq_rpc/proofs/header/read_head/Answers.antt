use Rattle.std.proofs.Common.{sym, ◌∙◌, arith, ◌+◌, length, length-drop, ap}
use Rattle.gq_rpc.specs.Lines.{head_of, ended_lines}
use Rattle.gq_rpc.proofs.Places.{head_of-none, head_of-last, head_of-bad, head_of-next}
use Rattle.gq_rpc.proofs.header.read_head.Goals as goal

pub returns-then-len-rest-clause-head : goal.returns-then-len-rest-clause-head
returns-then-len-rest-clause-head c = sym (head_of-none _ _ _ _ c.line_len-len.ensures.count c.if-len-rest.true) ∙ c.lines.invariant.same

pub returns-then-is_last_line-clause-head : goal.returns-then-is_last_line-clause-head
returns-then-is_last_line-clause-head c =
    sym (head_of-last _ _ _ _ c.line_len-len.ensures.count c.line_len-len.ensures.within c.if-len-rest.false (sym c.if-is_last_line.ensures))
    ∙ c.lines.invariant.same

pub returns-in_default-clause-head : goal.returns-in_default-clause-head
returns-in_default-clause-head c =
    sym (head_of-bad _ _ _ _ c.line_len-len.ensures.count c.line_len-len.ensures.within c.if-len-rest.false (sym c.if-is_last_line.ensures)
    (sym c.in_default.ensures))
    ∙ c.lines.invariant.same

pub lines-preserved : goal.lines-preserved
lines-preserved c =
    let next = head_of-next c.lines.size c.lines.found c.in-Some.known c.lines.rest.now c.line_len-len.result c.line_len-len.ensures.count
    c.line_len-len.ensures.within c.if-len-rest.false (sym c.if-is_last_line.ensures) (sym c.in-Some.ensures) in
    record {
      whole = omega (arith, length-drop (c.line_len-len.result + 1) c.lines.rest.now, ap length c.skip-rest.ensures);
      same = ap (λ t. head_of (c.lines.size + (c.line_len-len.result + 1)) c.in-Some.known (ended_lines t)) c.skip-rest.ensures ∙ sym next ∙ c.lines.invariant.same;
    }
