use Rattle.std.proofs.Common.{Err, ap, arith, map, subst, sym}
use Rattle.gq_lex.specs.Tokens.{Reads, lexeme_of}
use Rattle.gq_completion.proofs.CompletionLemmas.{nothing}
use Rattle.gq_completion.proofs.completion.completed.Goals as goal

pub returns-in_ok-all-in-Ok : goal.returns-in_ok-all-in-Ok
returns-in_ok-all-in-Ok c known parsed =
    let text = c.args.text.now in
    c.in_ok-all-in-Ok.ensures known text (subst (λ ts. Reads text (map lexeme_of ts)) (sym c.deref.ensures.value) c.in-Ok.ensures.found) parsed

pub returns-in-Err-Bad : goal.returns-in-Err-Bad
returns-in-Err-Bad c known parsed =
    let bad = c.in-Err-Bad.ensures.bad c.in-Err-Bad.field-0-0 c.in-Err-Bad.field-0-1 (ap Err c.in-Err-Bad.field-0-is) in
    nothing c.args.known.project.now c.args.text.now c.args.offset (λ tokens reads few. c.faults_read_as_nothing.ensures c.args.text.now c.in-Err-Bad.field-0-0 c.in-Err-Bad.field-0-1 tokens bad reads) c.new.result.items c.new.ensures.items

pub returns-in-Err-Limit : goal.returns-in-Err-Limit
returns-in-Err-Limit c known parsed =
    let limit = c.in-Err-Limit.ensures.limit c.in-Err-Limit.field-0-0 (ap Err c.in-Err-Limit.field-0-is) in
    nothing c.args.known.project.now c.args.text.now c.args.offset (λ tokens reads few. absurd (omega (arith, few, c.limits_are_passed.ensures c.args.text.now c.in-Err-Limit.field-0-0 tokens limit reads))) c.new-in-Err-Limit.result.items c.new-in-Err-Limit.ensures.items
