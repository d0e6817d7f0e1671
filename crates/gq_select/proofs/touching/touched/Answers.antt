use Rattle.std.proofs.Common.{Err, ap, arith}
use Rattle.gq_select.proofs.touching.touched.Goals as goal

pub returns-in-Err-Bad : goal.returns-in-Err-Bad
returns-in-Err-Bad c place touches =
    let bad = c.in-Err-Bad.ensures.bad c.in-Err-Bad.field-0-0 c.in-Err-Bad.field-0-1 (ap Err c.in-Err-Bad.field-0-is) in
    c.faults_read_as_nothing.ensures c.args.text.now c.in-Err-Bad.field-0-0 c.in-Err-Bad.field-0-1 touches.tokens bad touches.reads

pub returns-in-Err-Limit : goal.returns-in-Err-Limit
returns-in-Err-Limit c place touches =
    let limit = c.in-Err-Limit.ensures.limit c.in-Err-Limit.field-0-0 (ap Err c.in-Err-Limit.field-0-is) in
    let many = c.limits_are_passed.ensures c.args.text.now c.in-Err-Limit.field-0-0 touches.tokens limit touches.reads in
    let few = touches.few in
    absurd (omega (arith, few, many))
