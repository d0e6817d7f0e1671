use Rattle.gq_check.proofs.VerdictLemmas.{documents_told}
use Rattle.gq_check.proofs.judging.verdict_against.Goals as goal

pub returns-in_ok-print_all-in-Report-clause-ok : goal.returns-in_ok-print_all-in-Report-clause-ok
returns-in_ok-print_all-in-Report-clause-ok c documents same is_why =
    documents_told c.args.format documents c.args.invalid.now.project c.args.invalid.now.why c.in-Report.report c.deref.result.now c.in_ok-print_all-in-Report.field-0 same is_why c.in-Report.is c.deref.ensures.value
    c.in_ok-print_all-in-Report.ensures
