use Rattle.std.proofs.Common.{◌≤◌, ◌^◌, All, length, sym, subst}
use Rattle.std.proofs.lemmas.Result.{IfErr-weaker}
use Rattle.gq_check.specs.Files.{documents_of}
use Rattle.gq_check.proofs.VerdictLemmas.{valid_as, invalid_as}
use Rattle.gq_check.proofs.judging.judge_by_threads.Goals as goal

pub verdict_on-requires : goal.verdict_on-requires
verdict_on-requires g c =
    IfErr-weaker c.valid_by_threads.result _ _ (λ invalid back. subst (All (λ doc. length doc.text ≤ 2 ^ 22)) (sym back) c.requires) c.valid_by_threads.ensures.handed_back

pub returns-clause-ok : goal.returns-clause-ok
returns-clause-ok g c files fine are =
    let documents = documents_of files in
    c.verdict_on.ensures.ok files fine (valid_as c.args.project documents are c.valid_by_threads.result c.valid_by_threads.ensures.same c.valid_by_threads.ensures.valid)
    (invalid_as c.args.project documents are c.valid_by_threads.result c.valid_by_threads.ensures.handed_back c.valid_by_threads.ensures.why)
