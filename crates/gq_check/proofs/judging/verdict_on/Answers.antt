use Rattle.std.proofs.Common.{◌≡◌, IfErr, subst}
use Rattle.std.proofs.lemmas.Result.{IfOk-weaker}
use Rattle.gq_rules.specs.ValidityViews.{IsWhy}
use Rattle.gq_check.specs.Files.{documents_of}
use Rattle.gq_check.proofs.VerdictLemmas.{verdict_told}
use Rattle.gq_check.proofs.judging.verdict_on.Goals as goal

pub returns-clause-ok : goal.returns-clause-ok
returns-clause-ok c files fine valid invalid =
    let both = subst (λ r. IfErr r (λ i. (i.project ≡ documents_of files) × IsWhy (documents_of files) i.why)) c.in-Err.is invalid in
    IfOk-weaker c.verdict_against.result _ _ (λ v t. verdict_told c.args.format files v fine t) (c.verdict_against.ensures.ok (documents_of files) both.0 both.1)
