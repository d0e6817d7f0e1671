-- A project that is not valid is not indexed.
use Rattle.std.proofs.Common.{◌∙◌, List, ap, subst, sym}
use mathlib.Core.Logic.{∥∥₁_elim}
use Rattle.gq_project.specs.declared.document.Doc.{Doc}
use Rattle.gq_rules.specs.Validity.{IsValid}
use Rattle.gq_kept.specs.KeptOf.{KeptOf}
use Rattle.gq_kept.proofs.KeptLemmas.{not_none}
use Rattle.gq_kept.proofs.kept.Kept.study.Goals as goal

pub returns-else-is_some-clause-indexed : goal.returns-else-is_some-clause-indexed
returns-else-is_some-clause-indexed c valid =
    let none = not_none c.valid.result (sym c.is_some.ensures ∙ c.if-is_some.false) c.valid.ensures.none in
    absurd (∥∥₁_elim valid (λ x y. absurd x) (λ is. none (subst (λ (ds : List Doc). IsValid ds) (sym (ap (λ (k : KeptOf). k.documents) c.in_ok-judge.ensures.ok)) is)))
