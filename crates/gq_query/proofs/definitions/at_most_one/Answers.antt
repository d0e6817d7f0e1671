use Rattle.std.proofs.Common.{◌≡◌, List, Option, Some, None, subst, sym}
use Rattle.std.proofs.lemmas.Result.{IfOk-weaker}
use Rattle.gq_index.specs.declared.occurrence.Occurrence.{Occurrence}
use Rattle.gq_query.specs.Order.{AreExactly}
use Rattle.gq_query.proofs.Telling.{exactly_one, exactly_no}
use Rattle.gq_query.proofs.definitions.at_most_one.Goals as goal

pub returns-in-Some : goal.returns-in-Some
returns-in-Some c =
    IfOk-weaker c.one_alone.result _ _
    (λ found e.
    subst (λ (p : Option Occurrence). AreExactly (λ o. p ≡ Some o) found.items) (sym c.in-Some.is)
    (subst (λ (l : List Occurrence). AreExactly (λ o. Some c.in-Some.place ≡ Some o) l) (sym e) (exactly_one c.in-Some.place)))
    c.one_alone.ensures

pub returns-in-None : goal.returns-in-None
returns-in-None c =
    subst (λ (p : Option Occurrence). AreExactly (λ o. p ≡ Some o) c.new.result.items) (sym c.in-None.is)
    (subst (λ (l : List Occurrence). AreExactly (λ o. ◌≡◌ {A = Option Occurrence} None (Some o)) l) (sym c.new.ensures.items) exactly_no)
