-- The span is one at which the text can be cut.
use Rattle.std.proofs.Common.{◌≡◌, Option, IfSome, subst}
use mathlib.Core.Logic.{∥∥₁_elim}
use Rattle.gq_text.specs.declared.place.Span.{Span}
use Rattle.gq_rename.specs.Standing.{CanBeCut}
use Rattle.gq_replies.proofs.queries.place_name.Goals as goal

no_two : (x y : ⊥) → x ≡ y
no_two x y = absurd x

pub unreachable-requires : goal.unreachable-requires
unreachable-requires c =
    let cut = subst (λ (found : Option Span). IfSome found (λ span. ∥ CanBeCut c.args.text.now span ∥₁)) c.in-Some.is c.requires.cut in
    let refused = rw c.in_default-get.is at c.get.ensures.cases in
    ∥∥₁_elim cut no_two (λ can. refused can.order can.start can.end)
