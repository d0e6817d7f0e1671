use Rattle.std.proofs.Common.{◌≡◌, ◌≤◌, ap, subst, arith, length, List}
use borrow.Author.Tests.{eqb-true, eq-eqb}
use mathlib.Core.List.{IsPrefix}
use Rattle.gq_project.specs.declared.document.DocChange.{DocChange}
use Rattle.gq_board.proofs.Beginnings.{prefix_shorter, prefix_whole}
use Rattle.gq_board.proofs.history.History.is.Goals as goal

pub returns : goal.returns
returns g c =
    let both = c.learn.new.self.log in
    let mine : IsPrefix c.self.inside.log.log both = subst (λ (l : List DocChange). IsPrefix l both) (ap (λ s. s.log) c.again-both.ensures) c.learn.ensures.2 in
    rw (← c.self.view_is, ← c.other.view_is) (
      λ yes.
          let same : c.other.inside.count ≡ c.self.inside.count = eqb-true _ _ yes in
          let less : length c.self.inside.log.log ≤ length c.other.inside.log.log = omega (arith, c.self.invariant.0, c.other.invariant.0) in
          let more : length c.other.inside.log.log ≤ length c.self.inside.log.log = omega (arith, c.self.invariant.0, c.other.invariant.0) in
          let begins = prefix_shorter c.self.inside.log.log c.other.inside.log.log both mine c.learn.ensures.3 less in
          prefix_whole c.self.inside.log.log c.other.inside.log.log begins more,
      λ (same : c.self.inside.log.log ≡ c.other.inside.log.log). eq-eqb _ _ (omega (arith, ap length same, c.self.invariant.0, c.other.invariant.0)),
    )
