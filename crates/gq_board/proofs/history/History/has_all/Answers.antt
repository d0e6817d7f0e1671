use Rattle.std.proofs.Common.{◌≤◌, ap, subst, arith, length, List}
use borrow.Author.Tests.{leb-true, le-leb}
use mathlib.Core.List.{IsPrefix}
use Rattle.gq_project.specs.declared.document.DocChange.{DocChange}
use Rattle.gq_board.proofs.Beginnings.{prefix_shorter, prefix_length}
use Rattle.gq_board.proofs.history.History.has_all.Goals as goal

pub returns : goal.returns
returns g c =
    let both = c.learn.new.self.log in
    let mine : IsPrefix c.self.inside.log.log both = subst (λ (l : List DocChange). IsPrefix l both) (ap (λ s. s.log) c.again-both.ensures) c.learn.ensures.2 in
    rw (← c.self.view_is, ← c.other.view_is) (
      λ yes.
          let at_most : c.other.inside.count ≤ c.self.inside.count = leb-true _ _ yes in
          let less : length c.other.inside.log.log ≤ length c.self.inside.log.log = omega (arith, c.self.invariant.0, c.other.invariant.0) in
          prefix_shorter c.other.inside.log.log c.self.inside.log.log both c.learn.ensures.3 mine less,
      λ begins. le-leb _ _ (omega (arith, prefix_length c.other.inside.log.log c.self.inside.log.log begins, c.self.invariant.0, c.other.invariant.0)),
    )
