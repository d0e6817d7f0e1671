-- One file more.
use Rattle.std.proofs.Common.{◌≡◌, ◌+◌, ◌++◌, [], ◌∷◌, ℕ, List, false, Some, get_or, refl, slice_get, subst, sym, take}
use Rattle.gq_by_file.specs.Helping.Moved.{number_after}
use Rattle.gq_by_file.proofs.MovedLemmas.{AreAfter, more_after}
use Rattle.gq_by_file.proofs.moved.files_after.Goals as goal

pub loop-file-preserved : goal.loop-file-preserved
loop-file-preserved c =
    let files : List ℕ = c.args.files.now in
    let marks = c.args.marks.now in
    let to : ℕ → ℕ = number_after c.args.change in
    let before : List ℕ = c.loop-file.after.items in
    let i = c.loop-file.file-index in
    let free : slice_get marks (get_or files i 0) ≡ Some false = c.if-not-has_no_mark.ensures.mark refl in
    let one = more_after to marks files before i c.loop-file-test.true free c.loop-file.invariant in
    subst (λ (l : List ℕ). AreAfter to marks (take (i + 1) files) l) (sym c.in_ok-push.ensures.items)
    (subst (λ (n : ℕ). AreAfter to marks (take (i + 1) files) (before ++ n ∷ [])) (sym c.number_after.ensures) one)
