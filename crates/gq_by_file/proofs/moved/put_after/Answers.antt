-- The cover is such a one of the second project, under the numbers that its files have then.
use Rattle.std.proofs.Common.{◌≡◌, List, length, subst, sym, arith}
use Rattle.std.specs.Prelude.{IfSome, map}
use Rattle.std.proofs.lemmas.Bool.Decides.{nat_tests}
use Rattle.gq_by_file.specs.declared.covers.Cover.{Cover}
use Rattle.gq_by_file.specs.Across.{AreCovers}
use Rattle.gq_by_file.specs.Helping.Moved.{AreUnmarked, number_after}
use Rattle.gq_by_file.proofs.AcrossLemmas.{none_told}
use Rattle.gq_by_file.proofs.CoverLemmas.{covers_more}
use Rattle.gq_by_file.proofs.MovedLemmas.{cover_after}
use Rattle.gq_by_file.proofs.moved.put_after.Goals as goal

pub returns-in_err-push : goal.returns-in_err-push
returns-in_err-push c x y goes is are = subst (λ (cs : List Cover). AreCovers y cs) (sym c.in_err-push.ensures.items) are

pub returns-in_ok-push : goal.returns-in_ok-push
returns-in_ok-push c x y goes is are =
    let cover : Cover = c.args.cover.now in
    let untold : length cover.faults.items ≡ 0 = (let u = c.is_empty.ensures in let t = c.if-not-is_empty.false in grind (arith, nat_tests)) in
    let made : Cover = record { files = c.in-Some.files; faults = c.new.result } in
    let files = c.deref.result.now in
    let told = subst (λ o. IfSome o (λ some. AreUnmarked c.args.marks.now files × (some.items ≡ map (number_after c.args.change) files))) c.in-Some.is c.in_ok-files.ensures in
    let given = c.deref.ensures.value in
    let is_then = cover_after (number_after c.args.change) c.args.marks.now x y goes cover (none_told cover.faults.items untold) is made
    (record {
      unmarked = subst (λ fs. AreUnmarked c.args.marks.now fs) given told.0;
      moved = subst (λ fs. c.in-Some.files.items ≡ map (number_after c.args.change) fs) given told.1;
    }) c.new.ensures.items in
    subst (λ (cs : List Cover). AreCovers y cs) (sym c.in_ok-push.ensures.items) (covers_more y c.args.after.now.items made are is_then)
