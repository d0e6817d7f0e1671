-- One document more has its mark.
use Rattle.std.proofs.Common.{◌≡◌, ◌<◌, ◌≤◌, ◌+◌, List, Bool, Some, slice_get, length, subst, sym, arith}
use Rattle.std.proofs.lemmas.Bool.Decides.{nat_tests}
use Rattle.std.proofs.lemmas.List.{length-map}
use Rattle.gq_tree.specs.Readings.{ParsedOf, shared_view, readings_view}
use Rattle.gq_types.specs.Entries.{Text}
use Rattle.gq_kept.specs.Helping.Texts.{texts_at}
use Rattle.gq_kept.proofs.FieldListsLemmas.{AreMarkedBefore, marked_all, marked_more, reading_there}
use Rattle.gq_kept.proofs.field_lists.FieldLists.marks.Goals as goal

pub loop-file-preserved : goal.loop-file-preserved
loop-file-preserved c =
    let rs : List ParsedOf = readings_view c.args.readings.now in
    let names : List Text = texts_at c.args.names.now in
    let n = c.loop-file.file in
    let r : ParsedOf = shared_view c.index-readings-file.result in
    let inside : n < length c.args.readings.now = (let t = c.loop-file-test.true in grind (arith, nat_tests)) in
    let there : slice_get rs n ≡ Some r = reading_there c.args.readings.now n c.index-readings-file.result inside c.index-readings-file.is in
    let noted : n < length c.mark_at.new.lists.items = c.in_ok-is_marked.ensures.noted in
    let count : length c.loop-file.marks.items ≡ n = c.loop-file.invariant.1.0 in
    let more : length c.push.new.self.items ≡ n + 1 = (let l = c.in_ok-push.ensures.items in grind (arith)) in (
      omega (arith, noted),
      (
        more,
        λ are.
            let so_far = c.loop-file.invariant.1.1 are in
            let right = c.in_ok-is_marked.ensures.mark rs there so_far.0 in (
              c.in_ok-is_marked.ensures.known rs there so_far.0,
              subst (λ (marks : List Bool). AreMarkedBefore names rs (n + 1) marks) (sym c.in_ok-push.ensures.items)
                  (marked_more names rs n r there c.loop-file.marks.items count c.in_ok-is_marked.is_marked right so_far.1),
            ),
      ),
    )

pub returns-in_err-is_marked-clause-kept : goal.returns-in_err-is_marked-clause-kept
returns-in_err-is_marked-clause-kept c are =
    let inside : c.loop-file.file < length c.args.readings.now = (let t = c.loop-file-test.true in grind (arith, nat_tests)) in
    let there = reading_there c.args.readings.now c.loop-file.file c.index-readings-file.result inside c.index-readings-file.is in
    c.mark_at.ensures.known (readings_view c.args.readings.now) there (c.loop-file.invariant.1.1 are).0

pub returns-in_err-push-clause-kept : goal.returns-in_err-push-clause-kept
returns-in_err-push-clause-kept c are =
    let inside : c.loop-file.file < length c.args.readings.now = (let t = c.loop-file-test.true in grind (arith, nat_tests)) in
    let there = reading_there c.args.readings.now c.loop-file.file c.index-readings-file.result inside c.index-readings-file.is in
    c.mark_at.ensures.known (readings_view c.args.readings.now) there (c.loop-file.invariant.1.1 are).0

pub returns-clause-marks : goal.returns-clause-marks
returns-clause-marks c are =
    let rs : List ParsedOf = readings_view c.args.readings.now in
    let count : length rs ≡ length c.args.readings.now = length-map c.args.readings.now shared_view in
    let behind : length c.args.readings.now ≤ c.loop-file.file = (let t = c.loop-file-test.false in grind (arith, nat_tests)) in
    marked_all (texts_at c.args.names.now) rs c.loop-file.file c.loop-file.marks.items (omega (arith, count, behind)) (c.loop-file.invariant.1.1 are).1
