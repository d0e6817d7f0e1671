-- What is kept of one document more.
use Rattle.std.proofs.Common.{◌≡◌, ◌<◌, ◌≤◌, ◌+◌, List, Some, slice_get, length, map, take, subst, sym, arith, refl, ap}
use Rattle.std.proofs.lemmas.Bool.Decides.{nat_tests}
use Rattle.std.proofs.lemmas.List.{length-map}
use Rattle.gq_tree.specs.Readings.{ParsedOf, shared_view, readings_view}
use Rattle.gq_index.specs.Parts.{parts_in}
use Rattle.gq_index.specs.Views.{parts_shared}
use Rattle.gq_kept.proofs.FieldListsLemmas.{reading_there}
use Rattle.gq_kept.proofs.HeldLemmas.{SharedParts, held_all, held_more}
use Rattle.gq_kept.proofs.held.all_parts.Goals as goal

pub loop-file-init : goal.loop-file-init
loop-file-init c = (omega arith, λ are. (are, ap (λ (l : List SharedParts). parts_shared l) c.in_ok-all.ensures.items))

pub loop-file-preserved : goal.loop-file-preserved
loop-file-preserved c =
    let rs : List ParsedOf = readings_view c.args.readings.now in
    let n = c.loop-file.file in
    let r : ParsedOf = shared_view c.index-readings-file.result in
    let inside : n < length c.args.readings.now = (let t = c.loop-file-test.true in grind (arith, nat_tests)) in
    let there : slice_get rs n ≡ Some r = reading_there c.args.readings.now n c.index-readings-file.result inside c.index-readings-file.is in
    let noted : n < length c.parts_at.new.noted.notes.items = c.in_ok-parts.ensures.noted in (
      omega (arith, noted),
      λ are.
          let so_far = c.loop-file.invariant.1 are in (
            c.in_ok-parts.ensures.kept rs there so_far.0,
            subst (λ (all : List SharedParts). parts_shared all ≡ map parts_in (take (n + 1) rs)) (sym c.in_ok-push.ensures.items)
                (held_more c.loop-file.all.items c.in_ok-parts.parts rs n r there (c.in_ok-parts.ensures.parts rs there so_far.0) so_far.1),
          ),
    )

pub returns-in_err-parts-clause-kept : goal.returns-in_err-parts-clause-kept
returns-in_err-parts-clause-kept c are =
    let inside : c.loop-file.file < length c.args.readings.now = (let t = c.loop-file-test.true in grind (arith, nat_tests)) in
    let there = reading_there c.args.readings.now c.loop-file.file c.index-readings-file.result inside c.index-readings-file.is in
    c.parts_at.ensures.kept (readings_view c.args.readings.now) there (c.loop-file.invariant.1 are).0

pub returns-in_err-push-clause-kept : goal.returns-in_err-push-clause-kept
returns-in_err-push-clause-kept c are =
    let inside : c.loop-file.file < length c.args.readings.now = (let t = c.loop-file-test.true in grind (arith, nat_tests)) in
    let there = reading_there c.args.readings.now c.loop-file.file c.index-readings-file.result inside c.index-readings-file.is in
    c.parts_at.ensures.kept (readings_view c.args.readings.now) there (c.loop-file.invariant.1 are).0

pub returns-clause-parts : goal.returns-clause-parts
returns-clause-parts c are =
    let rs : List ParsedOf = readings_view c.args.readings.now in
    let count : length rs ≡ length c.args.readings.now = length-map c.args.readings.now shared_view in
    let behind : length c.args.readings.now ≤ c.loop-file.file = (let t = c.loop-file-test.false in grind (arith, nat_tests)) in
    held_all c.loop-file.all.items rs c.loop-file.file (omega (arith, count, behind)) (c.loop-file.invariant.1 are).1
