-- The own faults of one file more are gathered.
use Rattle.std.proofs.Common.{◌≡◌, ◌<◌, ◌≤◌, ◌+◌, List, Some, slice_get, length, subst, sym, arith}
use Rattle.std.proofs.lemmas.Bool.Decides.{nat_tests}
use Rattle.std.proofs.lemmas.List.{length-map}
use Rattle.gq_tree.specs.Readings.{ParsedOf, shared_view, readings_view}
use Rattle.gq_types.specs.Entries.{EntryOf}
use Rattle.gq_types.specs.Look.{types_view}
use Rattle.gq_fault.specs.declared.fault.Fault.{Fault}
use Rattle.gq_by_file.proofs.KnownOwnLemmas.{AreGathered, gathered_all, gathered_found, get_some, reading_there}
use Rattle.gq_by_file.proofs.own.own_faults.Goals as goal

pub loop-file-preserved : goal.loop-file-preserved
loop-file-preserved c =
    let es : List EntryOf = types_view c.args.types.now in
    let rs : List ParsedOf = readings_view c.args.readings.now in
    let n = c.loop-file.file in
    let r : ParsedOf = shared_view c.index-readings-file.result in
    let inside : n < length c.args.readings.now = (let t = c.loop-file-test.true in grind (arith, nat_tests)) in
    let there : slice_get rs n ≡ Some r = reading_there c.args.readings.now n c.index-readings-file.result inside c.index-readings-file.is in
    let noted : n < length c.find_at.new.own.items = c.in_ok-find_at.ensures.noted in (
      omega (arith, noted),
      λ owned.
          let so_far = c.loop-file.invariant.1 owned in
          let one = c.index.result.now in
          let found = c.in_ok-find_at.ensures.found rs there so_far.0 one (get_some c.find_at.new.own.items n one noted c.index.ensures) in (
            c.in_ok-find_at.ensures.own rs there so_far.0,
            subst (λ (all : List Fault). AreGathered es rs (n + 1) all) (sym c.in_ok-put_own.ensures) (gathered_found c.numbers_of_files_are_unseen.ensures es rs n r there one found c.loop-file.all.items so_far.1),
          ),
    )

pub returns-clause-faults : goal.returns-clause-faults
returns-clause-faults c owned =
    let es : List EntryOf = types_view c.args.types.now in
    let rs : List ParsedOf = readings_view c.args.readings.now in
    let count : length rs ≡ length c.args.readings.now = length-map c.args.readings.now shared_view in
    let behind : length c.args.readings.now ≤ c.loop-file.file = (let t = c.loop-file-test.false in grind (arith, nat_tests)) in
    gathered_all es rs c.loop-file.file c.loop-file.all.items (omega (arith, count, behind)) (c.loop-file.invariant.1 owned).1
