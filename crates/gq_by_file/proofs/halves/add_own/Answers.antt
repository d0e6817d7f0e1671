-- What the file tells alone is put behind, where there is such a file.
use Rattle.std.proofs.Common.{◌≡◌, ◌∙◌, ◌<◌, ◌≤◌, ◌++◌, List, Some, ap, length, map, slice_get, arith}
use Rattle.std.proofs.lemmas.Bool.Decides.{nat_tests}
use Rattle.std.proofs.lemmas.List.{length-map}
use Rattle.std.proofs.lemmas.Result.{on_ok_weaker}
use Rattle.gq_tree.specs.Readings.{parsed_view, unshared_view}
use Rattle.gq_types.specs.Look.{types_view}
use Rattle.gq_fault.specs.declared.fault.Fault.{Fault}
use Rattle.gq_rules.specs.Files.{in_file}
use Rattle.gq_by_file.proofs.OwnLemmas.{none_added, own_added, view_there}
use Rattle.gq_by_file.proofs.halves.add_own.Goals as goal

pub returns-then-file-readings : goal.returns-then-file-readings
returns-then-file-readings c =
    let behind : length c.args.readings.now ≤ c.args.file = (let t = c.if-file-readings.true in grind (arith, nat_tests)) in
    let count : length (unshared_view c.args.readings.now) ≡ length c.args.readings.now = length-map c.args.readings.now parsed_view in
    none_added (types_view c.args.types.now) (unshared_view c.args.readings.now) c.args.file (omega (arith, behind, count)) c.args.all.now.items

pub returns : goal.returns
returns c =
    let es = types_view c.args.types.now in
    let rs = unshared_view c.args.readings.now in
    let n = c.args.file in
    let r = c.index-readings-file.result in
    let inside : n < length c.args.readings.now = (let t = c.if-file-readings.false in grind (arith, nat_tests)) in
    let there : slice_get rs n ≡ Some (parsed_view r) = view_there parsed_view c.args.readings.now n r inside c.index-readings-file.is in
    on_ok_weaker c.put_in_file.result
    (λ put. own_added c.numbers_of_files_are_unseen.ensures es rs n (parsed_view r) there c.in_ok-own.own.items c.in_ok-own.ensures c.args.all.now.items c.put_in_file.new.all.items
    (put ∙ ap (λ (fs : List Fault). c.args.all.now.items ++ map (in_file n) fs) c.deref.ensures.value))
    c.put_in_file.ensures
