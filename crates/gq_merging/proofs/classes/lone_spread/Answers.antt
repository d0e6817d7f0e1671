use Rattle.std.proofs.Common.{rules, ◌≡◌, ◌<◌, [], length, refl, arith}
use Rattle.std.proofs.lemmas.Bool.Decides.{nat_tests}
use Rattle.std.proofs.lemmas.List.{nil_from_length}
use Rattle.std.proofs.lemmas.Option.{slice_get_read}
use Rattle.gq_merging.proofs.ClassLemmas.{is_through}
use Rattle.gq_merging.proofs.classes.lone_spread.Goals as goal

pub returns : goal.returns
returns c =
    let inside : c.args.number < length c.args.rows.now = search rules in
    let none : c.index-rows-number.result.members.items ≡ [] = nil_from_length _ (grind (arith, nat_tests)) in
    let one : length c.index-rows-number.result.spreads.items ≡ 1 = grind (arith, nat_tests) in
    is_through c.args.rows.now c.args.number c.index.result.now c.index-rows-number.result
    (slice_get_read c.args.rows.now (length c.args.rows.now) c.args.number c.index-rows-number.result refl inside c.index-rows-number.is) none one c.index.ensures
