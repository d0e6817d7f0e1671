use Rattle.std.proofs.Common.{rules, ◌≡◌, ◌<◌, ◌≤◌, true, [], length, arith, refl}
use Rattle.std.proofs.lemmas.Bool.Decides.{nat_tests}
use Rattle.std.proofs.lemmas.List.{nil_from_length}
use Rattle.std.proofs.lemmas.Option.{slice_get_past, slice_get_read}
use Rattle.gq_merging.proofs.ClassLemmas.{nothing_in_row, nothing_past, turned_false}
use Rattle.gq_merging.proofs.classes.has_selections.Goals as goal

pub returns-then-number-rows-clause-none : goal.returns-then-number-rows-clause-none
returns-then-number-rows-clause-none c =
    let past : length c.args.rows.now ≤ c.args.number = search rules in
    λ f. nothing_past c.args.rows.now c.args.number (slice_get_past c.args.rows.now c.args.number past)

pub returns-else-not-is_empty-clause-none : goal.returns-else-not-is_empty-clause-none
returns-else-not-is_empty-clause-none c =
    let inside : c.args.number < length c.args.rows.now = search rules in
    λ f.
    let first : c.is_empty.result ≡ true = c.if-not-is_empty.false in
    let second : c.is_empty-else-not-is_empty.result ≡ true = turned_false c.is_empty-else-not-is_empty.result f in
    let none : c.index-rows-number.result.members.items ≡ [] = nil_from_length _ (grind (arith, nat_tests)) in
    let no_way : c.index-rows-number.result.spreads.items ≡ [] = nil_from_length _ (grind (arith, nat_tests)) in
    nothing_in_row c.args.rows.now c.args.number c.index-rows-number.result (slice_get_read c.args.rows.now (length c.args.rows.now) c.args.number c.index-rows-number.result refl inside c.index-rows-number.is) none no_way
