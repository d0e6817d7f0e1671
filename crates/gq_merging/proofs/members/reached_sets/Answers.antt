use Rattle.std.proofs.Common.{rules, ◌≡◌, ◌<◌, ℕ, List, [], All, Contains, length, arith, refl, get_or}
use Rattle.std.proofs.lemmas.Bool.Decides.{nat_tests}
use Rattle.std.proofs.lemmas.List.{nil_from_length}
use Rattle.std.proofs.lemmas.Option.{slice_get_read}
use Rattle.std.proofs.lemmas.Result.{IfOk-weaker}
use Rattle.gq_graph.specs.Reach.{Reach, row}
use Rattle.gq_merging.proofs.ClassLemmas.{lone_reaches}
use Rattle.gq_merging.proofs.members.reached_sets.Goals as goal

lone : (c : goal.After-copied) (found : List ℕ) → found ≡ c.args.group.now →
    All (λ n. Reach c.args.group.now (row c.args.spreads.now) n) found × ((k : ℕ) → Reach c.args.group.now (row c.args.spreads.now) k → Contains found k)
lone c found is =
    let one : length c.args.group.now ≡ 1 = omega (arith, c.in-len1.len_at_least, c.in-len1.len_below) in
    let inside : get_or c.args.group.now 0 0 < length c.args.spreads.now = search rules in
    let none : c.index-spreads-one.result.items ≡ [] = nil_from_length _ (grind (arith, nat_tests)) in
    lone_reaches c.args.spreads.now c.args.group.now found c.index-spreads-one.result one
    (slice_get_read c.args.spreads.now (length c.args.spreads.now) (get_or c.args.group.now 0 0) c.index-spreads-one.result refl inside c.index-spreads-one.is) none is

pub returns-in-len1-clause-sound : goal.returns-in-len1-clause-sound
returns-in-len1-clause-sound c = IfOk-weaker c.copied.result _ _ (λ found is. (lone c found.items is).0) c.copied.ensures

pub returns-in-len1-clause-complete : goal.returns-in-len1-clause-complete
returns-in-len1-clause-complete c = IfOk-weaker c.copied.result _ _ (λ found is. (lone c found.items is).1) c.copied.ensures
