use Rattle.std.proofs.Common.{◌≡◌, ◌∙◌, Some, [], ap, arith, sym}
use Rattle.std.proofs.lemmas.Bool.Decides.{nat_tests}
use Rattle.std.proofs.lemmas.List.{nil_from_length}
use Rattle.gq_merging.specs.Helping.GroupTables.{IsMarkedOne, as_empty, as_before, as_marked}
use Rattle.gq_merging.proofs.ClassLemmas.{group_at}
use Rattle.gq_merging.proofs.groups.is_known.Goals as goal

pub returns-then-is_empty : goal.returns-then-is_empty
returns-then-is_empty c =
    let none : c.index-groups-place.result.items ≡ [] = nil_from_length _ (grind (arith, nat_tests)) in
    λ t. as_empty (group_at c.args.groups.now c.args.place c.index-groups-place.result c.requires c.index-groups-place.is ∙ ap Some none)

pub returns-then-is_marked_one : goal.returns-then-is_marked_one
returns-then-is_marked_one c =
    let one : IsMarkedOne c.deref.result.now c.args.marks.now = c.is_marked_one.ensures c.if-is_marked_one.true in
    λ t. as_marked one.number (group_at c.args.groups.now c.args.place c.index-groups-place.result c.requires c.index-groups-place.is ∙ ap Some (sym c.deref.ensures.value ∙ one.is)) one.marked

pub returns : goal.returns
returns c = λ t. as_before c.index-earlier.result.now (c.is_as_before.ensures.before t) (c.is_as_before.ensures.same t)
