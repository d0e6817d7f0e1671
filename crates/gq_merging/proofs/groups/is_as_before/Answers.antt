use Rattle.std.proofs.Common.{◌≡◌, ◌<◌, ◌∙◌, Some, length, arith, ap, sym}
use Rattle.std.specs.Cmp.Lexicographic.{same_text}
use Rattle.gq_merging.proofs.ClassLemmas.{group_at}
use Rattle.gq_merging.proofs.groups.is_as_before.Goals as goal

pub returns-then-earlier-place-clause-same : goal.returns-then-earlier-place-clause-same
returns-then-earlier-place-clause-same c =
    let inside : c.args.earlier < length c.args.groups.now = omega (arith, c.requires, c.if-earlier-place.true) in
    λ t.
    let same : c.index-groups-earlier.result.items ≡ c.index-groups-place.result.items =
    same_text c.index-groups-earlier.result.items c.index-groups-place.result.items (sym t ∙ c.eq.ensures) in
    group_at c.args.groups.now c.args.earlier c.index-groups-earlier.result inside c.index-groups-earlier.is
    ∙ ap Some same ∙ sym (group_at c.args.groups.now c.args.place c.index-groups-place.result c.requires c.index-groups-place.is)
