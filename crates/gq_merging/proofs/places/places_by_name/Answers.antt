use Rattle.std.proofs.Common.{rules, ◌≤◌, length, refl}
use Rattle.gq_names.specs.UnderNames.{items_under}
use Rattle.gq_tree.specs.Views.{name_of}
use Rattle.gq_merging.specs.Helping.Entries.{entry_seen, entries_seen}
use Rattle.gq_merging.proofs.PlaceLemmas.{none_placed, one_placed, placed_at_end}
use Rattle.gq_merging.proofs.places.places_by_name.Goals as goal

pub loop-place-init : goal.loop-place-init
loop-place-init c = none_placed (entries_seen c.args.entries) (items_under c.new-by_name.result) c.new-by_name.ensures

pub loop-place-preserved : goal.loop-place-preserved
loop-place-preserved c =
    one_placed (entries_seen c.args.entries) c.loop-place.place (entry_seen c.at.result) c.at.ensures (name_of c.at.result.name.now) refl
    (items_under c.loop-place.by_name) (items_under c.put.new.self) c.as_str.result.now c.as_str.ensures c.in_ok-put.ensures.ok c.loop-place.invariant

pub returns : goal.returns
returns c =
    let past : length (entries_seen c.args.entries) ≤ c.loop-place.place = search rules in
    placed_at_end (entries_seen c.args.entries) c.loop-place.place (items_under c.loop-place.by_name) past c.loop-place.invariant
