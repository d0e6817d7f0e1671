use Rattle.std.proofs.Common.{◌++◌, ◌∙◌, ap, length}
use Rattle.std.proofs.lemmas.List.Elements.{All-contains}
use Rattle.gq_graph.specs.Reach.{Reach, row}
use Rattle.gq_merging.proofs.PartLemmas.{all_below, near_sound, near_complete}
use Rattle.gq_merging.proofs.parts.with_near.Goals as goal

pub reach_rows-requires-clause-starts : goal.reach_rows-requires-clause-starts
reach_rows-requires-clause-starts c =
    all_below c.args.near.now (length c.args.near.now) c.args.group.now c.deref.result.now c.requires (c.deref.ensures.value ∙ c.in_ok-starts.ensures)

pub returns-clause-sound : goal.returns-clause-sound
returns-clause-sound c =
    near_sound (row c.args.near.now) c.args.group.now c.deref.result.now c.in_ok-found.found.items c.extend_from_slice.new.self.items (c.deref.ensures.value ∙ c.in_ok-starts.ensures)
    (λ n d. All-contains (λ n. Reach c.deref.result.now (row c.args.near.now) n) c.in_ok-found.found.items n c.in_ok-found.ensures.sound d)
    (c.in_ok-extend_from_slice.ensures.items ∙ ap (λ ns. ns ++ c.deref-2.result.now) c.in_ok-all.ensures ∙ ap (λ ns. c.args.group.now ++ ns) c.deref-2.ensures.value)

pub returns-clause-complete : goal.returns-clause-complete
returns-clause-complete c =
    near_complete (row c.args.near.now) c.args.group.now c.deref.result.now c.in_ok-found.found.items c.extend_from_slice.new.self.items (c.deref.ensures.value ∙ c.in_ok-starts.ensures)
    c.in_ok-found.ensures.complete (λ n d. All-contains (λ n. Reach c.deref.result.now (row c.args.near.now) n) c.in_ok-found.found.items n c.in_ok-found.ensures.sound d)
    (c.in_ok-extend_from_slice.ensures.items ∙ ap (λ ns. ns ++ c.deref-2.result.now) c.in_ok-all.ensures ∙ ap (λ ns. c.args.group.now ++ ns) c.deref-2.ensures.value)
