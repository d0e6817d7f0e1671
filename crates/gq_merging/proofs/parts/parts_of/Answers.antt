use Rattle.std.proofs.Common.{rules, ◌≡◌, ◌<◌, ◌≤◌, ◌+◌, ◌++◌, ◌∷◌, ◌∙◌, [], length, take, get_or, sym, ap, subst}
use Rattle.std.proofs.lemmas.List.{take_more}
use Rattle.gq_merging.specs.Helping.PartTables.{AreParts}
use Rattle.gq_merging.proofs.PartLemmas.{no_parts, parts_at_end}
use Rattle.gq_merging.proofs.parts.parts_of.Goals as goal

pub loop-fragments-init : goal.loop-fragments-init
loop-fragments-init c = no_parts c.new-near.result.items c.new-far.result.items c.new-near.ensures.items c.new-far.ensures.items

pub loop-fragments-preserved : goal.loop-fragments-preserved
loop-fragments-preserved c =
    let i = c.loop-fragments.fragments-index in
    let item = c.fragments-item.result in
    let front = take i c.args.spreads.now in
    let inside : i < length c.args.spreads.now = search rules in
    let read : get_or c.args.spreads.now i item ≡ item = search rules in
    let more : take (i + 1) c.args.spreads.now ≡ front ++ item ∷ [] = take_more c.args.spreads.now i item inside ∙ ap (λ v. front ++ v ∷ []) read in
    subst (λ xs. AreParts xs c.put_parts.new.near.items c.put_parts.new.far.items) (sym more) (c.in_ok-put_parts.ensures front item (sym c.deref.ensures.value) c.loop-fragments.invariant)

pub returns : goal.returns
returns c =
    let past : length c.args.spreads.now ≤ c.loop-fragments.fragments-index = search rules in
    parts_at_end c.args.spreads.now c.loop-fragments.near.items c.loop-fragments.far.items c.loop-fragments.fragments-index past c.loop-fragments.invariant
