use Rattle.std.proofs.Common.{rules, ◌↔◌, ◌⊎◌, ◌<◌, ◌≤◌, ◌∙◌, Contains, length, take, sym, subst}
use Rattle.std.proofs.lemmas.List.{take_more, take_all}
use Rattle.gq_merging.proofs.PartLemmas.{none_put, parts_pushed}
use Rattle.gq_merging.proofs.parts.put_parts.Goals as goal

pub loop-fragment-init : goal.loop-fragment-init
loop-fragment-init c = none_put c.new-some.result.items c.new-others.result.items c.new-some.ensures.items c.new-others.ensures.items

pub loop-fragment-preserved : goal.loop-fragment-preserved
loop-fragment-preserved c = λ k.
    let i = c.loop-fragment.fragment-index in
    let inside : i < length c.args.fragments.now = search rules in
    subst (λ ns. (Contains c.put_fragment.new.near.items k ⊎ Contains c.put_fragment.new.far.items k) ↔ Contains ns k) (sym (take_more c.args.fragments.now i 0 inside))
    (c.in_ok-put_fragment.ensures (take i c.args.fragments.now) c.loop-fragment.invariant k)

pub returns : goal.returns
returns c = λ spreads one is parts.
    let past : length c.args.fragments.now ≤ c.loop-fragment.fragment-index = search rules in
    parts_pushed spreads c.args.near.now.items c.args.far.now.items c.push.new.self.items c.push-2.new.self.items one c.loop-fragment.some c.loop-fragment.others
    c.in_ok-push.ensures.items c.in_ok-push-2.ensures.items
    (λ k. subst (λ ns. (Contains c.loop-fragment.some.items k ⊎ Contains c.loop-fragment.others.items k) ↔ Contains ns k)
    (take_all c.loop-fragment.fragment-index c.args.fragments.now past ∙ sym is) (c.loop-fragment.invariant k))
    parts
