use Rattle.std.proofs.Common.{rules, ◌≡◌, ◌∙◌, ◌+◌, ◌<◌, ◌++◌, ◌∷◌, [], Contains, length, take, take-suc, add-one, get_or, refl, sym, ap, subst}
use Rattle.std.proofs.lemmas.List.{map-append}
use Rattle.std.proofs.lemmas.List.Elements.{All-contains}
use Rattle.std.proofs.lemmas.Option.{slice_get_read}
use Rattle.gq_merging.specs.Helping.HubTables.{SpreadOf, IsAlone, AreLed}
use Rattle.gq_merging.specs.Helping.Views.{all_spreads_at, sets_at, spread_at}
use Rattle.gq_merging.proofs.HubLemmas.{led_none, led_both}
use Rattle.gq_merging.proofs.MemberLemmas.{get_contains}
use Rattle.gq_types.proofs.Gathered.{to_map}
use Rattle.gq_merging.proofs.rows.all_led.Goals as goal

pub loop-spread-init : goal.loop-spread-init
loop-spread-init c =
    subst (λ ns. AreLed c.args.from.names.now.names.items c.args.from.number [] (sets_at c.args.sets.now.items) (sets_at c.args.sets.now.items) c.args.hubs.now.items c.args.hubs.now.items ns)
    (sym c.new-numbers.ensures.items) (led_none c.args.from.names.now.names.items c.args.from.number (sets_at c.args.sets.now.items) c.args.hubs.now.items c.requires.hubs)

pub put_led-requires-clause-alone : goal.put_led-requires-clause-alone
put_led-requires-clause-alone c =
    let i = c.loop-spread.spread-index in
    let one = c.spread-item.result in
    let inside : i < length c.args.spreads.now = search rules in
    let read : get_or c.args.spreads.now i one ≡ one = search rules in
    let there : Contains c.args.spreads.now one =
    get_contains c.args.spreads.now i one (slice_get_read c.args.spreads.now (length c.args.spreads.now) i one refl inside (sym read)) in
    All-contains (λ (s : SpreadOf). IsAlone s.text s.alone) (all_spreads_at c.args.spreads.now) (spread_at c.spread-item.result) c.requires.alone
    (to_map spread_at c.args.spreads.now c.spread-item.result there)

pub loop-spread-preserved : goal.loop-spread-preserved
loop-spread-preserved c =
    let names = c.args.from.names.now.names.items in
    let number = c.args.from.number in
    let i = c.loop-spread.spread-index in
    let all = c.args.spreads.now in
    let one = c.spread-item.result in
    let old = sets_at c.args.sets.now.items in
    let new = sets_at c.put_led.new.sets.items in
    let longer : take (i + 1) all ≡ take i all ++ one ∷ [] =
    ap (λ k. take k all) (add-one i) ∙ take-suc all i _ c.loop-spread-test.true ∙ ap (λ f. take i all ++ f ∷ []) (sym c.spread-item.is) in
    let spreads_are : all_spreads_at (take (i + 1) all) ≡ all_spreads_at (take i all) ++ spread_at one ∷ [] = ap all_spreads_at longer ∙ map-append spread_at (take i all) (one ∷ []) in
    let puts = c.in_ok-put_led.ensures in
    let both =
    led_both names number (all_spreads_at (take i all)) (spread_at one ∷ []) old (sets_at c.loop-spread.sets.items) new
    c.args.hubs.now.items c.loop-spread.hubs.items c.put_led.new.hubs.items
    c.loop-spread.numbers.items puts.numbers c.loop-spread.invariant puts.led in
    subst (λ ss. AreLed names number ss old new c.args.hubs.now.items c.put_led.new.hubs.items c.put_led.new.numbers.items) (sym spreads_are)
    (subst (λ ns. AreLed names number (all_spreads_at (take i all) ++ spread_at one ∷ []) old new c.args.hubs.now.items c.put_led.new.hubs.items ns) (sym puts.is) both)
