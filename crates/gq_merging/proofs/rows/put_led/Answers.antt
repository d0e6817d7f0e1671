use Rattle.std.proofs.Common.{rules, arith, ◌≡◌, ◌≢◌, ◌<◌, ◌++◌, ◌∷◌, [], None, Some, length, get_or, set, refl, sym, ◌∙◌, ap, subst}
use Rattle.std.specs.List.{slice_get}
use Rattle.std.proofs.lemmas.Bool.Decides.{nat_tests}
use Rattle.std.proofs.lemmas.Option.{slice_get_read, get_or_from_slice_get}
use Rattle.std.proofs.lemmas.List.{length-map}
use Rattle.gq_spreads.specs.Spreads.{places_from}
use Rattle.gq_document.specs.FieldSets.{SetOf}
use Rattle.gq_merging.specs.Helping.HubTables.{AreLed, hub_at, noted_at}
use Rattle.gq_merging.specs.Helping.Views.{set_at, sets_at, spread_at}
use Rattle.gq_merging.proofs.HubLemmas.{led_directly, led_old, led_new}
use Rattle.gq_merging.proofs.rows.put_led.Goals as goal

pub returns-in_default : goal.returns-in_default
returns-in_default c =
    let names = c.args.from.names.now.names.items in
    let added : c.extend_from_slice.new.self.items ≡ c.args.numbers.now.items ++ c.numbers-fragments.result.now = c.in_ok-extend_from_slice.ensures.items in
    record {
      numbers = places_from 0 c.args.spread.name.now names;
      is = added ∙ ap (λ ns. c.args.numbers.now.items ++ ns) c.numbers-fragments.ensures;
      led = led_directly names c.args.from.number (spread_at c.args.spread) (sets_at c.args.sets.now.items) c.args.hubs.now.items c.requires.hubs;
    }

pub returns-in_default-index : goal.returns-in_default-index
returns-in_default-index c =
    let names = c.args.from.names.now.names.items in
    let sets = sets_at c.args.sets.now.items in
    let hubs = c.args.hubs.now.items in
    let first = c.in-Some.first in
    let one : SetOf = record { file = c.args.from.set.file; parent = (set_at c.args.from.set).parent; selections = (spread_at c.args.spread).alone } in
    let counted : length c.args.sets.now.items ≡ length sets = sym (length-map c.args.sets.now.items set_at) in
    let places : places_from 0 c.args.spread.name.now names ≡ first ∷ c.in-Some.ensures.rest = sym c.numbers-fragments.ensures ∙ c.in-Some.ensures.is in
    let count : c.len.result ≡ length hubs = search rules in
    let within : first < length hubs = subst (λ n. first < n) count c.in-Some.ensures.within in
    let free : get_or hubs first None ≡ None = search rules in
    let inside : c.args.from.number < length sets = subst (λ n. c.args.from.number < n) counted c.requires.number in
    let led = led_new names c.args.from.number (spread_at c.args.spread) sets hubs c.requires.hubs first c.in-Some.ensures.rest one places within free refl c.requires.alone inside in
    let noted : c.put_hub.new.hubs.items ≡ set hubs first (Some (length sets)) = c.in_ok-put_hub.ensures.hubs ∙ ap (λ n. set hubs first (Some n)) counted in
    record {
      numbers = length sets ∷ [];
      is = c.in_ok-put_hub.ensures.numbers ∙ ap (λ n. c.args.numbers.now.items ++ n ∷ []) counted;
      led = subst (λ ss. AreLed names c.args.from.number (spread_at c.args.spread ∷ []) sets ss hubs c.put_hub.new.hubs.items (length sets ∷ [])) (sym c.in_ok-put_hub.ensures.sets)
          (subst (λ hs. AreLed names c.args.from.number (spread_at c.args.spread ∷ []) sets (sets ++ one ∷ []) hubs hs (length sets ∷ [])) (sym noted) led);
    }

pub returns-then-hub-from : goal.returns-then-hub-from
returns-then-hub-from c =
    let names = c.args.from.names.now.names.items in
    let added : c.extend_from_slice-then-hub-from.new.self.items ≡ c.args.numbers.now.items ++ c.numbers-fragments.result.now = c.in_ok-extend_from_slice-2.ensures.items in
    record {
      numbers = places_from 0 c.args.spread.name.now names;
      is = added ∙ ap (λ ns. c.args.numbers.now.items ++ ns) c.numbers-fragments.ensures;
      led = led_directly names c.args.from.number (spread_at c.args.spread) (sets_at c.args.sets.now.items) c.args.hubs.now.items c.requires.hubs;
    }

pub returns : goal.returns
returns c =
    let names = c.args.from.names.now.names.items in
    let hubs = c.args.hubs.now.items in
    let first = c.in-Some.first in
    let hub = c.in-Some-index.hub in
    let places : places_from 0 c.args.spread.name.now names ≡ first ∷ c.in-Some.ensures.rest = sym c.numbers-fragments.ensures ∙ c.in-Some.ensures.is in
    let count : c.len.result ≡ length hubs = search rules in
    let within : first < length hubs = subst (λ n. first < n) count c.in-Some.ensures.within in
    let read : get_or hubs first c.index.result.now ≡ c.index.result.now = search rules in
    let there : slice_get hubs first ≡ Some c.index.result.now = slice_get_read hubs (length hubs) first c.index.result.now refl within (sym read) in
    let at : get_or hubs first None ≡ Some hub = get_or_from_slice_get hubs first c.index.result.now None there ∙ c.in-Some-index.is in
    let noted : hub_at names hubs c.args.spread.name.now ≡ Some hub = ap (noted_at hubs) places ∙ at in
    let other : hub ≢ c.args.from.number = λ e. absurd (grind (arith, nat_tests, e)) in
    record {
      numbers = hub ∷ [];
      is = c.in_ok-push.ensures.items;
      led = led_old names c.args.from.number (spread_at c.args.spread) (sets_at c.args.sets.now.items) hubs c.requires.hubs hub noted other;
    }
