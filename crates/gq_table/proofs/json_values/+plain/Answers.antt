use Rattle.std.proofs.Common.{ap, sym, ◌∙◌, refl, string_bytes}
use Rattle.std.specs.Option.{option_map}
use Rattle.gq_table.specs.Views.{value_view, entry_view, under}
use Rattle.gq_table.specs.Json.{plain_value, plain_entries}
use Rattle.gq_table.proofs.JsonLemmas.{entry_more}
use Rattle.gq_table.proofs.json_values.+plain.Goals as goal

pub read_plain_entries-loop-name-preserved : goal.read_plain_entries-loop-name-preserved
read_plain_entries-loop-name-preserved t c =
    let k = c.in-Some.name.now in
    entry_more plain_value plain_entries (λ k d ms. refl) _ c.loop-name.entries.items c.push.new.self.items c.in-Some-2.entry c.loop-name.name-iterator c.next.new.self k c.in-Some.member.now c.in-Some.ensures.steps c.loop-name.invariant
    (sym (ap (option_map entry_view) c.in-Some-2.is) ∙ c.in_ok-entry.ensures ∙ ap (λ n. option_map (under n) (option_map value_view c.in_ok-value.value)) c.as_str.ensures.value ∙ ap (option_map (under (string_bytes k))) c.in_ok-value.ensures)
    c.in_ok-push-in-Some-2.ensures.items
