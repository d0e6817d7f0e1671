use Rattle.std.proofs.Common.{ap, sym, ◌∙◌, refl, string_bytes}
use Rattle.std.specs.Option.{option_map}
use Rattle.gq_table.specs.Views.{value_view, entry_view, under}
use Rattle.gq_table.specs.Json.{argument_value, argument_entries, argument_tagged}
use Rattle.gq_table.proofs.JsonLemmas.{entry_more, not_one}
use Rattle.gq_table.proofs.json_values.+argument.Goals as goal

pub read_argument_entries-loop-name-preserved : goal.read_argument_entries-loop-name-preserved
read_argument_entries-loop-name-preserved t c =
    let k = c.in-Some.name.now in
    entry_more argument_value argument_entries (λ k d ms. refl) _ c.loop-name.entries.items c.push.new.self.items c.in-Some-2.entry c.loop-name.name-iterator c.next.new.self k c.in-Some.member.now c.in-Some.ensures.steps c.loop-name.invariant
    (sym (ap (option_map entry_view) c.in-Some-2.is) ∙ c.in_ok-entry.ensures ∙ ap (λ n. option_map (under n) (option_map value_view c.in_ok-value.value)) c.as_str.ensures.value ∙ ap (option_map (under (string_bytes k))) c.in_ok-value.ensures)
    c.in_ok-push-in-Some-2.ensures.items

pub read_argument_tagged-returns-then-len-ne1 : goal.read_argument_tagged-returns-then-len-ne1
read_argument_tagged-returns-then-len-ne1 t c = not_one argument_tagged refl (λ k l d e ms. refl) c.args.members.now.entries (λ h. c.if-len-ne1.true (c.len.ensures.len ∙ h))
