use Rattle.std.proofs.Common.{◌≡◌, ◌++◌, drop}
use Rattle.std.specs.Prelude.{string_bytes}
use Rattle.gq_table.specs.Helping.CallTexts.{values_text}
use Rattle.gq_table.specs.Views.{values_view, entries_view}
use Rattle.gq_table.proofs.calls.+text.Given as goal

abbrev pub invariant-put_values-loop-value : goal.invariant-put_values-loop-value
invariant-put_values-loop-value l = string_bytes l.text ++ values_text (values_view (drop l.value-index l.values)) ≡ string_bytes l.initial.text ++ values_text (values_view l.values)

abbrev pub invariant-put_entries-loop-entry : goal.invariant-put_entries-loop-entry
invariant-put_entries-loop-entry l = string_bytes l.text ++ values_text (entries_view (drop l.entry-index l.entries)) ≡ string_bytes l.initial.text ++ values_text (entries_view l.entries)
