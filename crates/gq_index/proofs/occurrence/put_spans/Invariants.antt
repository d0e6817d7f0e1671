use Rattle.std.proofs.Common.{◌≡◌, ◌++◌, drop}
use Rattle.gq_index.specs.Occurrences.{occurrences_in_file}
use Rattle.gq_index.proofs.occurrence.put_spans.Given as goal

abbrev pub invariant-loop-span : goal.invariant-loop-span
invariant-loop-span l = l.places.items ++ occurrences_in_file l.file (drop l.span-index l.spans) ≡ l.initial.places.items ++ occurrences_in_file l.file l.spans
