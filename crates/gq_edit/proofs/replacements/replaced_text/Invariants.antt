use Rattle.std.proofs.Common.{drop, string_bytes}
use Rattle.gq_edit.proofs.Making.{Made}
use Rattle.gq_edit.proofs.replacements.replaced_text.Given as goal

abbrev pub invariant-loop-replacement : goal.invariant-loop-replacement
invariant-loop-replacement l = Made l.text l.replacements l.at (drop l.replacement-index l.replacements) (string_bytes l.made)
