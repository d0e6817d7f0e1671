-- Each part stays.
use Rattle.std.proofs.Common.{set, subst}
use Rattle.gq_tree.specs.declared.parsed.Parsed.{Parsed}
use Rattle.gq_tree.specs.Readings.{parsed_view, shared_view}
use Rattle.gq_by_file.specs.Across.{AreAcross}
use Rattle.gq_by_file.proofs.by_file.ByFile.replace.Goals as goal

pub returns : goal.returns
returns c es us rs one are = record {
  owned = c.forget_at.ensures es us rs (shared_view c.args.reading.now) one are.owned;
  across = subst (λ (r : Parsed). AreAcross us (set rs c.args.at (parsed_view r)) c.replace.new.self) c.deref.ensures (c.replace.ensures es us rs one are.across);
}
