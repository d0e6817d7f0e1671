-- Each part stays.
use Rattle.std.proofs.Common.{subst}
use Rattle.std.specs.List.{insert}
use Rattle.gq_tree.specs.declared.parsed.Parsed.{Parsed}
use Rattle.gq_tree.specs.Readings.{parsed_view, shared_view}
use Rattle.gq_by_file.specs.Across.{AreAcross}
use Rattle.gq_by_file.proofs.by_file.ByFile.make_room.Goals as goal

pub returns : goal.returns
returns c es us rs one are = record {
  owned = c.make_room.ensures es us rs (shared_view c.args.reading.now) one are.owned;
  across = subst (λ (r : Parsed). AreAcross us (insert rs c.args.at (parsed_view r)) c.make_room-2.new.self) c.deref.ensures (c.make_room-2.ensures es us rs one are.across);
}
