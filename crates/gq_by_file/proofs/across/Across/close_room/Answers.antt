-- Nothing is known, or the type system is one that no rule tells from that of before.
use Rattle.std.specs.Prelude.{remove}
use Rattle.gq_by_file.proofs.AcrossLemmas.{across_over}
use Rattle.gq_by_file.proofs.across.Across.close_room.Goals as goal

pub returns-then-changes_types : goal.returns-then-changes_types
returns-then-changes_types c es us rs one are = c.forget.ensures us (remove rs c.args.at)

pub returns : goal.returns
returns c es us rs one are = c.take_names.ensures us rs (across_over es us (one c.if-changes_types.false) rs c.args.self.now are)
