use Rattle.std.proofs.Common.{All}
use Rattle.std.specs.Str.{IsCharBoundary}
use Rattle.gq_replies.proofs.places.ends.Given as goal

abbrev pub invariant-loop-span : goal.invariant-loop-span
invariant-loop-span l = All (IsCharBoundary l.text) l.offsets.items
