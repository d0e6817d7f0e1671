use Rattle.std.specs.Str.{IsCharBoundary}
use Rattle.std.proofs.lemmas.List.Elements.{All-push, All-same}
use Rattle.gq_replies.proofs.places.ends.Goals as goal

pub loop-span-preserved : goal.loop-span-preserved
loop-span-preserved c =
    All-same (IsCharBoundary c.args.text.now) _ _ c.in_ok-push-2.ensures.items
    (All-push (IsCharBoundary c.args.text.now) _ _
    (All-same (IsCharBoundary c.args.text.now) _ _ c.in_ok-push.ensures.items (All-push (IsCharBoundary c.args.text.now) _ _ c.loop-span.invariant c.floor_char_boundary.ensures.boundary))
    c.floor_char_boundary-in-loop-span.ensures.boundary)
