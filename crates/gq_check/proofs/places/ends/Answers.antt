use Rattle.std.specs.Str.{IsCharBoundary}
use Rattle.std.proofs.lemmas.List.Elements.{All-push, All-same}
use Rattle.gq_check.proofs.places.ends.Goals as goal

pub loop-item-preserved : goal.loop-item-preserved
loop-item-preserved c =
    All-same (IsCharBoundary c.args.text.now) _ _ c.in_ok-push-2.ensures.items
    (All-push (IsCharBoundary c.args.text.now) _ _
    (All-same (IsCharBoundary c.args.text.now) _ _ c.in_ok-push.ensures.items (All-push (IsCharBoundary c.args.text.now) _ _ c.loop-item.invariant c.floor_char_boundary.ensures.boundary))
    c.floor_char_boundary-in-loop-item.ensures.boundary)
