use Rattle.std.proofs.Common.{◌∙◌}
use Rattle.gq_text.proofs.Floors.{pos-floor}
use Rattle.gq_replies.proofs.ranges.position_at.Goals as goal

pub returns : goal.returns
returns c =
    c.position_in.ensures
    ∙ pos-floor c.args.encoding c.args.text.now c.floor_char_boundary.result c.args.offset c.utf8.text c.floor_char_boundary.ensures.bound c.floor_char_boundary.ensures.nearest
