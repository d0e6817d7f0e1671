use Rattle.std.proofs.Common.{◌∙◌}
use Rattle.gq_text.proofs.Floors.{pos-floor}
use Rattle.gq_check.proofs.Sorting.{position-found}
use Rattle.gq_check.proofs.places.position_of.Goals as goal

pub returns-in-Ok : goal.returns-in-Ok
returns-in-Ok c =
    let start = c.floor_char_boundary-start.result in
    position-found c.args.encoding c.args.text.now c.args.offsets.now c.args.positions.now start c.in-Ok.index (record { line = 0; character = 0 }) c.requires.of c.in-Ok.ensures.bound c.in-Ok.ensures.ok
    ∙ pos-floor c.args.encoding c.args.text.now start c.args.offset c.utf8.text c.floor_char_boundary-start.ensures.bound c.floor_char_boundary-start.ensures.nearest

pub returns-in-Err : goal.returns-in-Err
returns-in-Err c =
    c.position_in.ensures
    ∙ pos-floor c.args.encoding c.args.text.now c.floor_char_boundary-start.result c.args.offset c.utf8.text c.floor_char_boundary-start.ensures.bound c.floor_char_boundary-start.ensures.nearest
