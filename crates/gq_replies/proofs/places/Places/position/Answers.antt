use Rattle.std.proofs.Common.{◌∙◌, ap, sym, map}
use Rattle.gq_text.specs.Place.{pos}
use Rattle.gq_text.proofs.Floors.{pos-floor}
use Rattle.gq_replies.proofs.Sorting.{position-found}
use Rattle.gq_replies.proofs.places.Places.position.Goals as goal

pub returns-in-Ok : goal.returns-in-Ok
returns-in-Ok c =
    let start = c.floor_char_boundary-start.result in
    c.index.ensures
    ∙ position-found c.args.encoding c.args.text.now c.deref.result.now c.args.self.now.positions.items start c.in-Ok.index _ (c.requires.of ∙ ap (map (pos c.args.encoding c.args.text.now)) (sym c.deref.ensures.value)) c.in-Ok.ensures.bound
    c.in-Ok.ensures.ok
    ∙ pos-floor c.args.encoding c.args.text.now start c.args.offset c.utf8.text c.floor_char_boundary-start.ensures.bound c.floor_char_boundary-start.ensures.nearest

pub returns-in-Err : goal.returns-in-Err
returns-in-Err c =
    c.position_in.ensures
    ∙ pos-floor c.args.encoding c.args.text.now c.floor_char_boundary-start.result c.args.offset c.utf8.text c.floor_char_boundary-start.ensures.bound c.floor_char_boundary-start.ensures.nearest
