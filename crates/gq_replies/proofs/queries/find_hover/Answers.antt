use Rattle.gq_replies.proofs.Asking.{tells_hover}
use Rattle.gq_replies.proofs.queries.find_hover.Goals as goal

pub returns : goal.returns
returns c = λ known indexed id.
    tells_hover c.args.encoding c.args.known.project.now c.as_str-key.result.now c.offset_at-offset.result c.args.params.now c.as_str-key.ensures c.offset_at-offset.ensures c.text_of.result.now c.text_of.ensures.text
    id c.in_ok-found.found c.place_hover.result (c.in_ok-found.ensures known indexed) c.place_hover.ensures
