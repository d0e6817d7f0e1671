use Rattle.std.proofs.lemmas.Result.{IfOk-weaker}
use Rattle.gq_known.specs.Known.{IsKnown}
use Rattle.gq_replies.proofs.Asking.{tells_prepared}
use Rattle.gq_replies.proofs.Cutting.{can_be_cut}
use Rattle.gq_replies.proofs.queries.find_prepared.Goals as goal

pub place_name-requires-clause-cut : goal.place_name-requires-clause-cut
place_name-requires-clause-cut c =
    can_be_cut c.prepared_names_stand_in_texts.ensures c.args.known.project.now c.documents_are_texts.ensures.utf8 c.as_str-key.result.now c.offset_at-offset.result c.text_of.result.now c.text_of.ensures.text
    (IsKnown c.args.known) c.requires.known c.in_ok-found.found c.in_ok-found.ensures

pub returns : goal.returns
returns c =
    IfOk-weaker c.place_name.result _ _
    (λ prepared is known id.
    tells_prepared c.args.encoding c.args.known.project.now c.as_str-key.result.now c.offset_at-offset.result c.args.params.now c.as_str-key.ensures c.offset_at-offset.ensures c.text_of.result.now c.text_of.ensures.text
    id c.in_ok-found.found prepared (c.in_ok-found.ensures known) is)
    c.place_name.ensures
