use Rattle.std.proofs.lemmas.Result.{IfOk-weaker}
use Rattle.std.proofs.Common.{◌∙◌, ap, List}
use Rattle.gq_project.specs.declared.document.Doc.{Doc}
use Rattle.gq_replies.specs.Locations.{locations_of}
use Rattle.gq_replies.proofs.Asking.{tells_definitions}
use Rattle.gq_replies.proofs.queries.find_definitions.Goals as goal

pub returns : goal.returns
returns c =
    IfOk-weaker c.locations.result _ _
    (λ located is known indexed id.
    tells_definitions c.args.encoding c.args.known.project.now c.as_str-key.result.now c.offset_at-offset.result c.args.params.now c.as_str-key.ensures c.offset_at-offset.ensures
    id c.in_ok-found.found.items located (c.in_ok-found.ensures known indexed)
    (is ∙ ap (λ (documents : List Doc). locations_of c.args.encoding documents c.deref.result.now) c.documents.ensures.all ∙ ap (locations_of c.args.encoding c.args.known.project.now) c.deref.ensures.value))
    c.locations.ensures
