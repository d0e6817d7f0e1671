use Rattle.std.proofs.Common.{◌∙◌, List, sym, subst}
use Rattle.gq_project.specs.declared.document.Doc.{Doc}
use Rattle.gq_query.specs.Definitions.{AreDefinitions}
use Rattle.gq_query.proofs.Knowing.{index_of_known}
use Rattle.gq_query.proofs.definitions.definition.Goals as goal

pub returns : goal.returns
returns c =
    let known = c.known.result in
    let is = c.known.ensures.known c.in_ok-learned.ensures in
    let index = index_of_known known c.in_ok-index.index c.documents.result.now c.deref.result.now (c.documents.ensures.all ∙ sym c.known.ensures.project) (c.known.ensures.readings ∙ sym c.deref.ensures.value) c.in_ok-index.ensures is in
    subst (λ (documents : List Doc). AreDefinitions documents c.args.key.now c.args.offset c.in_ok-found.found.items) c.known.ensures.project (c.in_ok-found.ensures is index)
