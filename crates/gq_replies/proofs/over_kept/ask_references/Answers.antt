use Rattle.std.proofs.Common.{ap, sym, subst, ◌∙◌, List}
use Rattle.gq_project.specs.declared.document.Doc.{Doc}
use Rattle.gq_edit.specs.Workspace.{AreTexts}
use Rattle.gq_index.specs.Indexed.{IsIndexOfProject}
use Rattle.gq_kept.specs.KeptOf.{KeptOf}
use Rattle.gq_rpc.specs.declared.messages.Outgoing.TheVariants as outgoing
use Rattle.gq_replies.specs.Answers.{TellsReferences}
use Rattle.gq_replies.proofs.Keeping.{by_index}
use Rattle.gq_replies.proofs.over_kept.ask_references.Goals as goal

pub find_references-requires : goal.find_references-requires
find_references-requires c = subst AreTexts (sym (c.known.ensures.project ∙ ap (λ (k : KeptOf). k.documents) c.in_ok-make_index.ensures.ok)) c.requires

pub returns-clause-told : goal.returns-clause-told
returns-clause-told c = λ id.
    by_index (λ (ds : List Doc). TellsReferences c.args.encoding ds id c.args.params.now (outgoing.Locations id c.in_ok-found.found)) (λ (ds : List Doc). IsIndexOfProject ds c.index.result.now)
    _ c.known.result.project.now c.make_index.new.self.documents c.args.kept.now.documents c.known.ensures.project (ap (λ (k : KeptOf). k.documents) c.in_ok-make_index.ensures.ok) c.known.ensures.known c.index.ensures
    (λ known indexed. c.in_ok-found.ensures known indexed id)
