use Rattle.std.proofs.Common.{sym, subst, List}
use Rattle.gq_project.specs.declared.document.Doc.{Doc}
use Rattle.gq_edit.specs.Workspace.{AreTexts}
use Rattle.gq_rpc.specs.declared.messages.Outgoing.TheVariants as outgoing
use Rattle.gq_replies.specs.Answers.{TellsPrepared}
use Rattle.gq_replies.proofs.Keeping.{by_known}
use Rattle.gq_replies.proofs.over_kept.ask_prepared.Goals as goal

pub find_prepared-requires-clause-texts : goal.find_prepared-requires-clause-texts
find_prepared-requires-clause-texts c = subst AreTexts (sym c.known.ensures.project) c.requires

pub returns : goal.returns
returns c = λ id.
    by_known (λ (ds : List Doc). TellsPrepared c.args.encoding ds id c.args.params.now (outgoing.Prepared id c.in_ok-found.found)) _ c.known.result.project.now c.args.kept.now.documents c.known.ensures.project c.known.ensures.known
    (λ known. c.in_ok-found.ensures known id)
