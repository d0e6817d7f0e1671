use Rattle.std.proofs.Common.{sym, subst, List}
use Rattle.gq_project.specs.declared.document.Doc.{Doc}
use Rattle.gq_edit.specs.Workspace.{AreTexts}
use Rattle.gq_rpc.specs.declared.messages.Outgoing.TheVariants as outgoing
use Rattle.gq_replies.specs.Answers.{TellsCompletions}
use Rattle.gq_replies.proofs.Keeping.{by_known}
use Rattle.gq_replies.proofs.over_kept.ask_completions.Goals as goal

pub find_completions-requires : goal.find_completions-requires
find_completions-requires c = subst AreTexts (sym c.known.ensures.project) c.requires

pub returns : goal.returns
returns c = λ id.
    by_known (λ (ds : List Doc). TellsCompletions c.args.encoding ds id c.args.params.now (outgoing.Completions id c.in_ok-found.found)) _ c.known.result.project.now c.args.kept.now.documents c.known.ensures.project c.known.ensures.known
    (λ known. c.in_ok-found.ensures known id)
