use Rattle.std.proofs.Common.{inl, ap, sym, subst, List}
use Rattle.std.proofs.lemmas.Result.{err_from_is_err_and}
use Rattle.gq_project.specs.declared.document.Doc.{Doc}
use Rattle.gq_edit.specs.Workspace.{AreTexts}
use Rattle.gq_kept.specs.KeptOf.{KeptOf}
use Rattle.gq_replies.specs.Helping.Results.{IsRenameResult}
use Rattle.gq_replies.proofs.renames.rename_at.Goals as goal

pub returns-in_err-study-clause-renamed : goal.returns-in_err-study-clause-renamed
returns-in_err-study-clause-renamed c = let told = err_from_is_err_and c.from_residual.result c.from_residual.ensures.1 in rw told.1 (∣ inl told.2 ∣₁)

pub rename_studied-requires-clause-texts : goal.rename_studied-requires-clause-texts
rename_studied-requires-clause-texts c = subst AreTexts (sym c.in_ok-study.ensures.documents) c.requires

pub returns-clause-renamed : goal.returns-clause-renamed
returns-clause-renamed c =
    subst (λ (ds : List Doc). ∥ IsRenameResult c.args.encoding ds c.args.params.now c.args.offset c.rename_studied.result ∥₁) c.in_ok-study.ensures.documents c.rename_studied.ensures
