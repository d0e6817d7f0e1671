use Rattle.std.proofs.Common.{◌≡◌, ◌⊎◌, ℕ, inr, Err, List, ap, sym, subst, ◌∙◌}
use Rattle.std.proofs.lemmas.Result.{IfOk-weaker}
use mathlib.Core.Logic.{∥∥₁_map}
use Rattle.gq_project.specs.declared.document.Doc.{Doc}
use Rattle.gq_edit.specs.Workspace.{AreTexts}
use Rattle.gq_rename.specs.declared.refusal.Refusal.TheVariants.{NoMemory}
use Rattle.gq_rename.specs.Rename.{IsRenameAnswer}
use Rattle.gq_replies.specs.Answers.{offset_at}
use Rattle.gq_replies.specs.Helping.Results.{IsEditByPosition}
use Rattle.gq_replies.proofs.Renaming.{offset-asked, tells_edit, tells_refused}
use Rattle.gq_replies.proofs.answers.answer_rename.Goals as goal

pub offset_at-offset-requires : goal.offset_at-offset-requires
offset_at-offset-requires c = subst AreTexts (sym c.project.ensures) c.requires

pub returns-in-Ok-clause-answer : goal.returns-in-Ok-clause-answer
returns-in-Ok-clause-answer c =
    let here = c.offset_at-offset.ensures ∙ ap (λ (ds : List Doc). offset_at c.args.encoding ds c.as_str.result.now c.args.params.now.position) c.project.ensures in
    let offset = offset-asked c.args.encoding c.args.kept.now.documents c.as_str.result.now c.offset_at-offset.result c.args.params.now c.as_str.ensures here in
    ∥∥₁_map c.in-Ok.ensures.renamed
    (λ edit. inr
    (tells_edit c.args.encoding c.args.kept.now.documents c.args.id c.args.params.now _ c.in-Ok.edit (subst (λ (i : ℕ). IsEditByPosition c.args.encoding c.args.kept.now.documents c.args.params.now i c.in-Ok.edit) offset edit)))

pub returns-in-Err-clause-answer : goal.returns-in-Err-clause-answer
returns-in-Err-clause-answer c =
    let here = c.offset_at-offset.ensures ∙ ap (λ (ds : List Doc). offset_at c.args.encoding ds c.as_str.result.now c.args.params.now.position) c.project.ensures in
    let offset = offset-asked c.args.encoding c.args.kept.now.documents c.as_str.result.now c.offset_at-offset.result c.args.params.now c.as_str.ensures here in
    IfOk-weaker c.refuse.result _ _
    (λ response is.
    ∥∥₁_map c.in-Err.ensures.renamed
    (λ refused.
    tells_refused c.args.encoding c.args.kept.now.documents c.args.id c.args.params.now _ c.in-Err.refusal response
    (subst (λ (i : ℕ). (c.in-Err.refusal ≡ NoMemory) ⊎ IsRenameAnswer c.args.kept.now.documents c.args.params.now.key i c.args.params.now.new_name (Err c.in-Err.refusal)) offset refused) is))
    c.refuse.ensures
