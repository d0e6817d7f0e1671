-- The edit of a rename is that of its answer.
use Rattle.std.proofs.Common.{Ok, refl, ap, ◌∙◌}
use Rattle.std.proofs.lemmas.Result.{err_from_is_err_and}
use Rattle.gq_edit.specs.Workspace.{workspace_edit_of}
use Rattle.gq_replies.proofs.Keeping.{by_both}
use Rattle.gq_replies.proofs.Renaming.{not_renamed, renamed}
use Rattle.gq_replies.proofs.SoundEdits.{sound_rename}
use Rattle.gq_replies.proofs.renames.rename_in.Goals as goal

pub returns-in_err-edit : goal.returns-in_err-edit
returns-in_err-edit c =
    let told = err_from_is_err_and c.from_residual.result c.from_residual.ensures.1 in
    rw (told.1, told.2)
    (by_both c.requires.known c.requires.index (λ known index.
    not_renamed c.args.encoding c.args.valid.now c.args.params.now c.args.offset c.as_str.result.now c.as_str-2.result.now c.as_str.ensures c.as_str-2.ensures _ _ refl (c.in_err-edit.ensures.answer known index)))

pub returns : goal.returns
returns c =
    by_both c.requires.known c.requires.index (λ known index.
    renamed c.args.encoding c.args.valid.now c.args.params.now c.args.offset c.as_str.result.now c.as_str-2.result.now c.as_str.ensures c.as_str-2.ensures
    (Ok c.in_ok-edit.edit) c.in_ok-edit.edit c.in_ok-to_positions.field-0 refl (c.in_ok-edit.ensures.answer known index)
    (c.in_ok-to_positions.ensures ∙ ap (λ documents. workspace_edit_of c.args.encoding documents c.in_ok-edit.edit) c.project-project.ensures.same)
    (sound_rename c.args.valid.now c.project-project.result.now c.project-project.ensures.same c.documents_are_texts.ensures.in_order c.documents_are_texts.ensures.utf8 c.project-project.ensures.valid c.in_ok-edit.edit c.in_ok-edit.ensures.fits c.in_ok-edit.ensures.valid
    c.renames_name_versions.ensures c.renames_lead_back.ensures c.as_str.result.now c.args.offset c.as_str-2.result.now (c.in_ok-edit.ensures.answer known index))
    (c.in_ok-edit.ensures.responses known index))
