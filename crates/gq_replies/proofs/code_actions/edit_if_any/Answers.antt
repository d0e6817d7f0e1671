use mathlib.Core.Logic.{∥∥₁_map}
use Rattle.gq_edit.specs.Edits.{FitDocuments}
use Rattle.gq_replies.proofs.Offering.{nothing_fits, offered_nothing}
use Rattle.gq_replies.proofs.SoundEdits.{edit_of}
use Rattle.gq_replies.proofs.code_actions.edit_if_any.Goals as goal

pub returns-in-Ok-clause-edit : goal.returns-in-Ok-clause-edit
returns-in-Ok-clause-edit c =
    let versions = c.edits_name_documents_at_their_versions.ensures in
    let leads = c.edits_lead_back.ensures in
    ∥∥₁_map c.in-Ok.ensures.answer
    (λ answer.
    edit_of c.args.studied.now.valid.now c.project-project.result.now c.project-project.ensures.same c.documents_are_texts.ensures.in_order c.documents_are_texts.ensures.utf8 c.project-project.ensures.valid c.in-Ok.edit c.in-Ok.ensures.fits c.in-Ok.ensures.valid
    (record { key = c.args.key.now; range = c.args.range }) versions.extract versions.inline versions.remove leads.extract leads.inline leads.remove c.args.kind answer.1 answer.0)

pub returns-in-Err-clause-edit : goal.returns-in-Err-clause-edit
returns-in-Err-clause-edit c =
    offered_nothing c.args.studied.now.valid.now (record { key = c.args.key.now; range = c.args.range }) c.args.kind c.in-Err.why c.no_edit.result c.no_edit.ensures.none c.no_edit.ensures.other c.in-Err.ensures.answer

pub returns-in-Err-clause-fits : goal.returns-in-Err-clause-fits
returns-in-Err-clause-fits c = nothing_fits (FitDocuments c.args.studied.now.valid.now) c.no_edit.result c.no_edit.ensures.none
