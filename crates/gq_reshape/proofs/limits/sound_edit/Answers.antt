use Rattle.std.proofs.Common.{List, ◌∙◌, ap, subst, sym}
use Rattle.std.specs.Prelude.{IfOk}
use Rattle.gq_project.specs.declared.document.Doc.{Doc}
use Rattle.gq_edit.specs.declared.edit.DocumentEdit.{DocumentEdit}
use Rattle.gq_edit.specs.Edits.{FitDocuments, after_edit}
use Rattle.gq_rules.specs.Validity.{IsValid}
use Rattle.gq_rename.specs.Checked.{IsMeasured}
use Rattle.gq_reshape.specs.Placed.{edits_from}
use Rattle.gq_reshape.specs.Helping.Fitting.{AllFit}
use Rattle.gq_reshape.proofs.Measuring.{measured_fits}
use Rattle.gq_reshape.proofs.limits.sound_edit.Goals as goal

pub edit_of-requires : goal.edit_of-requires
edit_of-requires c =
    let A : List Doc → Type 0 = λ ds. AllFit c.args.replacements.now 0 ds in
    subst A (sym c.requires.project) c.requires.fit

pub measured-requires-clause-valid : goal.measured-requires-clause-valid
measured-requires-clause-valid c =
    let V : List Doc → Type 0 = λ ds. ∥ IsValid (after_edit (edits_from c.args.replacements.now 0 ds) ds) ∥₁ in
    let E : List DocumentEdit → Type 0 = λ es. ∥ IsValid (after_edit es c.args.asked.known.project.now) ∥₁ in
    subst E (sym c.in_ok-edit.ensures.edit) (subst V (sym c.requires.project) c.requires.valid)

pub returns-clause-measured : goal.returns-clause-measured
returns-clause-measured c =
    let M : List Doc → Type 0 = λ ds. IsMeasured ds (edits_from c.args.replacements.now 0 ds) c.measured.result in
    let E : List DocumentEdit → Type 0 = λ es. IsMeasured c.args.asked.known.project.now es c.measured.result in
    subst M c.requires.project (subst E c.in_ok-edit.ensures.edit c.measured.ensures)

pub returns-clause-fits : goal.returns-clause-fits
returns-clause-fits c =
    let F : List Doc → Type 0 = λ ds. IfOk c.measured.result (FitDocuments ds) in
    subst F c.requires.project (measured_fits c.args.asked.known.project.now c.in_ok-edit.edit c.measured.result c.measured.ensures c.in_ok-edit.ensures.fits)
