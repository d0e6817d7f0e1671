use Rattle.std.proofs.Common.{List, ◌∙◌, ap, sym, subst}
use Rattle.gq_project.specs.declared.document.Doc.{Doc}
use Rattle.gq_edit.specs.declared.edit.DocumentEdit.{DocumentEdit}
use Rattle.gq_edit.specs.Edits.{FitDocuments}
use Rattle.gq_rename.specs.Rename.{IsTooLarge}
use Rattle.gq_reshape.specs.Placed.{edits_from}
use Rattle.gq_reshape.specs.Helping.Fitting.{AllFit}
use Rattle.gq_reshape.specs.Helping.Limited.{ArePassed}
use Rattle.gq_reshape.proofs.limits.limited_edit.Goals as goal

pub edit_of-requires : goal.edit_of-requires
edit_of-requires c =
    let A : List Doc → Type 0 = λ ds. AllFit c.args.replacements.now 0 ds in
    subst A (sym c.requires.project) c.requires.fit

pub returns-then-branch-clause-limited : goal.returns-then-branch-clause-limited
returns-then-branch-clause-limited c =
    let project = c.args.asked.known.project.now in
    let D : List Doc → Type 0 = λ ds. IsTooLarge ds (edits_from c.args.replacements.now 0 ds) in
    subst D c.requires.project (subst (IsTooLarge project) c.in_ok-edit.ensures.edit (subst (ArePassed project c.in_ok-edit.edit) c.if-branch.true c.in_ok-are_passed.ensures))

pub returns-clause-limited : goal.returns-clause-limited
returns-clause-limited c =
    let project = c.args.asked.known.project.now in
    let D : List Doc → Type 0 = λ ds. IsTooLarge ds (edits_from c.args.replacements.now 0 ds) → ⊥ in
    let E : List DocumentEdit → Type 0 = λ es. IsTooLarge project es → ⊥ in (
      c.in_ok-edit.ensures.edit ∙ ap (λ (ds : List Doc). edits_from c.args.replacements.now 0 ds) c.requires.project,
      subst D c.requires.project (subst E c.in_ok-edit.ensures.edit (subst (ArePassed project c.in_ok-edit.edit) c.if-branch.false c.in_ok-are_passed.ensures)),
    )

pub returns-clause-fits : goal.returns-clause-fits
returns-clause-fits c =
    let F : List Doc → Type 0 = λ ds. FitDocuments ds c.in_ok-edit.edit in
    subst F c.requires.project c.in_ok-edit.ensures.fits
