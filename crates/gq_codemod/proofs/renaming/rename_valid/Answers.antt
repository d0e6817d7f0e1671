use Rattle.std.proofs.Common.{◌≡◌, List, ap, sym, subst, ◌∙◌}
use Rattle.gq_text.specs.Place.{off}
use Rattle.gq_text.specs.declared.place.PositionEncoding.TheVariants.{Utf16}
use Rattle.gq_project.specs.declared.document.Doc.{Doc}
use Rattle.gq_check.specs.Lines.{text_at}
use Rattle.gq_codemod.specs.Renames.{offset_at, IsRenamed, IsRenamingOf}
use Rattle.gq_codemod.proofs.Outcomes.{is_renamed}
use Rattle.gq_codemod.proofs.renaming.rename_valid.Goals as goal

pub returns-in_ok-renamed-in-Ok-clause-ok : goal.returns-in_ok-renamed-in-Ok-clause-ok
returns-in_ok-renamed-in-Ok-clause-ok c =
    let documents = c.args.valid.now in
    let file = c.args.file.now in
    let position = c.args.position in
    let new = c.args.new_name.now in
    let same = c.project-project.ensures.same in
    let offset : c.offset_in-offset.result ≡ offset_at documents file position = c.offset_in-offset.ensures.offset ∙ ap (λ t. off Utf16 t position) (c.text_of.ensures ∙ ap (λ ds. text_at ds file) same) in
    let is = is_renamed documents file c.offset_in-offset.result (offset_at documents file position) new c.in-Ok.edit offset c.project-project.ensures.valid c.in-Ok.ensures.answer c.in-Ok.ensures.valid c.in-Ok.ensures.responses in
    subst (λ ds. IsRenamingOf ds file position new c.in_ok-renamed-in-Ok.field-0) same
    (c.in_ok-renamed-in-Ok.ensures file new position (subst (λ (ds : List Doc). IsRenamed ds file (offset_at ds file position) new c.in-Ok.edit) (sym same) is))
