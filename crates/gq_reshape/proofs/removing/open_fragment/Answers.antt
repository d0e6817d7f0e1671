use Rattle.std.proofs.Common.{◌≡◌, ◌∙◌, List, ap, sym, subst}
use mathlib.Core.Logic.{∥∥₁_elim, ∥∥₁_prop}
use Rattle.gq_tree.specs.Readings.{readings_view}
use Rattle.gq_project.specs.declared.document.Doc.{Doc}
use Rattle.gq_edit.specs.Edits.{after_edit}
use Rattle.gq_rules.specs.Validity.{IsValid}
use Rattle.gq_rename.specs.Checked.{IsMeasured}
use Rattle.gq_laws.specs.Rewriting.Parts.{between}
use Rattle.gq_reshape.specs.Placed.{edits_from}
use Rattle.gq_reshape.specs.Remove.{remove_at, remove_replacements}
use Rattle.gq_reshape.specs.Helping.Fitting.{AllFit}
use Rattle.gq_reshape.specs.declared.placed.PlacedReplacement.{PlacedReplacement}
use Rattle.gq_reshape.proofs.Indexing.{are_readings}
use Rattle.gq_reshape.proofs.Measuring.{measured_judges}
use Rattle.gq_reshape.proofs.Merely.{part_prop, fit_prop}
use Rattle.gq_reshape.proofs.RemoveAnswers.{braces_part, inline_opened, passes, removed}
use Rattle.gq_reshape.proofs.removing.open_fragment.Goals as goal

pub remove_replacements-requires : goal.remove_replacements-requires
remove_replacements-requires c =
    let a = c.args.asked in
    let i = c.args.inline.now in
    rw c.as_str-text.ensures (∥∥₁_elim c.requires.about.is_known (part_prop a.document.now.text (between i.set.span)) (λ known. braces_part a c.requires.about i c.requires.of known))

pub sound_edit-requires-clause-project : goal.sound_edit-requires-clause-project
sound_edit-requires-clause-project c = c.requires.about.is_project

pub sound_edit-requires-clause-fit : goal.sound_edit-requires-clause-fit
sound_edit-requires-clause-fit c =
    let a = c.args.asked in
    let i = c.args.inline.now in
    let replacements : c.deref.result.now ≡ remove_replacements a.file a.document.now.text i.span i.set.span =
    c.deref.ensures.value ∙ c.in_ok-replacements.ensures ∙ ap (λ text. remove_replacements a.file text i.span i.set.span) c.as_str-text.ensures in
    let F : List PlacedReplacement → Type 0 = λ ps. AllFit ps 0 a.valid.now in
    subst F (sym replacements) (∥∥₁_elim c.requires.about.is_known (fit_prop (remove_replacements a.file a.document.now.text i.span i.set.span) 0 a.valid.now) (λ known. (inline_opened a c.requires.about i c.requires.of known).fit))

pub sound_edit-requires-clause-valid : goal.sound_edit-requires-clause-valid
sound_edit-requires-clause-valid c =
    let a = c.args.asked in
    let i = c.args.inline.now in
    let replacements : c.deref.result.now ≡ remove_replacements a.file a.document.now.text i.span i.set.span =
    c.deref.ensures.value ∙ c.in_ok-replacements.ensures ∙ ap (λ text. remove_replacements a.file text i.span i.set.span) c.as_str-text.ensures in
    let V : List PlacedReplacement → Type 0 = λ ps. ∥ IsValid (after_edit (edits_from ps 0 a.valid.now) a.valid.now) ∥₁ in
    subst V (sym replacements) (∥∥₁_elim c.requires.about.is_known ∥∥₁_prop (λ known. (passes a c.requires.about i c.requires.of known c.removals_pass.ensures.pass).1))

pub returns-clause-answer : goal.returns-clause-answer
returns-clause-answer c known index =
    let a = c.args.asked in
    let i = c.args.inline.now in
    let readings = are_readings a c.requires.about known in
    let replacements : c.deref.result.now ≡ remove_replacements a.file a.document.now.text i.span i.set.span =
    c.deref.ensures.value ∙ c.in_ok-replacements.ensures ∙ ap (λ text. remove_replacements a.file text i.span i.set.span) c.as_str-text.ensures in
    let M : List PlacedReplacement → Type 0 = λ ps. IsMeasured a.valid.now (edits_from ps 0 a.valid.now) c.sound_edit.result in
    removed a c.requires.about i c.requires.of c.sound_edit.result
    (measured_judges c.no_tree_past_limits.ensures a.valid.now c.requires.about.in_order (readings_view a.known.readings.now)
    (c.valid_documents_are_trees.ensures a.valid.now (readings_view a.known.readings.now) readings c.requires.about.valid)
    (remove_at a.file a.document.now.text i.span i.set.span) (passes a c.requires.about i c.requires.of known c.removals_pass.ensures.pass) c.sound_edit.result (subst M replacements c.sound_edit.ensures.measured))
