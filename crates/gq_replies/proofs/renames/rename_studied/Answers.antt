-- A valid project is indexed, and one that is not valid is refused as that.
use Rattle.std.proofs.Common.{inr, ◌∙◌, sym, subst, List}
use mathlib.Core.Logic.{∥∥₁_map}
use Rattle.gq_project.specs.declared.document.Doc.{Doc}
use Rattle.gq_edit.specs.Workspace.{AreTexts}
use Rattle.gq_tree.specs.Readings.{readings_view}
use Rattle.gq_parse.specs.Parsed.{AreParsed}
use Rattle.gq_index.specs.Indexed.{IsIndexOfProject}
use Rattle.gq_rules.specs.Validity.{IsValid}
use Rattle.gq_replies.specs.Helping.Results.{IsRenameResult}
use Rattle.gq_replies.proofs.NotValid.{refused_rename}
use Rattle.gq_replies.proofs.renames.rename_studied.Goals as goal

pub index-requires : goal.index-requires
index-requires c = c.requires.indexed (subst (λ (ds : List Doc). ∥ IsValid ds ∥₁) c.in-Some.ensures.some c.project-project.ensures.valid)

pub rename_in-requires-clause-texts : goal.rename_in-requires-clause-texts
rename_in-requires-clause-texts c = subst AreTexts (sym c.in-Some.ensures.some) c.requires.texts

pub rename_in-requires-clause-project : goal.rename_in-requires-clause-project
rename_in-requires-clause-project c = c.known-known.ensures.project ∙ sym c.in-Some.ensures.some

pub rename_in-requires-clause-index : goal.rename_in-requires-clause-index
rename_in-requires-clause-index c = subst (λ (ds : List Doc). ∥ IsIndexOfProject ds c.index.result.now ∥₁) (sym c.in-Some.ensures.some) c.index.ensures

pub returns-in-Some : goal.returns-in-Some
returns-in-Some c = subst (λ (ds : List Doc). ∥ IsRenameResult c.args.encoding ds c.args.params.now c.args.offset c.rename_in.result ∥₁) c.in-Some.ensures.some c.rename_in.ensures

pub returns-in-None : goal.returns-in-None
returns-in-None c =
    let rs = readings_view c.known-known.result.readings.now in
    ∥∥₁_map c.known-known.ensures.known
    (λ known. inr
    (refused_rename c.args.kept.now.documents rs (subst (λ (ds : List Doc). AreParsed ds rs) c.known-known.ensures.project known.are_readings) c.in-None.ensures.none c.args.params.now.key c.args.offset c.args.params.now.new_name))
