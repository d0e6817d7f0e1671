-- A valid project is indexed, and one that is not valid has no actions.
use Rattle.std.proofs.Common.{◌∙◌, sym, subst, List}
use Rattle.std.proofs.lemmas.Result.{IfOk-weaker}
use mathlib.Core.Logic.{∥∥₁_map}
use Rattle.gq_project.specs.declared.document.Doc.{Doc}
use Rattle.gq_edit.specs.Workspace.{AreTexts}
use Rattle.gq_tree.specs.Readings.{readings_view}
use Rattle.gq_parse.specs.Parsed.{AreParsed}
use Rattle.gq_index.specs.Indexed.{IsIndexOfProject}
use Rattle.gq_rules.specs.Validity.{IsValid}
use Rattle.gq_rpc.specs.declared.messages.Outgoing.TheVariants as outgoing
use Rattle.gq_replies.specs.Answers.{span_at}
use Rattle.gq_replies.proofs.Offering.{tells_none, tells_asked}
use Rattle.gq_replies.proofs.code_actions.actions_studied.Goals as goal

pub span_at-range-requires : goal.span_at-range-requires
span_at-range-requires c = subst AreTexts (sym c.project.ensures) c.requires.texts

pub index-requires : goal.index-requires
index-requires c = c.requires.indexed (subst (λ (ds : List Doc). ∥ IsValid ds ∥₁) c.in-Some.ensures.some c.project-project.ensures.valid)

pub actions_over-requires-clause-studied : goal.actions_over-requires-clause-studied
actions_over-requires-clause-studied c = record {
  known = c.known-known.ensures.known;
  project = c.known-known.ensures.project ∙ sym c.in-Some.ensures.some;
  index = subst (λ (ds : List Doc). ∥ IsIndexOfProject ds c.index.result.now ∥₁) (sym c.in-Some.ensures.some) c.index.ensures;
}

pub actions_over-requires-clause-texts : goal.actions_over-requires-clause-texts
actions_over-requires-clause-texts c = subst AreTexts (sym c.in-Some.ensures.some) c.requires.texts

pub returns-in_default : goal.returns-in_default
returns-in_default c =
    let rs = readings_view c.known-known.result.readings.now in
    let range = span_at c.args.encoding c.args.kept.now.documents c.args.params.now.key c.args.params.now.range in
    rw c.new.ensures
    (λ id.
    ∥∥₁_map c.known-known.ensures.known
    (λ known.
    tells_none c.args.kept.now.documents rs (subst (λ (ds : List Doc). AreParsed ds rs) c.known-known.ensures.project known.are_readings) c.in_default.ensures.none c.args.encoding c.args.params.now range id))
