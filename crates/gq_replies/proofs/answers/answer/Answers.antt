-- What is found is told.
use Rattle.std.proofs.Common.{inr}
use mathlib.Core.Logic.{∥∥₁_map}
use Rattle.gq_replies.proofs.answers.answer.Goals as goal

pub returns-in-Ok-clause-answer : goal.returns-in-Ok-clause-answer
returns-in-Ok-clause-answer c = rw c.in-Completion.is (∥∥₁_map (c.in-Ok.ensures c.args.id) inr)

pub returns-in-Ok-ask_definitions-clause-answer : goal.returns-in-Ok-ask_definitions-clause-answer
returns-in-Ok-ask_definitions-clause-answer c = rw c.in-Definition.is (∥∥₁_map (c.in-Ok-ask_definitions.ensures.told c.args.id) inr)

pub returns-in-Ok-ask_hover-clause-answer : goal.returns-in-Ok-ask_hover-clause-answer
returns-in-Ok-ask_hover-clause-answer c = rw c.in-Hover.is (∥∥₁_map (c.in-Ok-ask_hover.ensures.told c.args.id) inr)

pub returns-in-Ok-ask_prepared-clause-answer : goal.returns-in-Ok-ask_prepared-clause-answer
returns-in-Ok-ask_prepared-clause-answer c = rw c.in-PrepareRename.is (∥∥₁_map (c.in-Ok-ask_prepared.ensures c.args.id) inr)

pub returns-in-Ok-ask_references-clause-answer : goal.returns-in-Ok-ask_references-clause-answer
returns-in-Ok-ask_references-clause-answer c = rw c.in-References.is (∥∥₁_map (c.in-Ok-ask_references.ensures.told c.args.id) inr)

pub returns-in-Ok-ask_code_actions-clause-answer : goal.returns-in-Ok-ask_code_actions-clause-answer
returns-in-Ok-ask_code_actions-clause-answer c = rw c.in-CodeAction.is (∥∥₁_map (c.in-Ok-ask_code_actions.ensures.told c.args.id) inr)
