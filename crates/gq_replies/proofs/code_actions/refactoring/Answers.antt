-- The answer of each kind, by what is kept.
use Rattle.gq_rpc.specs.declared.messages.CodeActionKind.TheVariants as action
use Rattle.gq_replies.proofs.Offering.{answered}
use Rattle.gq_replies.proofs.code_actions.refactoring.Goals as goal

pub returns-in-Extract-clause-answer : goal.returns-in-Extract-clause-answer
returns-in-Extract-clause-answer c =
    answered c.args.studied.now.valid.now (record { key = c.args.key.now; range = c.args.range }) c.args.kind action.Extract c.in-Extract.is c.extract_by.result c.requires.known c.requires.index c.extract_by.ensures.answer c.extract_by.ensures.responses

pub returns-in-Inline-clause-answer : goal.returns-in-Inline-clause-answer
returns-in-Inline-clause-answer c =
    answered c.args.studied.now.valid.now (record { key = c.args.key.now; range = c.args.range }) c.args.kind action.Inline c.in-Inline.is c.inline_by.result c.requires.known c.requires.index c.inline_by.ensures.answer c.inline_by.ensures.responses

pub returns-in-Rewrite-clause-answer : goal.returns-in-Rewrite-clause-answer
returns-in-Rewrite-clause-answer c =
    answered c.args.studied.now.valid.now (record { key = c.args.key.now; range = c.args.range }) c.args.kind action.Rewrite c.in-Rewrite.is c.remove_redundant_by.result c.requires.known c.requires.index c.remove_redundant_by.ensures.answer c.remove_redundant_by.ensures.responses
