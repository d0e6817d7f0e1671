use Rattle.std.proofs.Common.{subst}
use Rattle.std.proofs.lemmas.Result.{IfOk-weaker}
use Rattle.gq_parse.specs.Parsed.{IsParsed}
use Rattle.gq_tree.specs.Readings.{parsed_view}
use Rattle.gq_tree.specs.Views.{document_view}
use Rattle.gq_completion.proofs.CompletionLemmas.{in_text, without_tree}
use Rattle.gq_completion.proofs.fields.fields_at.Goals as goal

pub returns-in-Tree : goal.returns-in-Tree
returns-in-Tree c =
    IfOk-weaker c.fields_by.result _ _
    (λ names are known text parsed. in_text c.args.known.project.now c.args.place c.args.offset c.one_tree.ensures (document_view c.in-Tree.document) names.items (are known) text
    (subst (λ r. IsParsed text (parsed_view r)) c.in-Tree.is parsed))
    c.fields_by.ensures

pub returns-in-Syntax : goal.returns-in-Syntax
returns-in-Syntax c known text parsed =
    let none = subst (λ r. IsParsed text (parsed_view r)) c.in-Syntax.is parsed in
    without_tree c.args.known.project.now c.args.place c.args.offset c.new.result.items c.new.ensures.items text none.0

pub returns-in-Limit : goal.returns-in-Limit
returns-in-Limit c known text parsed =
    let none = subst (λ r. IsParsed text (parsed_view r)) c.in-Limit.is parsed in
    without_tree c.args.known.project.now c.args.place c.args.offset c.new-in-Limit.result.items c.new-in-Limit.ensures.items text none.0
