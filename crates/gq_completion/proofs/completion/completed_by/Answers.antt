use Rattle.std.proofs.Common.{◌≤◌, ◌^◌, map, sym, subst}
use Rattle.std.proofs.lemmas.List.{length-map}
use Rattle.std.proofs.lemmas.Result.{IfOk-weaker}
use Rattle.gq_lex.specs.Tokens.{lexeme_of}
use Rattle.gq_completion.proofs.CompletionLemmas.{both, by_tokens}
use Rattle.gq_completion.proofs.completion.completed_by.Goals as goal

pub returns : goal.returns
returns c =
    let tokens = map lexeme_of c.args.tokens.now in
    let few = subst (λ n. n ≤ 2 ^ 20) (sym (length-map c.args.tokens.now lexeme_of)) c.requires in
    IfOk-weaker c.completions_of.result _ _
    (λ all q known text reads parsed. by_tokens c.args.known.project.now text c.args.offset c.one_reading.ensures tokens reads few c.kind_at-kind.result c.kind_at-kind.ensures c.in_ok-names.names.items (c.in_ok-names.ensures known text parsed) all.items q.0 q.1)
    (both c.completions_of.result _ _ c.completions_of.ensures.sorted c.completions_of.ensures.exact)
