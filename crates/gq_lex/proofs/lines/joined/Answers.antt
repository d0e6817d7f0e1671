use Rattle.std.proofs.Common.{◌++◌, List, ℕ, flat_map, sym, ap, ◌∙◌}
use Rattle.std.specs.List.{join_with_byte}
use Rattle.gq_lex.specs.Decoding.{texts_of, behind_line_feed}
use Rattle.gq_lex.proofs.Cutting.{joined_first}
use Rattle.gq_lex.proofs.lines.joined.Goals as goal

pub returns : goal.returns
returns c =
    c.in_ok-push_lines.ensures
    ∙ ap (λ (l : List ℕ). l ++ flat_map behind_line_feed (texts_of c.in-Some.others.now)) (c.in_ok-push.ensures ∙ ap (λ (l : List ℕ). l ++ c.in-Some.first.now.now) c.new-value.ensures.items)
    ∙ sym (joined_first c.in-Some.first.now.now (texts_of c.in-Some.others.now))
    ∙ sym (ap (λ ls. join_with_byte 10 (texts_of ls)) c.in-Some.ensures.cases.0)
