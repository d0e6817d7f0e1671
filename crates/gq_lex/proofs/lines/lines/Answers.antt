use Rattle.std.proofs.Common.{◌≤◌, ◌++◌, ◌∷◌, [], List, ℕ, length, take, ap, subst, ◌∙◌}
use Rattle.std.specs.List.{prefix_len}
use Rattle.gq_lex.specs.Decoding.{texts_of, is_line_byte, terminator_len}
use Rattle.gq_lex.proofs.Cutting.{lines_start, lines_onward, within_more}
use Rattle.gq_lex.proofs.lines.lines.Goals as goal

pub loop-at-init : goal.loop-at-init
loop-at-init c = record {
  within = c.line_len-at.ensures.within;
  left = lines_start c.args.raw.now (texts_of c.new-found.result.items) (texts_of c.put.new.found.items) c.line_len-at.result (ap texts_of c.new-found.ensures.items) c.in_ok-put.ensures c.line_len-at.ensures.count;
}

pub loop-at-preserved : goal.loop-at-preserved
loop-at-preserved c =
    let raw : List ℕ = c.args.raw.now in
    let at = c.loop-at.at in
    let t = c.terminator_len.result in
    let n = c.line_len-len.result in
    record {
      within = within_more raw at t n c.loop-at-test.true (subst (λ (l : List ℕ). t ≤ length l) c.behind.ensures c.terminator_len.ensures.within) (subst (λ (l : List ℕ). n ≤ length l) c.behind-rest.ensures c.line_len-len.ensures.within);
      left = lines_onward raw (texts_of c.loop-at.found.items) (texts_of c.put-in-loop-at.new.found.items) at t n c.loop-at-test.true c.loop-at.invariant.left
          (c.terminator_len.ensures.len ∙ ap terminator_len c.behind.ensures)
          (c.line_len-len.ensures.count ∙ ap (prefix_len is_line_byte) c.behind-rest.ensures)
          (c.in_ok-put-2.ensures ∙ ap (λ (l : List ℕ). texts_of c.loop-at.found.items ++ take n l ∷ []) c.behind-rest.ensures);
    }
