use Rattle.std.proofs.Common.{◌≡◌, ◌++◌, drop, flat_map}
use Rattle.gq_lex.specs.Decoding.{texts_of, behind_line_feed}
use Rattle.gq_lex.proofs.lines.push_lines.Given as goal

abbrev pub invariant-loop-line : goal.invariant-loop-line
invariant-loop-line l =
    l.value.items ++ flat_map behind_line_feed (texts_of (drop l.line-index l.lines)) ≡ l.fn.value.items ++ flat_map behind_line_feed (texts_of l.lines)
