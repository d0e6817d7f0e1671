use Rattle.std.proofs.Common.{◌≡◌, ◌++◌, drop, map}
use Rattle.gq_lex.specs.Decoding.{texts_of}
use Rattle.gq_lex.proofs.lines.put_behind.Given as goal

abbrev pub invariant-loop-line : goal.invariant-loop-line
invariant-loop-line l =
    texts_of l.found.items ++ map (drop l.indent) (texts_of (drop l.line-index l.lines)) ≡ texts_of l.fn.found.items ++ map (drop l.indent) (texts_of l.lines)
