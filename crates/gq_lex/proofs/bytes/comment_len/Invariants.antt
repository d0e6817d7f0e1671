use Rattle.std.proofs.Common.{◌≡◌, ◌+◌, drop}
use Rattle.std.specs.List.{prefix_len}
use Rattle.gq_lex.specs.Bytes.{is_comment_byte}
use Rattle.gq_lex.proofs.bytes.comment_len.Given as goal

abbrev pub invariant-loop-i : goal.invariant-loop-i
invariant-loop-i l = prefix_len is_comment_byte l.bytes ≡ l.i + prefix_len is_comment_byte (drop l.i l.bytes)
