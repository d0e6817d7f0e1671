use Rattle.std.proofs.Common.{◌≡◌, ◌+◌, drop}
use Rattle.std.specs.List.{prefix_len}
use Rattle.gq_lex.specs.Bytes.{is_white_space}
use Rattle.gq_lex.proofs.bytes.white_space_len.Given as goal

abbrev pub invariant-loop-i : goal.invariant-loop-i
invariant-loop-i l = prefix_len is_white_space l.bytes ≡ l.i + prefix_len is_white_space (drop l.i l.bytes)
