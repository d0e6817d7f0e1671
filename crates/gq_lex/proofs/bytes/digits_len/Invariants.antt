use Rattle.std.proofs.Common.{◌≡◌, ◌+◌, drop}
use Rattle.std.specs.List.{prefix_len}
use Rattle.gq_lex.specs.Bytes.{is_digit}
use Rattle.gq_lex.proofs.bytes.digits_len.Given as goal

abbrev pub invariant-loop-i : goal.invariant-loop-i
invariant-loop-i l = prefix_len is_digit l.bytes ≡ l.i + prefix_len is_digit (drop l.i l.bytes)
