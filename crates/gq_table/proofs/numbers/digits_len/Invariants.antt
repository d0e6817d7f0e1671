use Rattle.std.proofs.Common.{◌≡◌, ◌+◌, drop}
use Rattle.std.specs.List.{prefix_len}
use Rattle.gq_lex.specs.Bytes.{is_digit}
use Rattle.gq_table.proofs.numbers.digits_len.Given as goal

abbrev pub invariant-loop-at : goal.invariant-loop-at
invariant-loop-at l = prefix_len is_digit l.bytes ≡ l.at + prefix_len is_digit (drop l.at l.bytes)
