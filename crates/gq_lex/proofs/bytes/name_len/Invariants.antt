use Rattle.std.proofs.Common.{◌≡◌, ◌+◌, drop}
use Rattle.std.specs.List.{prefix_len}
use Rattle.gq_lex.specs.Bytes.{is_name_continue}
use Rattle.gq_lex.proofs.bytes.name_len.Given as goal

abbrev pub invariant-loop-i : goal.invariant-loop-i
invariant-loop-i l = prefix_len is_name_continue l.bytes ≡ l.i + prefix_len is_name_continue (drop l.i l.bytes)
