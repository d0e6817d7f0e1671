use Rattle.std.proofs.Common.{◌≡◌, drop}
use Rattle.std.specs.Str.Parse.{AllDigits, digits_value, digits_value_after}
use Rattle.gq_table_text.proofs.leaves.natural.Given as goal

-- the bytes that are left end a number that begins with this one
abbrev pub invariant-loop-byte : goal.invariant-loop-byte
invariant-loop-byte l =
    (digits_value_after 10 l.number (drop l.byte-index l.bytes) ≡ digits_value 10 l.bytes) × (AllDigits 10 (drop l.byte-index l.bytes) → AllDigits 10 l.bytes)
