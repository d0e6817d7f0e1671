use Rattle.std.proofs.Common.{◌≡◌, drop}
use Rattle.gq_table.specs.Helping.Index.{text_digest}
use Rattle.gq_table.proofs.index.text_digest.Given as goal

-- the bytes that are left make the text's number of this one
abbrev pub invariant-loop-byte : goal.invariant-loop-byte
invariant-loop-byte l = text_digest l.number (drop l.byte-index l.byte-items) ≡ text_digest l.start l.text
