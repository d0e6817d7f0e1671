use Rattle.std.proofs.Common.{◌≡◌, length}
use Rattle.gq_names.specs.Helping.Places.{digest, digest_from}
use Rattle.gq_names.proofs.places.digest.Given as goal

-- the bytes that are left make the text's number of this one
abbrev pub invariant-loop-bytes : goal.invariant-loop-bytes
invariant-loop-bytes l = digest_from l.number l.bytes ≡ digest l.text

abbrev pub decreases-loop-bytes : goal.decreases-loop-bytes
decreases-loop-bytes l = length l.bytes
