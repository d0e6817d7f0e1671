use Rattle.json.specs.Written.{PlainBetween}
use Rattle.gq_response.proofs.text.is_plain.Given as goal

abbrev pub invariant-loop-byte : goal.invariant-loop-byte
invariant-loop-byte l = PlainBetween l.content 0 l.byte-index
