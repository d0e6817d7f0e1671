use Rattle.std.proofs.Common.{◌-◌, drop, length, sym, take, ◌∙◌, ap}
use Rattle.gq_names.specs.Helping.Places.{digest_from, mixed}
use Rattle.gq_names.proofs.DigestLemmas.{four_at_once}
use Rattle.gq_names.proofs.places.digest.Goals as goal

pub loop-bytes-preserved : goal.loop-bytes-preserved
loop-bytes-preserved c =
    let bytes = c.loop-bytes.bytes.now in
    ap (λ n. digest_from n (take (length bytes - 4) (drop 4 bytes))) (c.mixed-number.ensures ∙ ap (mixed c.loop-bytes.number) c.joined.ensures)
    ∙ sym (four_at_once c.loop-bytes.number bytes c.in-len4-up.len_at_least) ∙ c.loop-bytes.invariant
