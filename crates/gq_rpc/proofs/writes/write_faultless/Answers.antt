use Rattle.gq_rpc.proofs.Faultless.{faultless_text}
use Rattle.gq_rpc.proofs.writes.write_faultless.Goals as goal

pub returns : goal.returns
returns c = λ empty.
    faultless_text c.args.params.now _ _ _ _ _ _ c.in_ok-extend_from_slice.ensures.items c.in_ok-bytes.ensures.items c.in_ok-bytes-2.ensures
    c.in_ok-bytes-3.ensures c.in_ok-extend_from_slice-2.ensures.items c.as_str-2.ensures empty
