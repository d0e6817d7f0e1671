use Rattle.std.proofs.Common.{◌≡◌, ◌++◌, OnOk, string_bytes, subst, rules}
use Rattle.percent_encoding.specs.Percent.{percent_decode}
use Rattle.gq_rpc.proofs.Escapes.{percent_encode-escaped}
use Rattle.gq_rpc.proofs.keys.add_part.Goals as goal

pub returns : goal.returns
returns c =
    subst (λ key. OnOk c.append_to-2.result (string_bytes c.append_to-2.new.out ≡ string_bytes c.args.out.now ++ key))
    (percent_encode-escaped (percent_decode c.args.part.now)) (search rules)
