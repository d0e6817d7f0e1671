use Rattle.std.proofs.Common.{◌≡◌, ◌++◌, string_bytes, codes, ap, rules}
use Rattle.gqls.proofs.Escapes.{percent_encode-path}
use Rattle.gqls.proofs.folder.key_of_path.Goals as goal

pub returns : goal.returns
returns c =
    let out : c.from_string.result ≡ string_bytes c.append_to.new.out = search rules in
    let encoded = ap (λ t. codes "file://" ++ t) (percent_encode-path c.args.path.now) in
    search (rules, out, encoded)
