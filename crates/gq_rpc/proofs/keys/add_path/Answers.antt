use Rattle.std.proofs.Common.{◌≡◌, ◌++◌, ◌∷◌, [], ◌+◌, string_bytes, sym, ap, ◌∙◌, arith, length, length-drop, take, append_assoc, lit<}
use Rattle.gq_rpc.specs.Keys.{path_key, part_key}
use Rattle.gq_rpc.proofs.Paths.{path_key-last, path_key-first}
use Rattle.gq_rpc.proofs.keys.add_path.Goals as goal

pub returns-then-len-rest : goal.returns-then-len-rest
returns-then-len-rest c =
    c.in_ok-add_part.ensures ∙ ap (λ t. string_bytes c.parts.out ++ t) (sym (path_key-last _ _ c.part_len-len.ensures.count c.if-len-rest.true)) ∙ sym c.parts.invariant.same

pub parts-preserved : goal.parts-preserved
parts-preserved c =
    let first = path_key-first c.parts.rest.now c.part_len-len.result c.part_len-len.ensures.count c.part_len-len.ensures.within c.if-len-rest.false in
    let part = part_key (take c.part_len-len.result c.parts.rest.now) in
    let key = path_key c.skip-rest.result.now in
    let pushed : string_bytes c.push.new.self ≡ (string_bytes c.parts.out ++ part) ++ 47 ∷ [] = c.in_ok-push.ensures.bytes ∙ ap (λ t. string_bytes c.add_part.new.out ++ t) (c.in_ok-push.ensures.ascii (lit< tt)) ∙ ap (λ t. t ++ 47 ∷ []) c.in_ok-add_part.ensures in
    record {
      within = omega (arith, length-drop (c.part_len-len.result + 1) c.parts.rest.now, ap length c.skip-rest.ensures);
      same = c.parts.invariant.same ∙ ap (λ t. string_bytes c.parts.out ++ t) (first ∙ ap (λ t. part ++ 47 ∷ path_key t) (sym c.skip-rest.ensures))
          ∙ sym (append_assoc (string_bytes c.parts.out) part (47 ∷ key))
          ∙ sym (append_assoc (string_bytes c.parts.out ++ part) (47 ∷ []) key)
          ∙ sym (ap (λ t. t ++ key) pushed);
    }
