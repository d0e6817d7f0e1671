use Rattle.std.proofs.Common.{◌≡◌, ◌++◌, ◌∷◌, [], ap, sym, ◌∙◌, arith}
use Rattle.std.specs.Str.{bytes_eq}
use Rattle.std.proofs.lemmas.List.Quantifiers.{position-Some}
use Rattle.gq_collect.proofs.GroupLemmas.{joins_group, makes_group}
use Rattle.gq_collect.proofs.groups.put.Goals as goal

pub index_mut-requires : goal.index_mut-requires
index_mut-requires c =
    let found = position-Some (bytes_eq c.args.field.key.now) c.args.keys.now c.in-Some.place [] (sym c.place.ensures ∙ c.in-Some.is) in
    let l = found.0 in
    let r = c.requires in
    omega arith

pub returns-in_ok-push-in-Some : goal.returns-in_ok-push-in-Some
returns-in_ok-push-in-Some c = λ fields all.
    joins_group fields c.args.keys.now c.args.groups.now.items c.args.field c.in-Some.place c.push.new.self c.index_mut.result.now all (sym c.place.ensures ∙ c.in-Some.is) c.index_mut.ensures.value c.in_ok-push-in-Some.ensures.items

pub returns-in_ok-push-in-None-3 : goal.returns-in_ok-push-in-None-3
returns-in_ok-push-in-None-3 c = λ fields all.
    makes_group fields c.args.keys.now _ c.args.groups.now.items _ c.args.field c.push-in-None.new.self all (sym c.place.ensures ∙ c.in-None.is) (c.in_ok-push-in-None.ensures.items ∙ ap (λ z. z ++ c.args.field ∷ []) c.new-group.ensures.items) c.in_ok-push-in-None-2.ensures.items c.in_ok-push-in-None-3.ensures.ok
