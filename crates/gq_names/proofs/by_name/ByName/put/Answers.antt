use Rattle.std.proofs.Common.{◌≡◌, ◌<◌, ◌++◌, ◌∷◌, [], List, Vec, map, length, get_or, set, sym, ◌∙◌, ap, subst, Some, None, not, is_some}
use Rattle.std.specs.List.{position}
use Rattle.std.specs.Str.{bytes_eq}
use Rattle.std.proofs.lemmas.List.{length-map, map-append}
use Rattle.std.proofs.lemmas.List.Quantifiers.{position-Some}
use Rattle.gq_names.proofs.PlaceLemmas.{is_some_position}
use Rattle.gq_names.proofs.UnderLemmas.{one_grown, one_kept, on_err, put_under, put_new}
use Rattle.gq_names.proofs.by_name.ByName.put.Goals as goal

abbrev listed : {T Z : Type 0} → List (Vec T Z) → List (List T)
listed vs = map (λ v. v.items) vs

pub put-requires : goal.put-requires
put-requires g c = λ many.
    ap not (sym (sym (is_some_position (bytes_eq c.args.name.now) c.self.inside.names) ∙ ap is_some (sym c.place.ensures ∙ c.in-None.is)))

pub returns-in_err-push-in-Some-clause-err : goal.returns-in_err-push-in-Some-clause-err
returns-in_err-push-in-Some-clause-err g c =
    let kept = one_kept c.self.inside.lists.items c.in-Some.place c.index_mut.result.now c.push.new.self c.index_mut.ensures.value c.in_err-push-in-Some.ensures.items in
    on_err c.from_residual.result (ap (λ lists. record { names = c.self.inside.names; lists = lists }) kept ∙ c.self.view_is)

pub returns-in_ok-push-in-Some-clause-ok : goal.returns-in_ok-push-in-Some-clause-ok
returns-in_ok-push-in-Some-clause-ok g c =
    let lists = c.self.inside.lists.items in
    let at : position (bytes_eq c.args.name.now) c.self.inside.names ≡ Some c.in-Some.place = sym c.place.ensures ∙ c.in-Some.is in
    let inside : c.in-Some.place < length lists =
    subst (λ n. c.in-Some.place < n) (sym c.self.invariant ∙ length-map lists (λ v. v.items)) (position-Some (bytes_eq c.args.name.now) c.self.inside.names c.in-Some.place [] at).0 in
    let grown : listed (set lists c.in-Some.place c.push.new.self) ≡ set (listed lists) c.in-Some.place (get_or (listed lists) c.in-Some.place [] ++ c.args.item ∷ []) =
    one_grown lists c.in-Some.place c.args.item c.index_mut.result.now c.push.new.self inside c.index_mut.ensures.value c.in_ok-push-in-Some.ensures.items in
    λ text. rw (← c.self.view_is) (put_under c.self.inside.names (listed lists) (listed (set lists c.in-Some.place c.push.new.self)) c.args.name.now c.in-Some.place c.args.item c.self.invariant at grown text)

pub returns-in_ok-put-in-None-clause-ok : goal.returns-in_ok-put-in-None-clause-ok
returns-in_ok-put-in-None-clause-ok g c =
    let lists = c.self.inside.lists.items in
    let absent : position (bytes_eq c.args.name.now) c.self.inside.names ≡ None = sym c.place.ensures ∙ c.in-None.is in
    let one : c.push-in-None.new.self.items ≡ c.args.item ∷ [] = c.in_ok-push-in-None.ensures.items ∙ ap (λ l. l ++ c.args.item ∷ []) c.new-list.ensures.items in
    let pushed : listed c.push_reserved.new.self.items ≡ listed lists ++ (c.args.item ∷ []) ∷ [] =
    ap listed (c.push_reserved.ensures.items ∙ ap (λ l. l ++ c.push-in-None.new.self ∷ []) c.reserve.ensures.items)
    ∙ map-append (λ v. v.items) lists (c.push-in-None.new.self ∷ []) ∙ ap (λ l. listed lists ++ l ∷ []) one in
    λ text. rw (← c.self.view_is, c.in_ok-put-in-None.ensures.ok, pushed) (put_new c.self.inside.names (listed lists) c.args.name.now c.args.item c.self.invariant absent text)
