use Rattle.std.proofs.Common.{rules, ◌≡◌, ◌<◌, ◌∷◌, [], ◌++◌, Some, None, length, sym, ◌∙◌, ap, subst, refl}
use Rattle.std.specs.List.{position}
use Rattle.std.specs.Str.{bytes_eq}
use Rattle.gq_merging.specs.Helping.NameTables.{by_name_view}
use Rattle.gq_merging.specs.Helping.Views.{member_view, members_view}
use Rattle.gq_merging.proofs.NameLemmas.{listed_first, listed_other, list_there, list_set, list_pushed, place_there}
use Rattle.gq_merging.proofs.by_name.FieldsByName.put.Goals as goal

pub returns-in_ok-push-in-Some : goal.returns-in_ok-push-in-Some
returns-in_ok-push-in-Some c said ms is are =
    let names = c.args.self.now.names in
    let lists = c.args.self.now.lists.items in
    let here : position (bytes_eq (said (member_view c.args.member.now))) names ≡ Some c.in-Some.place = ap (λ t. position (bytes_eq t) names) is ∙ sym c.in-Some.ensures in
    let within : c.in-Some.place < length lists = subst (λ n. c.in-Some.place < n) (sym c.requires) (place_there names (said (member_view c.args.member.now)) c.in-Some.place here) in
    listed_other said (by_name_view c.args.self.now) _ (member_view c.args.member.now) ms are c.in-Some.place (members_view c.index_mut.result.now.items) here
    (list_there lists c.in-Some.place c.index_mut.result.now within c.index_mut.ensures.value) refl
    (list_set lists c.in-Some.place c.index_mut.result.now c.push.new.self c.args.member.now c.in_ok-push-in-Some.ensures.items)

pub returns-in_ok-push-in-None-2 : goal.returns-in_ok-push-in-None-2
returns-in_ok-push-in-None-2 c said ms is are =
    let names = c.args.self.now.names in
    let lists = c.args.self.now.lists.items in
    let absent : position (bytes_eq (said (member_view c.args.member.now))) names ≡ None = ap (λ t. position (bytes_eq t) names) is ∙ sym c.in-None.ensures in
    let one : c.in_ok-list-in-None.list.items ≡ c.args.member.now ∷ [] = search rules in
    listed_first said (by_name_view c.args.self.now) _ (member_view c.args.member.now) ms are absent
    (c.in_ok-push-in-None.ensures.ok ∙ ap (λ t. names ++ t ∷ []) (sym is))
    (list_pushed lists c.push-in-None-2.new.self.items c.in_ok-list-in-None.list c.args.member.now c.in_ok-push-in-None-2.ensures.items one)
