use Rattle.std.proofs.Common.{rules, ◌≡◌, ◌∙◌, ◌++◌, [], None, Some, ap, sym, subst}
use Rattle.std.specs.List.{slice_get}
use Rattle.std.proofs.lemmas.List.{map-append}
use Rattle.std.proofs.lemmas.Result.{IfOk-weaker}
use Rattle.gq_document.specs.FieldSets.{key}
use Rattle.gq_merging.specs.Helping.NameTables.{by_name_view, fields_with}
use Rattle.gq_merging.specs.Helping.PairTables.{AreMet}
use Rattle.gq_merging.specs.Helping.SearchTables.{AreOfOneKey, Searched}
use Rattle.gq_merging.specs.Helping.GroupViews.{groups_view}
use Rattle.gq_merging.specs.Helping.Views.{field_at, member_view, members_view, look_view}
use Rattle.gq_merging.proofs.KeptLemmas.{first_none, first_there, alone_searched, none_beside, beside_of_one_key, beside_searched}
use Rattle.gq_merging.proofs.kept.look_at_beside.Goals as goal

pub returns-in_default : goal.returns-in_default
returns-in_default c = λ t.
    let none : slice_get c.args.list.now 0 ≡ None = search rules in
    none_beside (members_view c.args.list.now) (by_name_view c.args.table.now) (first_none c.args.list.now none) (look_view c.args.look) c.args.faults.now.items (groups_view c.args.groups.now.items)

pub returns-in_default-with_name : goal.returns-in_default-with_name
returns-in_default-with_name c =
    let some : slice_get c.args.list.now 0 ≡ Some c.in-Some.first.now = search rules in
    let none : fields_with (by_name_view c.args.table.now) (key (field_at c.in-Some.first.now.it)) ≡ [] = search rules in
    IfOk-weaker c.look_at_class.result _ _
    (λ done h t. alone_searched (members_view c.args.list.now) c.requires.one_key (by_name_view c.args.table.now) c.requires.table (member_view c.in-Some.first.now)
    (first_there c.args.list.now c.in-Some.first.now some) none (look_view c.args.look) c.args.faults.now.items c.look_at_class.new.faults.items
    (groups_view c.args.groups.now.items) (groups_view c.look_at_class.new.groups.items) (h t)) c.look_at_class.ensures

pub look_at_class-requires-2 : goal.look_at_class-requires-2
look_at_class-requires-2 c =
    let some : slice_get c.args.list.now 0 ≡ Some c.in-Some.first.now = search rules in
    let others : members_view c.in-Some-with_name.others.now ≡ fields_with (by_name_view c.args.table.now) (key (field_at c.in-Some.first.now.it)) = search rules in
    let all : members_view c.deref.result.now ≡ members_view c.args.list.now ++ members_view c.in-Some-with_name.others.now =
    ap members_view (c.deref.ensures.value ∙ c.in_ok-extend_from_slice.ensures.items ∙ ap (λ ms. ms ++ c.in-Some-with_name.others.now) c.in_ok-members.ensures.items)
    ∙ map-append member_view c.args.list.now c.in-Some-with_name.others.now in
    record {
      one_key = subst AreOfOneKey (sym all)
          (beside_of_one_key (members_view c.args.list.now) c.requires.one_key (by_name_view c.args.table.now) c.requires.table (member_view c.in-Some.first.now)
          (first_there c.args.list.now c.in-Some.first.now some) (members_view c.in-Some-with_name.others.now) others);
    }

pub returns : goal.returns
returns c = λ t.
    let some : slice_get c.args.list.now 0 ≡ Some c.in-Some.first.now = search rules in
    let others : members_view c.in-Some-with_name.others.now ≡ fields_with (by_name_view c.args.table.now) (key (field_at c.in-Some.first.now.it)) = search rules in
    let all : members_view c.deref.result.now ≡ members_view c.args.list.now ++ members_view c.in-Some-with_name.others.now =
    ap members_view (c.deref.ensures.value ∙ c.in_ok-extend_from_slice.ensures.items ∙ ap (λ ms. ms ++ c.in-Some-with_name.others.now) c.in_ok-members.ensures.items)
    ∙ map-append member_view c.args.list.now c.in-Some-with_name.others.now in
    beside_searched (members_view c.args.list.now) c.requires.one_key (by_name_view c.args.table.now) c.requires.table (member_view c.in-Some.first.now)
    (first_there c.args.list.now c.in-Some.first.now some) (members_view c.in-Some-with_name.others.now) others (look_view c.args.look) c.args.faults.now.items c.look_at_class-2.new.faults.items
    (groups_view c.args.groups.now.items) (groups_view c.look_at_class-2.new.groups.items)
    (subst (λ ms. Searched (look_view c.args.look) (AreMet ms ms) c.args.faults.now.items c.look_at_class-2.new.faults.items (groups_view c.args.groups.now.items) (groups_view c.look_at_class-2.new.groups.items)) all
    (c.in_ok-done.ensures t))
