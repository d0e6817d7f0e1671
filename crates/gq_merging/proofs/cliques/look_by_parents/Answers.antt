use Rattle.std.proofs.Common.{◌≡◌, map, ap, sym, subst}
use Rattle.gq_types.specs.Look.{types_view}
use Rattle.gq_merging.specs.Helping.NameTables.{by_name_view}
use Rattle.gq_merging.specs.Helping.ParentTables.{AreByParent}
use Rattle.gq_merging.specs.Helping.SearchTables.{IsClique}
use Rattle.gq_merging.specs.Helping.SearchViews.{AreCliquesWith}
use Rattle.gq_merging.specs.Helping.GroupViews.{groups_view}
use Rattle.gq_merging.specs.Helping.Views.{members_view, look_view}
use Rattle.gq_merging.proofs.ClassSearch.{seen, others_clique, cliques_with, met_with}
use Rattle.gq_merging.proofs.cliques.look_by_parents.Goals as goal

pub look_at_others-requires-clause-clique : goal.look_at_others-requires-clause-clique
look_at_others-requires-clause-clique c =
    let table = c.in_ok-by_parent.by_parent in
    subst (λ xs. IsClique (look_view c.args.look) (members_view xs)) (sym c.deref-2.ensures.value)
    (others_clique (look_view c.args.look) c.requires.purpose (by_name_view table.of_objects) (members_view table.of_others.items) (members_view c.args.members.now) c.in_ok-by_parent.ensures c.requires.one_key)

pub look_at_others-requires-clause-cliques : goal.look_at_others-requires-clause-cliques
look_at_others-requires-clause-cliques c =
    let table = c.in_ok-by_parent.by_parent in
    subst (λ vs. AreCliquesWith (look_view c.args.look) vs c.deref-2.result.now) (sym c.deref.ensures.value)
    (subst (λ xs. AreCliquesWith (look_view c.args.look) table.of_objects.lists.items xs) (sym c.deref-2.ensures.value)
    (cliques_with (look_view c.args.look) c.requires.purpose table.of_objects.lists.items table.of_others.items (by_name_view table.of_objects) (λ i. map seen table.of_objects.lists.items)
    (members_view c.args.members.now) c.in_ok-by_parent.ensures c.requires.one_key))

pub returns : goal.returns
returns c = λ t.
    let table = c.in_ok-by_parent.by_parent in
    let lists : (by_name_view table.of_objects).lists ≡ map seen c.deref.result.now = ap (map seen) (sym c.deref.ensures.value) in
    met_with (look_view c.args.look) c.requires.purpose c.deref.result.now c.deref-2.result.now (by_name_view table.of_objects) lists (members_view c.args.members.now)
    (subst (λ xs. AreByParent (types_view c.args.look.types.now) (by_name_view table.of_objects) (members_view xs) (members_view c.args.members.now)) (sym c.deref-2.ensures.value) c.in_ok-by_parent.ensures)
    c.requires.one_key c.args.faults.now.items c.look_at_others.new.faults.items (groups_view c.args.groups.now.items) (groups_view c.look_at_others.new.groups.items) (c.in_ok-done.ensures t)
