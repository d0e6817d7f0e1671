use Rattle.std.proofs.Common.{rules, ◌≡◌, ◌∙◌, All, ap, subst}
use Rattle.std.specs.List.{flat_map}
use Rattle.gq_types.specs.Look.{types_view}
use Rattle.gq_merging.specs.Helping.GroupTables.{AreSettled}
use Rattle.gq_merging.specs.Helping.GroupViews.{groups_view}
use Rattle.gq_merging.specs.Helping.SetTables.{members_at}
use Rattle.gq_merging.specs.Helping.UnionTables.{IsInOne}
use Rattle.gq_merging.specs.Helping.Views.{members_view, rows_view}
use Rattle.gq_merging.proofs.UnionLemmas.{class_read, class_within, class_settled}
use Rattle.gq_merging.proofs.unions.is_settled.Goals as goal

pub reached_sets-requires-clause-starts : goal.reached_sets-requires-clause-starts
reached_sets-requires-clause-starts c = class_within c.args.tables.spreads.now c.args.numbers.now c.args.classes.now c.requires.unions c.args.class c.deref.result.now (class_read c.args.classes.now c.args.class c.index-classes-class.result c.deref.result.now c.requires.class c.index-classes-class.is c.deref.ensures.value)

pub returns : goal.returns
returns c = λ t.
    let es = types_view c.args.tables.types.now in
    let rows = rows_view c.args.tables.rows.now in
    let members : members_view c.deref-3.result.now ≡ flat_map (members_at rows) c.in_ok-found.found.items =
    ap members_view c.deref-3.ensures.value ∙ c.in_ok-members.ensures ∙ ap (flat_map (members_at rows)) c.deref-2.ensures.value in
    let settled : AreSettled es rows (groups_view c.in-Some.below.items) (members_view c.deref-3.result.now) = search rules in
    class_settled es c.args.tables.rows.now c.args.tables.spreads.now c.args.numbers.now c.args.classes.now c.requires.spreads c.requires.unions c.args.class c.deref.result.now c.in_ok-found.found.items
    (members_view c.deref-3.result.now) (groups_view c.in-Some.below.items) (class_read c.args.classes.now c.args.class c.index-classes-class.result c.deref.result.now c.requires.class c.index-classes-class.is c.deref.ensures.value) c.in_ok-found.ensures.complete members settled
    (subst (λ gs. All (IsInOne c.args.numbers.now) (groups_view gs)) c.deref-4.ensures.value (c.are_in_classes.ensures t))
