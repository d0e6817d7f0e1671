use Rattle.std.proofs.Common.{rules, ◌≡◌, false}
use Rattle.gq_types.specs.Look.{types_view}
use Rattle.gq_merging.specs.Helping.GroupTables.{IsThroughMarked}
use Rattle.gq_merging.specs.Helping.Views.{rows_view}
use Rattle.gq_merging.proofs.GroupLemmas.{nothing_is_tested, through_is_tested, one_more_tested}
use Rattle.gq_merging.proofs.groups.mark_from.Goals as goal

pub returns-then-not-has_selections-clause-tested : goal.returns-then-not-has_selections-clause-tested
returns-then-not-has_selections-clause-tested c =
    let none : c.has_selections.result ≡ false = search rules in
    one_more_tested (types_view c.args.tables.types.now) (rows_view c.args.tables.rows.now) c.args.number c.args.marks.now.items c.mark_all.new.marks.items
    c.mark_all.ensures.count c.mark_all.ensures.also
    (nothing_is_tested (types_view c.args.tables.types.now) (rows_view c.args.tables.rows.now) c.args.number (c.has_selections.ensures.none none))
    c.requires.tested

pub returns-then-is_through-clause-tested : goal.returns-then-is_through-clause-tested
returns-then-is_through-clause-tested c =
    let through : IsThroughMarked (rows_view c.args.tables.rows.now) c.args.number c.args.marks.now.items = search rules in
    one_more_tested (types_view c.args.tables.types.now) (rows_view c.args.tables.rows.now) c.args.number c.args.marks.now.items c.mark_all-then-is_through.new.marks.items
    c.mark_all-then-is_through.ensures.count c.mark_all-then-is_through.ensures.also
    (through_is_tested (types_view c.args.tables.types.now) (rows_view c.args.tables.rows.now) c.args.number through.fragment through.through (c.requires.tested.tested through.fragment through.marked))
    c.requires.tested
