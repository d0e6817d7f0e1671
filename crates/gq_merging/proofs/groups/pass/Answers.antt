use Rattle.std.proofs.Common.{◌<◌, length, arith, subst}
use Rattle.std.proofs.lemmas.List.{length-map}
use Rattle.gq_types.specs.Look.{types_view}
use Rattle.gq_merging.specs.Helping.GroupTables.{IsKnown}
use Rattle.gq_merging.specs.Helping.Views.{rows_view}
use Rattle.gq_merging.specs.Helping.GroupViews.{groups_view}
use Rattle.gq_merging.proofs.GroupLemmas.{passes_known}
use Rattle.gq_merging.proofs.groups.pass.Goals as goal

pub returns-then-is_known-clause-test : goal.returns-then-is_known-clause-test
returns-then-is_known-clause-test c =
    let within : c.args.place < length (groups_view c.args.groups.now.items) = omega (arith, c.requires.place, length-map c.args.groups.now.items (λ v. v.items)) in
    let known : IsKnown (groups_view c.deref.result.now) c.args.marks.now c.args.place = c.is_known.ensures c.if-is_known.true in
    λ t. passes_known (types_view c.args.tables.types.now) (rows_view c.args.tables.rows.now) (groups_view c.args.groups.now.items) c.args.place c.args.reached.now.items c.requires.test within
    c.args.marks.now c.requires.tested (subst (λ gs. IsKnown (groups_view gs) c.args.marks.now c.args.place) c.deref.ensures.value known)
