use Rattle.std.proofs.Common.{◌∙◌, ◌<◌, ℕ, length, sym, subst}
use Rattle.gq_graph.specs.Reach.{row}
use Rattle.gq_graph.specs.Transposed.{Transposed}
use Rattle.gq_types.specs.Look.{types_view}
use Rattle.gq_merging.specs.Helping.GroupTables.{IsSettled}
use Rattle.gq_merging.specs.Helping.GroupViews.{groups_view}
use Rattle.gq_merging.specs.Helping.UnionTables.{AreUnions}
use Rattle.gq_merging.specs.Helping.Views.{rows_view}
use Rattle.gq_merging.proofs.UnionLemmas.{found_tested, found_within}
use Rattle.gq_merging.proofs.unions.tested_sets.Goals as goal

pub are_settled-requires-clause-unions : goal.are_settled-requires-clause-unions
are_settled-requires-clause-unions c = record { count = c.requires.count; are = subst (Transposed c.args.numbers.now) (sym c.deref.ensures.value) c.in_ok-classes.ensures }

pub returns-clause-within : goal.returns-clause-within
returns-clause-within c =
    let es = types_view c.args.tables.types.now in
    let rows = rows_view c.args.tables.rows.now in
    let classes = c.deref-2.result.now in
    let unions : AreUnions c.args.tables.spreads.now c.args.numbers.now classes = record { count = c.requires.count; are = subst (Transposed c.args.numbers.now) (sym c.deref-2.ensures.value) c.in_ok-classes.ensures } in
    let settled : (n : ℕ) → n < length classes → IsSettled es rows (groups_view classes) (row classes n) =
    subst (λ cs. (n : ℕ) → n < length cs → IsSettled es rows (groups_view cs) (row cs n)) (c.deref.ensures.value ∙ sym c.deref-2.ensures.value) (c.in_ok-are_settled.ensures c.if-not-branch.false) in
    found_within es c.args.tables.rows.now c.args.tables.spreads.now c.args.numbers.now classes c.requires.spreads unions settled c.deref-3.result.now c.in_ok-found.found.items c.in_ok-found.ensures

pub returns-clause-tested : goal.returns-clause-tested
returns-clause-tested c =
    let es = types_view c.args.tables.types.now in
    let rows = rows_view c.args.tables.rows.now in
    let classes = c.deref-2.result.now in
    let unions : AreUnions c.args.tables.spreads.now c.args.numbers.now classes = record { count = c.requires.count; are = subst (Transposed c.args.numbers.now) (sym c.deref-2.ensures.value) c.in_ok-classes.ensures } in
    let settled : (n : ℕ) → n < length classes → IsSettled es rows (groups_view classes) (row classes n) =
    subst (λ cs. (n : ℕ) → n < length cs → IsSettled es rows (groups_view cs) (row cs n)) (c.deref.ensures.value ∙ sym c.deref-2.ensures.value) (c.in_ok-are_settled.ensures c.if-not-branch.false) in
    found_tested es c.args.tables.rows.now c.args.tables.spreads.now c.args.numbers.now classes c.requires.spreads unions settled c.deref-3.result.now c.in_ok-found.found.items c.in_ok-found.ensures
