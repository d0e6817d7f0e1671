use Rattle.std.proofs.Common.{rules, ◌≡◌, ◌+◌, ◌<◌, ◌++◌, ◌∷◌, [], false, true, length, sym, subst, ap, ◌∙◌}
use Rattle.std.specs.Prelude.{slice_index_or}
use Rattle.std.proofs.lemmas.List.{map-append, length-map}
use Rattle.gq_merging.specs.Helping.SearchTables.{AreFirst}
use Rattle.gq_merging.specs.Helping.GroupViews.{groups_view}
use Rattle.gq_merging.specs.Helping.Views.{row_view, rows_view}
use Rattle.gq_merging.proofs.GroupSearch.{first_none, first_stays, first_passed}
use Rattle.gq_merging.proofs.search.first_groups.Goals as goal
use Rattle.gq_merging.proofs.search.first_groups.Goals.{then-not-passed-number+in_ok-vec+in_ok-push, else-not-passed-number}

pub loop-number-init : goal.loop-number-init
loop-number-init c = first_none (rows_view c.args.rows.now) c.args.passed.now (groups_view c.new-groups.result.items) (ap groups_view c.new-groups.ensures.items)

pub loop-number-preserved : goal.loop-number-preserved
loop-number-preserved c = elim c.if-not-passed-number.branch [
  | then-not-passed-number+in_ok-vec+in_ok-push w ↦
      let stays : slice_index_or c.args.passed.now c.loop-number.number false ≡ false = search rules in
      let same = w.number_of_same-same in
      let one : w.in_ok-vec.field-0.items ≡ same.result ∷ [] = search rules in
      let pushed : w.push.new.self.items ≡ c.loop-number.groups.items ++ w.in_ok-vec.field-0 ∷ [] = search rules in
      let more : groups_view w.push.new.self.items ≡ groups_view c.loop-number.groups.items ++ (same.result ∷ []) ∷ [] =
      ap groups_view pushed ∙ map-append (λ v. v.items) c.loop-number.groups.items (w.in_ok-vec.field-0 ∷ []) ∙ ap (λ g. groups_view c.loop-number.groups.items ++ g ∷ []) one in
      subst (λ gs. AreFirst (rows_view c.args.rows.now) c.args.passed.now (c.loop-number.number + 1) (groups_view gs.items)) (sym w.groups-is)
      (first_stays (rows_view c.args.rows.now) c.args.passed.now c.loop-number.number same.result (groups_view c.loop-number.groups.items) (groups_view w.push.new.self.items) stays more same.ensures.under same.ensures.over c.loop-number.invariant)
  | else-not-passed-number w ↦
      let gone : slice_index_or c.args.passed.now c.loop-number.number false ≡ true = search rules in
      subst (λ gs. AreFirst (rows_view c.args.rows.now) c.args.passed.now (c.loop-number.number + 1) (groups_view gs.items)) (sym w.groups-is)
      (first_passed (rows_view c.args.rows.now) c.args.passed.now c.loop-number.number (groups_view c.loop-number.groups.items) gone c.loop-number.invariant)
]

pub returns : goal.returns
returns c =
    let all : c.loop-number.number ≡ length c.args.passed.now = search rules in
    subst (λ n. AreFirst (rows_view c.args.rows.now) c.args.passed.now n (groups_view c.loop-number.groups.items)) all c.loop-number.invariant
