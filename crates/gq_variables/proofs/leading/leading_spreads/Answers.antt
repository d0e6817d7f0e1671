use Rattle.std.proofs.Common.{◌≡◌, ◌<◌, ◌≤◌, length, map, List, ℕ, Bool, false, sym, ap, subst, ◌∙◌, Vec, Global}
use Rattle.std.specs.Prelude.{All, filter, slice_index_or}
use Rattle.std.proofs.lemmas.List.{length-map}
use Rattle.gq_graph.specs.Reach.{row, InRange}
use Rattle.gq_document.specs.Executable.{executable_view}
use Rattle.gq_variables.specs.Uses.{UseOf}
use Rattle.gq_variables.specs.Helping.Leading.{LeadToUses}
use Rattle.gq_variables.specs.Helping.UsesPlaces.{fragment_uses}
use Rattle.gq_variables.specs.Helping.Views.{rows_view}
use Rattle.gq_variables.proofs.LeadingLemmas.{Kept, are_leading}
use Rattle.gq_variables.proofs.leading.leading_spreads.Goals as goal

pub marks_of-requires-clause-range : goal.marks_of-requires-clause-range
marks_of-requires-clause-range c = subst InRange (sym c.deref.ensures.value) c.requires.spreads.range

pub marks_of-requires-clause-rows : goal.marks_of-requires-clause-rows
marks_of-requires-clause-rows c =
    let x = executable_view c.args.executable.now in
    let rows : length (rows_view c.args.rows.now) ≡ length x.fragments = ap (λ (l : List (List UseOf)). length l) c.requires.rows ∙ length-map x.fragments (fragment_uses x.entries) in
    subst (λ (l : List (Vec ℕ Global)). length (rows_view c.args.rows.now) ≤ length l) (sym c.deref.ensures.value)
    (subst (λ n. n ≤ length c.args.spreads.now.of_fragments.items) (sym rows) c.requires.spreads.fragments)

pub marked_rows-requires : goal.marked_rows-requires
marked_rows-requires c =
    let s = c.args.spreads.now in
    let count : length s.of_fragments.items ≡ length c.deref-2.result.now =
    ap (λ (l : List (Vec ℕ Global)). length l) (sym c.deref.ensures.value) ∙ sym c.in_ok-marks.ensures.count ∙ ap (λ (l : List Bool). length l) (sym c.deref-2.ensures.value) in
    subst (λ (rows : List (Vec ℕ Global)). All (λ v. All (λ n. n < length c.deref-2.result.now) v.items) rows) (sym c.deref-3.ensures.value)
    (subst (λ k. All (λ v. All (λ n. n < k) v.items) s.of_operations.items) count c.requires.spreads.starts)

pub marked_rows-requires-2 : goal.marked_rows-requires-2
marked_rows-requires-2 c =
    let s = c.args.spreads.now in
    let count : length s.of_fragments.items ≡ length c.deref-4.result.now =
    ap (λ (l : List (Vec ℕ Global)). length l) (sym c.deref.ensures.value) ∙ sym c.in_ok-marks.ensures.count ∙ ap (λ (l : List Bool). length l) (sym c.deref-4.ensures.value) in
    subst (λ (rows : List (Vec ℕ Global)). All (λ v. All (λ n. n < length c.deref-4.result.now) v.items) rows) (sym c.deref-5.ensures.value)
    (subst (λ k. All (λ v. All (λ n. n < k) v.items) s.of_fragments.items) count c.requires.spreads.range)

pub returns : goal.returns
returns c =
    let x = executable_view c.args.executable.now in
    let s = c.args.spreads.now in
    let marks = c.in_ok-marks.marks.items in
    let lead : LeadToUses (row s.of_fragments.items) (rows_view c.args.rows.now) marks =
    subst (λ (rows : List (Vec ℕ Global)). LeadToUses (row rows) (rows_view c.args.rows.now) marks) c.deref.ensures.value c.in_ok-marks.ensures.marks in
    let operations : Kept marks s.of_operations.items c.in_ok-of_operations.of_operations.items =
    c.in_ok-of_operations.ensures ∙ ap (λ (rows : List (Vec ℕ Global)). map (λ v. filter (λ n. slice_index_or c.deref-2.result.now n false) v.items) rows) c.deref-3.ensures.value
    ∙ ap (λ (ms : List Bool). map (λ (v : Vec ℕ Global). filter (λ n. slice_index_or ms n false) v.items) s.of_operations.items) c.deref-2.ensures.value in
    let fragments : Kept marks s.of_fragments.items c.in_ok-of_fragments.of_fragments.items =
    c.in_ok-of_fragments.ensures ∙ ap (λ (rows : List (Vec ℕ Global)). map (λ v. filter (λ n. slice_index_or c.deref-4.result.now n false) v.items) rows) c.deref-5.ensures.value
    ∙ ap (λ (ms : List Bool). map (λ (v : Vec ℕ Global). filter (λ n. slice_index_or ms n false) v.items) s.of_fragments.items) c.deref-4.ensures.value in
    are_leading x s (record { of_operations = c.in_ok-of_operations.of_operations; of_fragments = c.in_ok-of_fragments.of_fragments }) c.requires.spreads (rows_view c.args.rows.now) c.requires.rows marks lead operations fragments
