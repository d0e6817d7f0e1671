-- Each file has a mark, so stands in a cover, or is one of those without.
use Rattle.std.proofs.Common.{rules, ◌≡◌, ℕ, ◌<◌, Bool, false, List, [], All, Contains, slice_index_or, length, replicate, ⊎_elim, ap, sym, ◌∙◌, subst, arith}
use Rattle.std.specs.Prelude.{◌||◌}
use Rattle.std.specs.List.{list_any}
use Rattle.std.proofs.lemmas.Bool.Decides.{nat_tests}
use Rattle.std.proofs.lemmas.List.{length-replicate, nil_from_length}
use Rattle.std.proofs.lemmas.Result.{on_ok_weaker}
use Rattle.gq_types.proofs.Gathered.{nothing_in}
use Rattle.gq_by_file.specs.Closed.Closed.{is_among}
use Rattle.gq_by_file.specs.declared.covers.Cover.{Cover}
use Rattle.gq_by_file.specs.Helping.Covers.{unmarked_from}
use Rattle.gq_document.specs.Executable.{ExecutableOf, executable_view}
use Rattle.gq_by_file.specs.Helping.Covers.{HoldsAll}
use Rattle.gq_by_file.proofs.HeldLemmas.{holds_itself}
use Rattle.gq_by_file.proofs.CoverLemmas.{covered_or_open, marked_alone, unmarked_range}
use Rattle.gq_by_file.proofs.covers.cover_rest.Goals as goal

pub returns-then-is_empty-clause-all : goal.returns-then-is_empty-clause-all
returns-then-is_empty-clause-all c n h =
    let none : c.in_ok-marks.marks.items ≡ replicate (length c.args.files.rows.now) false = search rules in
    let marks : List Bool = c.mark_covers.new.marks.items in
    let count : length marks ≡ length c.args.files.rows.now = c.mark_covers.ensures.count ∙ ap length none ∙ length-replicate (length c.args.files.rows.now) false in
    let are = marked_alone (length c.args.files.rows.now) c.in_ok-marks.marks.items marks c.args.covers.now.items none c.mark_covers.ensures.count
    (subst (λ (cs : List Cover). (k : ℕ) → k < length c.in_ok-marks.marks.items → slice_index_or marks k false ≡ (slice_index_or c.in_ok-marks.marks.items k false || list_any (λ (d : Cover). is_among d.files.items k) cs)) c.deref.ensures.value c.mark_covers.ensures.marked) in
    let there : c.in_ok-rest.rest.items ≡ unmarked_from 0 marks = c.in_ok-rest.ensures ∙ ap (unmarked_from 0) c.deref-2.ensures.value in
    let empty : unmarked_from 0 marks ≡ [] = sym there ∙ nil_from_length _ (grind (arith, nat_tests)) in
    ⊎_elim (λ l. l) (λ d. nothing_in n (subst (λ (ns : List ℕ). Contains ns n) empty d)) (covered_or_open c.args.covers.now.items marks are n (omega (arith, h, count)))

pub cover_by_halves-requires-clause-range : goal.cover_by_halves-requires-clause-range
cover_by_halves-requires-clause-range c =
    let none : c.in_ok-marks.marks.items ≡ replicate (length c.args.files.rows.now) false = search rules in
    let marks : List Bool = c.mark_covers.new.marks.items in
    let count : length marks ≡ length c.args.files.rows.now = c.mark_covers.ensures.count ∙ ap length none ∙ length-replicate (length c.args.files.rows.now) false in
    let there : c.in_ok-rest.rest.items ≡ unmarked_from 0 marks = c.in_ok-rest.ensures ∙ ap (unmarked_from 0) c.deref-2.ensures.value in
    subst (λ (ns : List ℕ). All (λ k. k < length c.args.files.rows.now) ns) (sym (c.deref-3.ensures.value ∙ there)) (unmarked_range marks (length c.args.files.rows.now) count)

pub returns-clause-all : goal.returns-clause-all
returns-clause-all c =
    let none : c.in_ok-marks.marks.items ≡ replicate (length c.args.files.rows.now) false = search rules in
    let marks : List Bool = c.mark_covers.new.marks.items in
    let count : length marks ≡ length c.args.files.rows.now = c.mark_covers.ensures.count ∙ ap length none ∙ length-replicate (length c.args.files.rows.now) false in
    let are = marked_alone (length c.args.files.rows.now) c.in_ok-marks.marks.items marks c.args.covers.now.items none c.mark_covers.ensures.count
    (subst (λ (cs : List Cover). (k : ℕ) → k < length c.in_ok-marks.marks.items → slice_index_or marks k false ≡ (slice_index_or c.in_ok-marks.marks.items k false || list_any (λ (d : Cover). is_among d.files.items k) cs)) c.deref.ensures.value c.mark_covers.ensures.marked) in
    let there : c.in_ok-rest.rest.items ≡ unmarked_from 0 marks = c.in_ok-rest.ensures ∙ ap (unmarked_from 0) c.deref-2.ensures.value in
    on_ok_weaker c.cover_by_halves.result
    (λ added n h. ⊎_elim (λ l. c.cover_by_halves.ensures.old n l) (λ d. added n (subst (λ (ns : List ℕ). Contains ns n) (sym (c.deref-3.ensures.value ∙ there)) d)) (covered_or_open c.args.covers.now.items marks are n (omega (arith, h, count))))
    c.cover_by_halves.ensures.rest

pub returns-clause-kept : goal.returns-clause-kept
returns-clause-kept c links are =
    let x = executable_view c.args.files.executable.now in
    let rows = c.args.files.rows.now in
    let starts = c.deref-3.result.now in
    c.cover_by_halves.ensures.kept (subst (λ (y : ExecutableOf). HoldsAll x y rows starts) (sym c.requires.part) (holds_itself x rows starts)) links are
