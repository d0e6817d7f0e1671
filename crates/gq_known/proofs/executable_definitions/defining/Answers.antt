use Rattle.std.proofs.Common.{◌≡◌, ◌<◌, ◌+◌, ◌∷◌, ◌⊎◌, ⊎_elim, inl, inr, List, suc, true, false, Contains, drop, slice_index_or, ap, sym, subst, ◌∙◌, arith}
use Rattle.std.proofs.Math.Seq.{drop-cons}
use Rattle.gq_types.specs.Entries.{EntryOf, entries_view, entry_view}
use Rattle.gq_types.specs.declared.entry.Entry.{Entry}
use Rattle.gq_types.proofs.Gathered.{cases_cons}
use Rattle.gq_known.proofs.executable_definitions.defining.Goals as goal

-- the entry that comes is marked, and those behind it are still to come
pub loop-entry-preserved : goal.loop-entry-preserved
loop-entry-preserved c =
    let es : List Entry = c.args.entries.now in
    let i = c.loop-entry.entry-index in
    let x : Entry = c.entry-item.result in
    let next : suc i ≡ i + 1 = omega arith in
    let split : drop i es ≡ x ∷ drop (i + 1) es =
    drop-cons es i x c.loop-entry-test.true ∙ ap (λ (y : Entry). y ∷ drop (suc i) es) (sym c.entry-item.is) ∙ ap (λ n. x ∷ drop n es) next in (
      c.mark.ensures.count ∙ c.loop-entry.invariant.0,
      λ e stands within. ⊎_elim
          (λ d. ⊎_elim
          (λ same. inr (subst (λ (z : EntryOf). slice_index_or c.mark.new.marks.items z.file false ≡ true) same
          (c.mark.ensures.marked (subst (λ n. x.file < n) (sym c.loop-entry.invariant.0) (subst (λ (z : EntryOf). z.file < c.args.count) (sym same) within)))))
          (λ rest. inl rest)
          (cases_cons (entry_view x) e (entries_view (drop (i + 1) es)) (subst (λ (xs : List Entry). Contains (entries_view xs) e) split d)))
          (λ m. inr (c.mark.ensures.stays e.file m))
          (c.loop-entry.invariant.1 e stands within),
    )
