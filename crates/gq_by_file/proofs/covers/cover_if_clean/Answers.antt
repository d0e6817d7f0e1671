-- What a file leads to is closed, and nothing is told of it where no larger set has a fault in it.
use Rattle.std.proofs.Common.{◌≡◌, ℕ, false, List, [], ◌∷◌, slice_index_or, refl, sym, ◌∙◌, subst}
use Rattle.std.specs.List.{list_any}
use Rattle.gq_by_file.proofs.CoverLemmas.{clean_cover, covered_before, covers_more}
use Rattle.gq_by_file.proofs.covers.cover_if_clean.Goals as goal

pub returns-in_err-push-clause-kept : goal.returns-in_err-push-clause-kept
returns-in_err-push-clause-kept c x all links faulty leads are = rw c.in_err-push.ensures.items are

pub returns-in_err-push-clause-old : goal.returns-in_err-push-clause-old
returns-in_err-push-clause-old c n h = rw c.in_err-push.ensures.items h

pub returns-clause-kept : goal.returns-clause-kept
returns-clause-kept c x all links faulty leads are =
    let files : List ℕ = c.in_ok-files.files.items in
    let clean : list_any (λ n. slice_index_or c.args.faulty.now n false) files ≡ false =
    subst (λ (ns : List ℕ). list_any (λ n. slice_index_or c.args.faulty.now n false) ns ≡ false) c.deref-2.ensures.value (sym c.has_marked.ensures ∙ c.if-has_marked.false) in
    rw c.in_ok-push.ensures.items
    (covers_more x c.args.covers.now.items _ are
    (clean_cover x c.args.rows.now links (c.args.file ∷ []) files c.in_ok-files.ensures.sound c.in_ok-files.ensures.complete c.faults_stay_in_larger_sets.ensures all c.args.faulty.now faulty leads clean _ refl c.new.ensures.items))

pub returns-clause-old : goal.returns-clause-old
returns-clause-old c n h = rw c.in_ok-push.ensures.items (covered_before c.args.covers.now.items _ n h)
