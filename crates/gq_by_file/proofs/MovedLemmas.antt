-- Closed sets of files whose numbers change: what the loops over them keep, and that they are closed sets then, of which nothing is told.
use Rattle.std.proofs.Common.{◌≡◌, ◌≢◌, ⊎_elim, ℕ, zero, suc, ◌+◌, ◌<◌, ◌≤◌, Bool, true, false, List, [], ◌∷◌, ◌++◌, Some, Contains, get_or, length, map, slice_get, slice_index_or, take}
use Rattle.std.proofs.Common.{refl, sym, ap, ◌∙◌, subst, arith}
use Rattle.std.specs.Prelude.{if◌then◌else◌, nat_lt, pred, remove}
use Rattle.std.specs.List.{insert}
use Rattle.std.proofs.lemmas.Bool.Decides.{nat_tests}
use Rattle.std.proofs.lemmas.List.{map-append, take_all, take_more}
use Rattle.std.proofs.lemmas.List.Elements.{Contains-append_cases}
use Rattle.std.proofs.lemmas.Option.{get_or_from_slice_get, same_Some}
use Rattle.gq_fault.specs.declared.fault.Fault.{Fault}
use Rattle.gq_tree.specs.Readings.{ParsedOf}
use Rattle.gq_types.specs.Entries.{EntryOf}
use Rattle.gq_types.proofs.Gathered.{nothing_in, first, later, only}
use Rattle.gq_document.specs.Executable.{ExecutableOf}
use Rattle.gq_rules.specs.Files.{together}
use Rattle.gq_by_file.specs.Closed.Closed.{within, IsClosed}
use Rattle.gq_by_file.specs.Closed.Laws.{number_after_insert, AreNotSpread, ClosedSetsMove, ClosedSetsMoveBack, NumbersOfSetsAreUnseen, TellsNothing}
use Rattle.gq_by_file.specs.Closed.RestsOnNames.{IsFaultBySpreads}
use Rattle.gq_by_file.specs.declared.covers.Cover.{Cover}
use Rattle.gq_by_file.specs.declared.names.FileNames.{FileNames}
use Rattle.gq_by_file.specs.Across.{IsCover}
use Rattle.gq_by_file.specs.Names.{AreNames, none, more}
use Rattle.gq_by_file.specs.Helping.Moved.{number_after_remove, AreUnmarked, GoOver}
use Rattle.gq_by_file.proofs.Closed.Inserted.{above, below}

-- files without a mark, and the numbers that they have then
pub record AreAfter (to : ℕ → ℕ) (marks : List Bool) (files after : List ℕ) : Type 0 where
  pub unmarked : AreUnmarked marks files
  pub moved : after ≡ map to files

pub none_after : (to : ℕ → ℕ) (marks : List Bool) → AreAfter to marks [] []
none_after to marks = record { unmarked = λ n c. nothing_in n c; moved = refl }

pub more_after : (to : ℕ → ℕ) (marks : List Bool) (files after : List ℕ) (i : ℕ) → i < length files → slice_get marks (get_or files i 0) ≡ Some false → AreAfter to marks (take i files) after →
    AreAfter to marks (take (i + 1) files) (after ++ to (get_or files i 0) ∷ [])
more_after to marks files after i h free are =
    let file : ℕ = get_or files i 0 in
    let longer : take (i + 1) files ≡ take i files ++ file ∷ [] = take_more files i 0 h in
    record {
      unmarked = λ n c. ⊎_elim (are.unmarked n) (λ d. subst (λ k. slice_get marks k ≡ Some false) (sym (only file n d)) free)
          (Contains-append_cases (take i files) (file ∷ []) n (subst (λ (ns : List ℕ). Contains ns n) longer c));
      moved = ap (λ (ns : List ℕ). ns ++ to file ∷ []) are.moved ∙ sym (map-append to (take i files) (file ∷ [])) ∙ ap (map to) (sym longer);
    }

pub all_after : (to : ℕ → ℕ) (marks : List Bool) (files after : List ℕ) (i : ℕ) → length files ≤ i → AreAfter to marks (take i files) after → AreAfter to marks files after
all_after to marks files after i h are = subst (λ (ns : List ℕ). AreAfter to marks ns after) (take_all i files h) are

-- a cover of which nothing is told
pub cover_after : (to : ℕ → ℕ) (marks : List Bool) (x y : ExecutableOf) → GoOver to marks x y → (c : Cover) → c.faults.items ≡ [] → IsCover x c →
    (d : Cover) → AreAfter to marks c.files.items d.files.items → d.faults.items ≡ [] → IsCover y d
cover_after to marks x y goes c untold is d are silent =
    let nothing : TellsNothing (within c.files.items x) = λ f h. nothing_in f (subst (λ (fs : List Fault). Contains fs f) untold ((is.exact f).1 h)) in
    let t = goes c.files.items are.unmarked is.closed nothing in
    record {
      closed = subst (λ (ns : List ℕ). IsClosed ns y) (sym are.moved) t.0;
      exact = λ f. (
        (λ h. nothing_in f (subst (λ (fs : List Fault). Contains fs f) silent h)),
        (λ h. absurd (t.1 f (subst (λ (ns : List ℕ). IsFaultBySpreads (within ns y) f) are.moved h))),
      );
    }

pub cover_in : (covers : List Cover) (i : ℕ) (c : Cover) → i < length covers → c ≡ get_or covers i c → Contains covers c
cover_in [] i c h e = absurd (omega (arith, h))
cover_in (d ∷ covers) zero c h e = first d c covers (sym e)
cover_in (d ∷ covers) (suc i) c h e = later d c covers (cover_in covers i c (omega (arith, h)) e)

-- a file is put in
pub goes_in : ClosedSetsMove → NumbersOfSetsAreUnseen → (es : List EntryOf) (rs : List ParsedOf) (at : ℕ) (r : ParsedOf) → at ≤ length rs → (marks : List Bool) →
    ((n : ℕ) → slice_index_or marks n false ≡ false → AreNotSpread rs (n ∷ []) r) → GoOver (number_after_insert at) marks (together es rs) (together es (insert rs at r))
goes_in move numbers es rs at r inside marks apart files unmarked closed nothing = (
  move es rs at r files inside (λ n q i. apart n (get_or_from_slice_get marks n false false (unmarked n i)) n q (first n n [] refl)) closed,
  (numbers es rs at r files inside).0 nothing,
)

-- a file is taken out: it may be put back
put_back : (rs : List ParsedOf) (at : ℕ) (r : ParsedOf) → slice_get rs at ≡ Some r → insert (remove rs at) at r ≡ rs
put_back [] at r e = absurd (cc)
put_back (x ∷ rs) zero r e = ap (λ (z : ParsedOf). z ∷ rs) (sym (same_Some x r e))
put_back (x ∷ rs) (suc at) r e = ap (λ (zs : List ParsedOf). x ∷ zs) (put_back rs at r e)

in_rest : (rs : List ParsedOf) (at : ℕ) (r : ParsedOf) → slice_get rs at ≡ Some r → at ≤ length (remove rs at)
in_rest [] at r e = absurd (cc)
in_rest (x ∷ rs) zero r e = omega arith
in_rest (x ∷ rs) (suc at) r e = let h = in_rest rs at r e in omega (arith, h)

back_again : (at n : ℕ) → (n ≡ at → ⊥) → number_after_insert at (number_after_remove at n) ≡ n
back_again at n other = by (nat_lt at n) refl
  where
    by : (b : Bool) → nat_lt at n ≡ b → number_after_insert at (number_after_remove at n) ≡ n
    by true e =
        let high : at < n = grind (arith, e, nat_tests) in
        let less : number_after_remove at n ≡ pred n = ap (λ (b : Bool). if b then pred n else n) e in
        ap (number_after_insert at) less ∙ above at (pred n) (grind (arith, high)) ∙ grind (arith, high)
    by false e =
        let low : n < at = (let h : n ≤ at = grind (arith, e, nat_tests) in let o : n ≢ at = other in grind (arith, h, o)) in
        ap (λ (b : Bool). number_after_insert at (if b then pred n else n)) e ∙ below at n low

all_back : (at : ℕ) (files : List ℕ) → ((n : ℕ) → Contains files n → n ≡ at → ⊥) → map (number_after_insert at) (map (number_after_remove at) files) ≡ files
all_back at [] other = refl
all_back at (n ∷ files) other =
    ap (λ (m : ℕ). m ∷ map (number_after_insert at) (map (number_after_remove at) files)) (back_again at n (other n (first n n files refl)))
    ∙ ap (λ (ms : List ℕ). n ∷ ms) (all_back at files (λ m c. other m (later n m files c)))

pub goes_out : ClosedSetsMoveBack → NumbersOfSetsAreUnseen → (es : List EntryOf) (rs : List ParsedOf) (at : ℕ) (r : ParsedOf) → slice_get rs at ≡ Some r → (marks : List Bool) →
    slice_index_or marks at false ≡ true → GoOver (number_after_remove at) marks (together es rs) (together es (remove rs at))
goes_out back numbers es rs at r there marks marked files unmarked closed nothing =
    let rest : List ParsedOf = remove rs at in
    let then_files : List ℕ = map (number_after_remove at) files in
    let inside : at ≤ length rest = in_rest rs at r there in
    let outside : (n : ℕ) → Contains files n → n ≡ at → ⊥ = λ n c e. (
    let bare : slice_index_or marks at false ≡ false = get_or_from_slice_get marks at false false (subst (λ k. slice_get marks k ≡ Some false) e (unmarked n c)) in absurd (cc)) in
    let same_files : map (number_after_insert at) then_files ≡ files = all_back at files outside in
    let same : insert rest at r ≡ rs = put_back rs at r there in
    let closed_then : IsClosed (map (number_after_insert at) then_files) (together es (insert rest at r)) =
    subst (λ (ns : List ℕ). IsClosed ns (together es (insert rest at r))) (sym same_files) (subst (λ (ps : List ParsedOf). IsClosed files (together es ps)) (sym same) closed) in
    let nothing_then : TellsNothing (within (map (number_after_insert at) then_files) (together es (insert rest at r))) =
    subst (λ (ns : List ℕ). TellsNothing (within ns (together es (insert rest at r)))) (sym same_files)
    (subst (λ (ps : List ParsedOf). TellsNothing (within files (together es ps))) (sym same) nothing) in
    (back es rest at r then_files inside closed_then, (numbers es rest at r then_files inside).1 nothing_then)

-- the names of the others
pub names_remove : (at : ℕ) {rs : List ParsedOf} {names : List FileNames} → AreNames rs names → AreNames (remove rs at) (remove names at)
names_remove zero none = none
names_remove (suc at) none = none
names_remove zero (more h hs) = hs
names_remove (suc at) (more h hs) = more h (names_remove at hs)

pub name_there : (at : ℕ) {rs : List ParsedOf} {names : List FileNames} → at < length names → AreNames rs names → (r : ParsedOf) × (slice_get rs at ≡ Some r)
name_there at h none = absurd (omega (arith, h))
name_there zero h (more {r = r} p ps) = (r, refl)
name_there (suc at) h (more p ps) = name_there at (omega (arith, h)) ps
