-- Covers of files: what is added to them, what stays, and that each file stands in one.
use Rattle.std.proofs.Common.{◌≡◌, ◌↔◌, ◌⊎◌, ⊎_elim, inl, inr, ℕ, zero, suc, ◌+◌, ◌<◌, Bool, true, false, List, [], ◌∷◌, ◌++◌, ◌≤◌, All, Contains, slice_index_or, get_or, append-nil, drop, length, map, replicate, take}
use Rattle.std.proofs.Common.{refl, sym, ap, ◌∙◌, subst, arith}
use Rattle.std.specs.Prelude.{◌||◌}
use Rattle.std.specs.List.{list_any}
use Rattle.std.specs.declared.vec.Vec.{Vec}
use Rattle.std.specs.declared.alloc.Global.{Global}
use Rattle.std.proofs.lemmas.List.{take-append-drop}
use Rattle.std.proofs.lemmas.List.Elements.{All-contains, All-contains_itself, Contains-append_left, Contains-append_right, Contains-append_cases}
use Rattle.std.proofs.lemmas.List.Elements.{All-weaker}
use Rattle.gq_fault.specs.declared.fault.Fault.{Fault}
use Rattle.gq_graph.specs.Reach.{Reach, row}
use Rattle.gq_types.proofs.Gathered.{nothing_in, first, later, only, cases_cons, or_cases, or_left, or_right}
use Rattle.gq_document.specs.Executable.{ExecutableOf}
use Rattle.gq_by_file.specs.Closed.Closed.{is_among, within, IsClosed}
use Rattle.gq_by_file.specs.Closed.RestsOnNames.{IsFaultBySpreads}
use Rattle.gq_by_file.specs.Closed.Laws.{FaultsOfClosedSetsAreFaults, FaultsStayInLargerSets}
use Rattle.gq_by_file.proofs.Closed.Within.{from_among}
use Rattle.gq_by_file.specs.declared.covers.Cover.{Cover}
use Rattle.gq_by_file.specs.Across.{IsCover, AreCovers}
use Rattle.gq_by_file.specs.Helping.Covers.{AreFaulty, IsCovered, LeadsInto, unmarked_from}
use Rattle.gq_by_file.specs.Links.{AreLinks}
use Rattle.gq_by_file.proofs.LinkLemmas.{closed_by_links, reach_more}

-- tests of lists
pub any_of : {X : Type 0} (p : X → Bool) (xs : List X) (x : X) → Contains xs x → p x ≡ true → list_any p xs ≡ true
any_of p [] x c e = nothing_in x c
any_of {X} p (y ∷ ys) x c e = ⊎_elim (λ s. or_left (p y) (list_any p ys) (subst (λ (z : X). p z ≡ true) (sym s) e)) (λ d. or_right (p y) (list_any p ys) (any_of p ys x d e)) (cases_cons y x ys c)

pub some_of : {X : Type 0} (p : X → Bool) (xs : List X) → list_any p xs ≡ true → (x : X) × Contains xs x × (p x ≡ true)
some_of p [] e = absurd (cc)
some_of p (y ∷ ys) e = ⊎_elim (λ h. (y, first y y ys refl, h)) (λ h. let t = some_of p ys h in (t.0, later y t.0 ys t.1, t.2)) (or_cases (p y) (list_any p ys) e)

pub none_of : {X : Type 0} (p : X → Bool) (xs : List X) (x : X) → list_any p xs ≡ false → Contains xs x → p x ≡ true → ⊥
none_of p xs x e c h = let t : list_any p xs ≡ true = any_of p xs x c h in absurd (cc)

-- each of some numbers
pub each_of : (P : ℕ → Type 0) (ns : List ℕ) (n : ℕ) → All P ns → Contains ns n → P n
each_of P ns n all c = All-contains P ns n all c

-- what one of the starts leads to
pub leads_one : (rows : List (Vec ℕ Global)) (starts all : List ℕ) (n : ℕ) → Contains starts n → LeadsInto rows starts all → LeadsInto rows (n ∷ []) all
leads_one rows starts all n c leads m h = leads m (reach_more rows (n ∷ []) starts (λ k d. subst (λ z. Contains starts z) (sym (only n k d)) c) m h)

-- one more cover
pub covers_more : (x : ExecutableOf) (covers : List Cover) (c : Cover) → AreCovers x covers → IsCover x c → AreCovers x (covers ++ c ∷ [])
covers_more x covers c are is d stands = ⊎_elim (λ l. are d l) (λ r. subst (λ (z : Cover). IsCover x z) (sym (only c d r)) is) (Contains-append_cases covers (c ∷ []) d stands)

pub covered_before : (covers more : List Cover) (n : ℕ) → IsCovered covers n → IsCovered (covers ++ more) n
covered_before covers more n h = (h.0, Contains-append_left covers more h.0 h.1, h.2)

pub covered_last : (covers : List Cover) (c : Cover) (n : ℕ) → Contains c.files.items n → IsCovered (covers ++ c ∷ []) n
covered_last covers c n h = (c, Contains-append_right covers (c ∷ []) c (first c c [] refl), h)

module _ (x : ExecutableOf) (rows : List (Vec ℕ Global)) (links : AreLinks x rows) (starts files : List ℕ)
    (sound : All (λ n. Reach starts (row rows) n) files) (complete : (n : ℕ) → Reach starts (row rows) n → Contains files n) where
  -- what is reached is a closed set
  pub reached_closed : IsClosed files x
  reached_closed = closed_by_links x rows starts files links sound complete

  -- in which, where it is clean, nothing is told
  pub clean_cover : (stay : FaultsStayInLargerSets) (all : List ℕ) (faulty : List Bool) → AreFaulty x all faulty → LeadsInto rows starts all →
      list_any (λ n. slice_index_or faulty n false) files ≡ false → (c : Cover) → c.files.items ≡ files → c.faults.items ≡ [] → IsCover x c
  clean_cover stay all faulty are leads none c is empty = record {
    closed = subst (λ (fs : List ℕ). IsClosed fs x) (sym is) reached_closed;
    exact = λ f. (
      (λ s. nothing_in f (subst (λ (fs : List Fault). Contains fs f) empty s)),
      (λ h. absurd (refused f (subst (λ (fs : List ℕ). IsFaultBySpreads (within fs x) f) is h))),
    );
  }
    where
      into : (n : ℕ) → Contains files n → Contains all n
      into n s = leads n (each_of (Reach starts (row rows)) files n sound s)

      refused : (f : Fault) → IsFaultBySpreads (within files x) f → ⊥
      refused f h =
          let t = stay x files all into reached_closed f h in
          none_of (λ n. slice_index_or faulty n false) files f.file none t.0 (are f t.1)

  -- the set itself
  pub whole_cover : (c : Cover) → c.files.items ≡ files → ((f : Fault) → Contains c.faults.items f ↔ IsFaultBySpreads (within files x) f) → IsCover x c
  whole_cover c is exact = record {
    closed = subst (λ (fs : List ℕ). IsClosed fs x) (sym is) reached_closed;
    exact = λ f. subst (λ (fs : List ℕ). Contains c.faults.items f ↔ IsFaultBySpreads (within fs x) f) (sym is) (exact f);
  }

  -- the marks of its faults
  pub faulty_marks : (law : FaultsOfClosedSetsAreFaults) (count : ℕ) (faults : List Fault) (marks : List Bool) → ((n : ℕ) → Contains files n → n < count) →
      ((f : Fault) → Contains faults f ↔ IsFaultBySpreads (within files x) f) → ((f : Fault) → Contains faults f → f.file < count → slice_index_or marks f.file false ≡ true) → AreFaulty x files marks
  faulty_marks law count faults marks range exact marked f h =
      let t = law x files reached_closed f h in
      marked f ((exact f).1 h) (range f.file t.0)

  -- the same where lists are lent
  pub their_faulty : (law : FaultsOfClosedSetsAreFaults) (count : ℕ) (faults : List Fault) (marks : List Bool) → All (λ n. n < count) files →
      (given : List ℕ) → given ≡ files → ((f : Fault) → Contains faults f ↔ IsFaultBySpreads (within given x) f) →
      (lent : List Fault) → lent ≡ faults → ((f : Fault) → Contains lent f → f.file < count → slice_index_or marks f.file false ≡ true) →
      (used : List Bool) → used ≡ marks → AreFaulty x files used
  their_faulty law count faults marks range given is exact lent same marked used are =
      subst (λ (ms : List Bool). AreFaulty x files ms) (sym are)
      (faulty_marks law count faults marks (λ n c. each_of (λ k. k < count) files n range c) (λ f. subst (λ (fs : List ℕ). Contains faults f ↔ IsFaultBySpreads (within fs x) f) is (exact f))
      (λ f c. marked f (subst (λ (fs : List Fault). Contains fs f) (sym same) c)))

  pub their_cover : (c : Cover) → c.files.items ≡ files → (given : List ℕ) → given ≡ files → ((f : Fault) → Contains c.faults.items f ↔ IsFaultBySpreads (within given x) f) → IsCover x c
  their_cover c of given is exact = whole_cover c of (λ f. subst (λ (fs : List ℕ). Contains c.faults.items f ↔ IsFaultBySpreads (within fs x) f) is (exact f))

-- the halves, one behind the other
pub both_halves : (count : ℕ) (all front back : List ℕ) → front ≡ take count all → back ≡ drop count all → all ≡ front ++ back
both_halves count all front back is_front is_back =
    sym (take-append-drop count all) ∙ ap (λ (ns : List ℕ). ns ++ drop count all) (sym is_front) ∙ ap (λ (ns : List ℕ). front ++ ns) (sym is_back)

-- an item of a list, and a list that is walked to its end
pub item_in : (ns : List ℕ) (i : ℕ) → i < length ns → Contains ns (get_or ns i 0)
item_in [] i h = absurd (omega (arith, h))
item_in (n ∷ ns) zero h = first n n ns refl
item_in (n ∷ ns) (suc i) h = later n (get_or ns i 0) ns (item_in ns i (omega (arith, h)))

pub walked : {X Y : Type 0} (g : X → Y) (made : List Y) (xs : List X) (i : ℕ) → length xs ≤ i → made ++ map g (drop i xs) ≡ map g xs → made ≡ map g xs
walked {X} g made xs i h e = sym (append-nil made) ∙ ap (λ (rest : List X). made ++ map g rest) (sym (nothing_left xs i h)) ∙ e
  where
    nothing_left : (xs : List X) (i : ℕ) → length xs ≤ i → drop i xs ≡ []
    nothing_left [] zero h = refl
    nothing_left [] (suc i) h = refl
    nothing_left (x ∷ xs) zero h = absurd (omega (arith, h))
    nothing_left (x ∷ xs) (suc i) h = nothing_left xs i (omega (arith, h))

-- no mark at first
pub no_mark : (n k : ℕ) → slice_index_or (replicate n false) k false ≡ false
no_mark zero k = refl
no_mark (suc n) zero = refl
no_mark (suc n) (suc k) = no_mark n k

pub marked_alone : (count : ℕ) (before after : List Bool) (covers : List Cover) → before ≡ replicate count false → length after ≡ length before →
    ((n : ℕ) → n < length before → slice_index_or after n false ≡ (slice_index_or before n false || list_any (λ (c : Cover). is_among c.files.items n) covers)) →
    (n : ℕ) → n < length after → slice_index_or after n false ≡ list_any (λ (c : Cover). is_among c.files.items n) covers
marked_alone count before after covers none same marked n h =
    let bare : slice_index_or before n false ≡ false = ap (λ (ms : List Bool). slice_index_or ms n false) none ∙ no_mark count n in
    marked n (omega (arith, h, same)) ∙ ap (λ b. b || list_any (λ (c : Cover). is_among c.files.items n) covers) bare

-- ---- files without a mark

pub unmarked_there : (k : ℕ) (marks : List Bool) (n : ℕ) → n < length marks → slice_index_or marks n false ≡ false → Contains (unmarked_from k marks) (k + n)
unmarked_there k [] n h e = absurd (omega (arith, h))
unmarked_there k (true ∷ marks) zero h e = absurd (cc)
unmarked_there k (false ∷ marks) zero h e = first k (k + 0) (unmarked_from (k + 1) marks) (omega arith)
unmarked_there k (true ∷ marks) (suc n) h e =
    let number : k + 1 + n ≡ k + suc n = omega arith in
    subst (λ z. Contains (unmarked_from (k + 1) marks) z) number (unmarked_there (k + 1) marks n (omega (arith, h)) e)
unmarked_there k (false ∷ marks) (suc n) h e =
    let number : k + 1 + n ≡ k + suc n = omega arith in
    later k (k + suc n) (unmarked_from (k + 1) marks) (subst (λ z. Contains (unmarked_from (k + 1) marks) z) number (unmarked_there (k + 1) marks n (omega (arith, h)) e))

unmarked_below : (k : ℕ) (marks : List Bool) (n : ℕ) → Contains (unmarked_from k marks) n → n < k + length marks
unmarked_below k [] n c = nothing_in n c
unmarked_below k (true ∷ marks) n c = let h = unmarked_below (k + 1) marks n c in omega (arith, h)
unmarked_below k (false ∷ marks) n c = ⊎_elim (λ (e : k ≡ n). omega (arith, e)) (λ d. let h = unmarked_below (k + 1) marks n d in omega (arith, h)) (cases_cons k n (unmarked_from (k + 1) marks) c)

pub unmarked_range : (marks : List Bool) (count : ℕ) → length marks ≡ count → All (λ n. n < count) (unmarked_from 0 marks)
unmarked_range marks count e = All-weaker (Contains (unmarked_from 0 marks)) (λ n. n < count) (λ n c. let b = unmarked_below 0 marks n c in omega (arith, b, e)) (unmarked_from 0 marks) (All-contains_itself (unmarked_from 0 marks))

-- each file is covered, or has no mark
module _ (covers : List Cover) (marks : List Bool) (is : (n : ℕ) → n < length marks → slice_index_or marks n false ≡ list_any (λ (c : Cover). is_among c.files.items n) covers) where
  pub covered_or_open : (n : ℕ) → n < length marks → IsCovered covers n ⊎ Contains (unmarked_from 0 marks) n
  covered_or_open n h = by (slice_index_or marks n false) refl
    where
      by : (b : Bool) → slice_index_or marks n false ≡ b → IsCovered covers n ⊎ Contains (unmarked_from 0 marks) n
      by true e =
          let t = some_of (λ (c : Cover). is_among c.files.items n) covers (sym (is n h) ∙ e) in
          inl (t.0, t.1, from_among t.0.files.items n t.2)
      by false e = let number : 0 + n ≡ n = omega arith in inr (subst (λ z. Contains (unmarked_from 0 marks) z) number (unmarked_there 0 marks n h e))
