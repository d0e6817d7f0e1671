-- Selections of which a run was put into a fragment, all places kept.
use Rattle.std.proofs.Common.{◌≡◌, ◌⊎◌, ⊎_elim, inl, inr, ℕ, ◌+◌, ◌<◌, ◌≤◌, Bool, true, false, List, [], ◌∷◌, ◌++◌, Option, Some, Contains, refl, sym, ap, ◌∙◌, subst, arith, nat_le}
use Rattle.std.specs.Prelude.{◌==◌, ◌&&◌, if◌then◌else◌}
use Rattle.std.proofs.lemmas.Bool.Decides.{nat_tests}
use Rattle.std.proofs.lemmas.List.Elements.{Contains-append_left, Contains-append_right, Contains-append_cases}
use Rattle.gq_text.specs.declared.place.Span.{Span}
use Rattle.gq_tree.specs.Forest.{none, more, row}
use Rattle.gq_tree.specs.Plain as tree
use Rattle.gq_tree.specs.Plain.{NameOf, Head, spread, Sel, Sels, no_place, place_head, erase_all}
use Rattle.gq_tree.specs.Names.{spread_name, spread_names}
use Rattle.gq_types.specs.Entries.{Text, EntryOf}
use Rattle.gq_types.proofs.Gathered.{first, only, nothing_in}
use Rattle.gq_document.specs.Selections.{IsSelectionWithin, here, within, after, parent_below}
use Rattle.gq_rewritten.specs.Rewrites.{bare_name, head_place, followed_by, with_extracted}
use Rattle.gq_laws.specs.Rewriting.KnownBefore.{Each, EndsSet, ends_here, ends_within, ends_after}
use Rattle.gq_laws.specs.Rewriting.Places.{HoldsNone, AreNested, run_start, run_end}
use Rattle.gq_laws.specs.Rewriting.Statics.{static_of}
use Rattle.gq_laws.proofs.Rewriting.Conditions.{HoldsOrAvoids, holds, avoids}
use Rattle.gq_laws.proofs.Rewriting.Nests.{IsOutside, outside, end_after, end_is, rises, run_stands}
use Rattle.gq_laws.proofs.Rewriting.Once.{no_end}
use Rattle.gq_laws.proofs.Rewriting.Parents.{parent_is}
use Rattle.gq_laws.proofs.RewrittenValid.Opened.{Among, it_is, below_it, behind_it, among, none_stands, in_first, in_second, in_one, StandsToo, names_more, names_followed}

abbrev pub extracted : (start end : ℕ) → Head Span → Sels Span → Sels Span
extracted start end new none = none
extracted start end new (more head below rest) =
    if (head_place head).start == start then more new none (extracted start end new rest) else
    if nat_le start (head_place head).start && nat_le (head_place head).end end then extracted start end new rest
    else more head (extracted start end new below) (extracted start end new rest)

-- the spread that stands for the run
abbrev pub a_spread : Text → Span → Head Span
a_spread name at = spread (record { text = name; place = at }) [] at

pub extracted_erased : (start end : ℕ) (name : Text) (at : Span) (ss : Sels Span) → erase_all (extracted start end (a_spread name at) ss) ≡ with_extracted start end name ss
extracted_erased start end name at none = refl
extracted_erased start end name at (more h b r) =
    by ((head_place h).start == start) (nat_le start (head_place h).start && nat_le (head_place h).end end) (extracted_erased start end name at b) (extracted_erased start end name at r)
  where
    by : (s t : Bool) → erase_all (extracted start end (a_spread name at) b) ≡ with_extracted start end name b →
        erase_all (extracted start end (a_spread name at) r) ≡ with_extracted start end name r →
        erase_all (if s then more (a_spread name at) none (extracted start end (a_spread name at) r) else if t then extracted start end (a_spread name at) r else more h
        (extracted start end (a_spread name at) b) (extracted start end (a_spread name at) r)) ≡
        (if s then more (spread (bare_name name) [] tt) none (with_extracted start end name r) else if t then with_extracted start end name r else more (place_head no_place h)
        (with_extracted start end name b) (with_extracted start end name r))
    by true t eb er = ap (λ z. more (spread (bare_name name) [] tt) none z) er
    by false true eb er = er
    by false false eb er =
        ap (λ z. more (place_head no_place h) z (erase_all (extracted start end (a_spread name at) r))) eb ∙ ap (λ z. more (place_head no_place h) (with_extracted start end name b) z) er

pub row_followed : (xs ys : List (Sel Span)) → row (xs ++ ys) ≡ followed_by (row xs) (row ys)
row_followed [] ys = refl
row_followed (x ∷ xs) ys = ap (λ z. more x.label x.below z) (row_followed xs ys)

-- a spread has no selections in braces
abbrev pub IsNoSpread : Head Span → Type 0
IsNoSpread h = spread_name h ≡ []

-- A run whose parent has the type stands in selections, and a spread stands for it.
pub data IsMoved (es : List EntryOf) (on : Text) (run : Sels Span) (name : Text) (at : Span) : Option Text → Sels Span → Sels Span → Type 0 where
  at_run : {parent : Option Text} {ss ts : Sels Span} (rest : Sels Span) → parent ≡ Some on → ss ≡ followed_by run rest → ts ≡ more (a_spread name at) none rest →
      IsMoved es on run name at parent ss ts
  below_head : {parent : Option Text} {head : Head Span} {below below' rest : Sels Span} → IsNoSpread head → IsMoved es on run name at (parent_below es parent head) below below' →
      IsMoved es on run name at parent (more head below rest) (more head below' rest)
  behind_head : {parent : Option Text} {head : Head Span} {below rest rest' : Sels Span} → IsMoved es on run name at parent rest rest' →
      IsMoved es on run name at parent (more head below rest) (more head below rest')

-- names in spreads
pub names_cases : (h : Head Span) (b r : Sels Span) (n : NameOf Span) → Contains (spread_names (more h b r)) n →
    Contains (spread_name h) n ⊎ (Contains (spread_names b) n ⊎ Contains (spread_names r) n)
names_cases h b r n c =
    ⊎_elim (λ i. inl i) (λ i. inr (Contains-append_cases (spread_names b) (spread_names r) n i))
    (Contains-append_cases (spread_name h) (spread_names b ++ spread_names r) n (subst (λ z. Contains z n) (names_more h b r) c))

pub names_head : (h : Head Span) (b r : Sels Span) (n : NameOf Span) → Contains (spread_name h) n → Contains (spread_names (more h b r)) n
names_head h b r n c = subst (λ z. Contains z n) (sym (names_more h b r)) (Contains-append_left (spread_name h) (spread_names b ++ spread_names r) n c)

pub names_below : (h : Head Span) (b r : Sels Span) (n : NameOf Span) → Contains (spread_names b) n → Contains (spread_names (more h b r)) n
names_below h b r n c = subst (λ z. Contains z n) (sym (names_more h b r)) (Contains-append_right (spread_name h) (spread_names b ++ spread_names r) n
    (Contains-append_left (spread_names b) (spread_names r) n c))

pub names_rest : (h : Head Span) (b r : Sels Span) (n : NameOf Span) → Contains (spread_names r) n → Contains (spread_names (more h b r)) n
names_rest h b r n c = subst (λ z. Contains z n) (sym (names_more h b r)) (Contains-append_right (spread_name h) (spread_names b ++ spread_names r) n
    (Contains-append_right (spread_names b) (spread_names r) n c))

-- a spread that is selected is one of them
pub spread_named : (es : List EntryOf) (parent inner : Option Text) (ss : Sels Span) (s : Sel Span) (n : NameOf Span) → IsSelectionWithin es parent ss inner s → Contains (spread_name s.label) n →
    Contains (spread_names ss) n
spread_named es parent inner none s n w c = absurd (none_stands es parent inner s w)
spread_named es parent inner (more h b r) s n w c =
    by (among es w) (λ v. spread_named es (parent_below es parent h) inner b s n v c) (λ v. spread_named es parent inner r s n v c)
  where
    by : Among es parent h b r inner s → (IsSelectionWithin es (parent_below es parent h) b inner s → Contains (spread_names b) n) →
        (IsSelectionWithin es parent r inner s → Contains (spread_names r) n) → Contains (spread_names (more h b r)) n
    by (it_is p q) next_b next_r = names_head h b r n (subst (λ z. Contains (spread_name z.label) n) q c)
    by (below_it v) next_b next_r = names_below h b r n (next_b v)
    by (behind_it v) next_b next_r = names_rest h b r n (next_r v)

module _ (es : List EntryOf) (on : Text) (run : Sels Span) (name : Text) (at : Span) where
  abbrev pub Moved : Option Text → Sels Span → Sels Span → Type 0
  Moved = IsMoved es on run name at

  abbrev pub new_name : NameOf Span
  new_name = record { text = name; place = at }

  at_head : (parent inner : Option Text) (h : Head Span) (b b' r : Sels Span) (s : Sel Span) → inner ≡ parent → s ≡ record { label = h; below = b } →
      IsSelectionWithin es parent (more h b' r) inner (record { label = s.label; below = b' })
  at_head parent inner h b b' r s p q =
      subst (λ z. IsSelectionWithin es parent (more h b' r) z (record { label = s.label; below = b' })) (sym p)
      (subst (λ z. IsSelectionWithin es parent (more h b' r) parent (record { label = z; below = b' })) (ap (λ z. z.label) (sym q)) here)

  -- it is the new spread, where the run stood
  abbrev pub IsNewSpread : Option Text → Head Span → Type 0
  IsNewSpread inner h = (h ≡ a_spread name at) × (inner ≡ Some on)

  -- What stands now stood before, or is the new spread.
  pub moved_was : {parent : Option Text} {ss ts : Sels Span} → Moved parent ss ts → (inner : Option Text) (s : Sel Span) → IsSelectionWithin es parent ts inner s →
      StandsToo es parent ss inner s.label ⊎ IsNewSpread inner s.label
  moved_was {parent} {ss} {ts} (at_run rest p q t) inner s w = by (among es (subst (λ z. IsSelectionWithin es parent z inner s) t w))
    where
      by : Among es parent (a_spread name at) none rest inner s → StandsToo es parent ss inner s.label ⊎ IsNewSpread inner s.label
      by (it_is a b) = inr (ap (λ z. z.label) b, a ∙ p)
      by (below_it v) = absurd (none_stands es (parent_below es parent (a_spread name at)) inner s v)
      by (behind_it v) = inl (s.below, subst (λ z. IsSelectionWithin es parent z inner s) (sym q) (in_second es run rest v))
  moved_was {parent} (below_head {head} {below} {below'} {rest} g m) inner s w = by (among es w) (λ v. moved_was m inner s v)
    where
      by : Among es parent head below' rest inner s → (IsSelectionWithin es (parent_below es parent head) below' inner s →
          StandsToo es (parent_below es parent head) below inner s.label ⊎ IsNewSpread inner s.label) →
          StandsToo es parent (more head below rest) inner s.label ⊎ IsNewSpread inner s.label
      by (it_is a b) next = inl (below, at_head parent inner head below' below rest s a b)
      by (below_it v) next = ⊎_elim (λ i. inl (i.0, within i.1)) (λ i. inr i) (next v)
      by (behind_it v) next = inl (s.below, after v)
  moved_was {parent} (behind_head {head} {below} {rest} {rest'} m) inner s w = by (among es w) (λ v. moved_was m inner s v)
    where
      by : Among es parent head below rest' inner s → (IsSelectionWithin es parent rest' inner s → StandsToo es parent rest inner s.label ⊎ IsNewSpread inner s.label) →
          StandsToo es parent (more head below rest) inner s.label ⊎ IsNewSpread inner s.label
      by (it_is a b) next = inl (below, at_head parent inner head below below rest s a b)
      by (below_it v) next = inl (s.below, within v)
      by (behind_it v) next = ⊎_elim (λ i. inl (i.0, after i.1)) (λ i. inr i) (next v)

  -- What stood before stands now, or in the run.
  pub moved_is : {parent : Option Text} {ss ts : Sels Span} → Moved parent ss ts → (inner : Option Text) (s : Sel Span) → IsSelectionWithin es parent ss inner s →
      StandsToo es parent ts inner s.label ⊎ IsSelectionWithin es (Some on) run inner s
  moved_is {parent} {ss} {ts} (at_run rest p q t) inner s w =
      ⊎_elim (λ v. inr (subst (λ z. IsSelectionWithin es z run inner s) p v))
      (λ v. inl (s.below, subst (λ z. IsSelectionWithin es parent z inner s) (sym t) (after v)))
      (in_one es run rest (subst (λ z. IsSelectionWithin es parent z inner s) q w))
  moved_is {parent} (below_head {head} {below} {below'} {rest} g m) inner s w = by (among es w) (λ v. moved_is m inner s v)
    where
      by : Among es parent head below rest inner s → (IsSelectionWithin es (parent_below es parent head) below inner s →
          StandsToo es (parent_below es parent head) below' inner s.label ⊎ IsSelectionWithin es (Some on) run inner s) →
          StandsToo es parent (more head below' rest) inner s.label ⊎ IsSelectionWithin es (Some on) run inner s
      by (it_is a b) next = inl (below', at_head parent inner head below below' rest s a b)
      by (below_it v) next = ⊎_elim (λ i. inl (i.0, within i.1)) (λ i. inr i) (next v)
      by (behind_it v) next = inl (s.below, after v)
  moved_is {parent} (behind_head {head} {below} {rest} {rest'} m) inner s w = by (among es w) (λ v. moved_is m inner s v)
    where
      by : Among es parent head below rest inner s → (IsSelectionWithin es parent rest inner s → StandsToo es parent rest' inner s.label ⊎ IsSelectionWithin es (Some on) run inner s) →
          StandsToo es parent (more head below rest') inner s.label ⊎ IsSelectionWithin es (Some on) run inner s
      by (it_is a b) next = inl (below, at_head parent inner head below below rest' s a b)
      by (below_it v) next = inl (s.below, within v)
      by (behind_it v) next = ⊎_elim (λ i. inl (i.0, after i.1)) (λ i. inr i) (next v)

  -- What stands in the run stood before.
  pub run_was : {parent : Option Text} {ss ts : Sels Span} → Moved parent ss ts → (inner : Option Text) (s : Sel Span) → IsSelectionWithin es (Some on) run inner s →
      IsSelectionWithin es parent ss inner s
  run_was {parent} (at_run rest p q t) inner s w = subst (λ z. IsSelectionWithin es parent z inner s) (sym q) (in_first es rest (subst (λ z. IsSelectionWithin es z run inner s) (sym p) w))
  run_was (below_head g m) inner s w = within (run_was m inner s w)
  run_was (behind_head m) inner s w = after (run_was m inner s w)

  -- the same of the names in spreads
  pub names_were : {parent : Option Text} {ss ts : Sels Span} → Moved parent ss ts → (n : NameOf Span) → Contains (spread_names ts) n → Contains (spread_names ss) n ⊎ (n ≡ new_name)
  names_were {ss} {ts} (at_run rest p q t) n c =
      ⊎_elim (λ i. inr (only new_name n i))
      (λ i. ⊎_elim (λ j. nothing_in n j) (λ j. inl (subst (λ z. Contains (spread_names z) n) (sym q)
      (subst (λ z. Contains z n) (sym (names_followed run rest)) (Contains-append_right (spread_names run) (spread_names rest) n j)))) i)
      (names_cases (a_spread name at) none rest n (subst (λ z. Contains (spread_names z) n) t c))
  names_were (below_head {head} {below} {below'} {rest} g m) n c =
      ⊎_elim (λ i. inl (names_head head below rest n i)) (λ i. ⊎_elim (λ j. ⊎_elim (λ k. inl (names_below head below rest n k)) (λ k. inr k) (names_were m n j))
      (λ j. inl (names_rest head below rest n j)) i) (names_cases head below' rest n c)
  names_were (behind_head {head} {below} {rest} {rest'} m) n c =
      ⊎_elim (λ i. inl (names_head head below rest n i)) (λ i. ⊎_elim (λ j. inl (names_below head below rest n j))
      (λ j. ⊎_elim (λ k. inl (names_rest head below rest n k)) (λ k. inr k) (names_were m n j)) i) (names_cases head below rest' n c)

  pub names_are : {parent : Option Text} {ss ts : Sels Span} → Moved parent ss ts → (n : NameOf Span) → Contains (spread_names ss) n → Contains (spread_names ts) n ⊎ Contains (spread_names run) n
  names_are {ss} {ts} (at_run rest p q t) n c =
      ⊎_elim (λ i. inr i) (λ i. inl (subst (λ z. Contains (spread_names z) n) (sym t) (names_rest (a_spread name at) none rest n i)))
      (Contains-append_cases (spread_names run) (spread_names rest) n (subst (λ z. Contains z n) (names_followed run rest) (subst (λ z. Contains (spread_names z) n) q c)))
  names_are (below_head {head} {below} {below'} {rest} g m) n c =
      ⊎_elim (λ i. inl (names_head head below' rest n i)) (λ i. ⊎_elim (λ j. ⊎_elim (λ k. inl (names_below head below' rest n k)) (λ k. inr k) (names_are m n j))
      (λ j. inl (names_rest head below' rest n j)) i) (names_cases head below rest n c)
  names_are (behind_head {head} {below} {rest} {rest'} m) n c =
      ⊎_elim (λ i. inl (names_head head below rest' n i)) (λ i. ⊎_elim (λ j. inl (names_below head below rest' n j))
      (λ j. ⊎_elim (λ k. inl (names_rest head below rest' n k)) (λ k. inr k) (names_are m n j)) i) (names_cases head below rest n c)

  pub names_of_run : {parent : Option Text} {ss ts : Sels Span} → Moved parent ss ts → (n : NameOf Span) → Contains (spread_names run) n → Contains (spread_names ss) n
  names_of_run (at_run rest p q t) n c = subst (λ z. Contains (spread_names z) n) (sym q) (subst (λ z. Contains z n) (sym (names_followed run rest))
      (Contains-append_left (spread_names run) (spread_names rest) n c))
  names_of_run (below_head {head} {below} {below'} {rest} g m) n c = names_below head below rest n (names_of_run m n c)
  names_of_run (behind_head {head} {below} {rest} m) n c = names_rest head below rest n (names_of_run m n c)

  pub new_stands : {parent : Option Text} {ss ts : Sels Span} → Moved parent ss ts → Contains (spread_names ts) new_name
  new_stands (at_run rest p q t) = subst (λ z. Contains (spread_names z) new_name) (sym t) (names_head (a_spread name at) none rest new_name (first new_name new_name [] refl))
  new_stands (below_head {head} {below'} {rest} g m) = names_below head below' rest new_name (new_stands m)
  new_stands (behind_head {head} {below} {rest'} m) = names_rest head below rest' new_name (new_stands m)

module _ (start end : ℕ) (new : Head Span) where
  abbrev changed : Sels Span → Sels Span
  changed = extracted start end new

  both_tests : (h : Head Span) (below rest : Sels Span) (b c : Bool) → ((head_place h).start == start) ≡ b → (nat_le start (head_place h).start && nat_le (head_place h).end end) ≡ c →
      changed (more h below rest) ≡ (if b then more new none (changed rest) else if c then changed rest else more h (changed below) (changed rest))
  both_tests h below rest b c d e =
      ap (λ z. if z then more new none (changed rest) else if nat_le start (head_place h).start && nat_le (head_place h).end end then changed rest else more h (changed below) (changed rest)) d
      ∙ ap (λ z. if b then more new none (changed rest) else if z then changed rest else more h (changed below) (changed rest)) e

  -- the first selection of the run, another one of it, and one outside
  at_first : (h : Head Span) (below rest : Sels Span) → (head_place h).start ≡ start → changed (more h below rest) ≡ more new none (changed rest)
  at_first h below rest e =
      let same : ((head_place h).start == start) ≡ true = grind (arith, nat_tests) in
      both_tests h below rest true (nat_le start (head_place h).start && nat_le (head_place h).end end) same refl

  at_other : (h : Head Span) (below rest : Sels Span) → ((head_place h).start ≡ start → ⊥) → start ≤ (head_place h).start → (head_place h).end ≤ end → changed (more h below rest) ≡ changed rest
  at_other h below rest n l m =
      let other : ((head_place h).start == start) ≡ false = grind (arith, nat_tests) in
      let inside : (nat_le start (head_place h).start && nat_le (head_place h).end end) ≡ true = grind (arith, nat_tests) in
      both_tests h below rest false true other inside

  at_outside : (h : Head Span) (below rest : Sels Span) → IsOutside start end h → changed (more h below rest) ≡ more h (changed below) (changed rest)
  at_outside h below rest o =
      let other : ((head_place h).start == start) ≡ false = no_first (head_place h).start o.begins_elsewhere in
      let beside : (nat_le start (head_place h).start && nat_le (head_place h).end end) ≡ false = no_inside (head_place h).start (head_place h).end o.lies_elsewhere in
      both_tests h below rest false false other beside
    where
      no_first : (a : ℕ) → (a ≡ start → ⊥) → (a == start) ≡ false
      no_first a n = grind (arith, nat_tests)

      no_inside : (a b : ℕ) → (start ≤ a → b ≤ end → ⊥) → (nat_le start a && nat_le b end) ≡ false
      no_inside a b n = grind (arith, nat_tests)

  -- Selections outside of the range stay.
  pub outside_stays : (sels : Sels Span) → Each (IsOutside start end) sels → changed sels ≡ sels
  outside_stays none all = refl
  outside_stays (more h below rest) all =
      at_outside h below rest all.0 ∙ ap (λ z. more h z (changed rest)) (outside_stays below all.1) ∙ ap (λ z. more h below z) (outside_stays rest all.2)

  -- behind the first one of the run
  others_go : (from to : ℕ) (ss others : List (Sel Span)) → AreNested from to (row (ss ++ others)) → start < from → end_after from ss ≡ end → changed (row (ss ++ others)) ≡ row others
  others_go from to [] others nested l e = outside_stays (row others) (outside start end from to (omega (arith, l, e)) (inr (omega (arith, e))) (row others) nested)
  others_go from to (s ∷ ss) others nested l e =
      let rise = rises (head_place s.label).end to ss others nested.4 in
      at_other s.label s.below (row (ss ++ others)) (λ q. omega (arith, q, l, nested.0)) (omega (arith, l, nested.0)) (omega (arith, rise, e))
      ∙ others_go (head_place s.label).end to ss others nested.4 (omega (arith, l, nested.0, nested.1)) e

  run_goes : (from to : ℕ) (run others : List (Sel Span)) → run_start run ≡ Some start → run_end run ≡ Some end → AreNested from to (row (run ++ others)) →
      changed (row (run ++ others)) ≡ more new none (row others)
  run_goes from to [] others begins ends nested = cc
  run_goes from to (s ∷ ss) others begins ends nested =
      let begin : (head_place s.label).start ≡ start = cc in
      at_first s.label s.below (row (ss ++ others)) begin ∙ ap (more new none) (others_go (head_place s.label).end to ss others nested.4 (omega (arith, begin, nested.1)) (end_is s ss end ends))

module _ (es : List EntryOf) (start end : ℕ) (on : Text) (run : List (Sel Span)) (name : Text) (at : Span) (begins : run_start run ≡ Some start) (finishes : run_end run ≡ Some end) where
  abbrev after_it : Sels Span → Sels Span
  after_it = extracted start end (a_spread name at)

  not_empty : (ss others : List (Sel Span)) → run_start ss ≡ Some start → {t u : Text} {below tail : Sels Span} → EndsSet (static_of es) t below u tail → tail ≡ row (ss ++ others) → below ≡ none → ⊥
  not_empty [] others b ends e q = cc
  not_empty (s ∷ ss) others b {t} {u} {tail = tail} ends e q = no_end (static_of es) s.label s.below (row (ss ++ others)) (subst (λ z. EndsSet (static_of es) t z u tail) q ends) e

  no_spread_here : (h : Head Span) (below : Sels Span) → HoldsNone h below → (below ≡ none → ⊥) → IsNoSpread h
  no_spread_here (tree.field alias text arguments directives braces place) below nothing some = refl
  no_spread_here (spread text directives place) below nothing some = absurd (some nothing)
  no_spread_here (tree.inline condition directives braces place) below nothing some = refl

  -- Where the run stands in a set, it is moved.
  moves : (from to : ℕ) {t u : Text} {sels tail : Sels Span} (others : List (Sel Span)) → EndsSet (static_of es) t sels u tail → tail ≡ row (run ++ others) → u ≡ on → AreNested from to sels →
      IsMoved es on (row run) name at (Some t) sels (after_it sels)
  moves from to {t} {sels = sels} others ends_here e same nested =
      at_run (row others) (ap Some same) (e ∙ row_followed run others) (ap after_it e ∙ run_goes start end (a_spread name at) from to run others begins finishes (subst (AreNested from to) e nested))
  moves from to {t} others (ends_within {c} {head} {below} {rest} k ends) e same nested =
      let place = run_stands (static_of es) start end ((head_place head).start + 1) (head_place head).end run others ends e begins finishes nested.3 in
      let is_outside : IsOutside start end head = record { begins_elsewhere = λ q. omega (arith, q, place.begins); lies_elsewhere = λ a b. omega (arith, a, place.begins) } in
      let behind = outside_stays start end (a_spread name at) rest (outside start end (head_place head).end to place.is_some (inr place.ends) rest nested.4) in
      let inner = moves ((head_place head).start + 1) (head_place head).end others ends e same nested.3 in
      subst (λ z. IsMoved es on (row run) name at (Some t) (more head below rest) z) (sym (at_outside start end (a_spread name at) head below rest is_outside
      ∙ ap (λ z. more head (after_it below) z) behind))
      (below_head (no_spread_here head below nested.5 (not_empty run others begins ends e))
      (subst (λ z. IsMoved es on (row run) name at z below (after_it below)) (sym (parent_is es t head ∙ k)) inner))
  moves from to {t} others (ends_after {head} {below} {rest} ends) e same nested =
      let place = run_stands (static_of es) start end (head_place head).end to run others ends e begins finishes nested.4 in
      let is_outside : IsOutside start end head = record { begins_elsewhere = λ q. omega (arith, q, place.begins, nested.1); lies_elsewhere = λ a b. omega (arith, a, place.begins, nested.1) } in
      let before = outside_stays start end (a_spread name at) below (outside start end ((head_place head).start + 1) (head_place head).end place.is_some (inl place.begins) below nested.3) in
      let inner = moves (head_place head).end to others ends e same nested.4 in
      subst (λ z. IsMoved es on (row run) name at (Some t) (more head below rest) z) (sym (at_outside start end (a_spread name at) head below rest is_outside
      ∙ ap (λ z. more head z (after_it rest)) before)) (behind_head inner)

  pub moved_by : (t : Text) (set : Sels Span) (from to : ℕ) → AreNested from to set → (others : List (Sel Span)) → EndsSet (static_of es) t set on (row (run ++ others)) →
      IsMoved es on (row run) name at (Some t) set (after_it set)
  moved_by t set from to nested others ends = moves from to others ends refl refl nested

  pub moved_or_same : (t : Text) (set : Sels Span) → start < end → HoldsOrAvoids (static_of es) start end on run t set →
      IsMoved es on (row run) name at (Some t) set (after_it set) ⊎ (after_it set ≡ set)
  moved_or_same t set l (holds from to nested others ends) = inl (moves from to others ends refl refl nested)
  moved_or_same t set l (avoids from to nested beside) = inr (outside_stays start end (a_spread name at) set (outside start end from to l beside set nested))
