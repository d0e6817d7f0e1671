-- The selection that a range means begins last of those that hold it.
use Rattle.std.proofs.Common.{◌≡◌, ◌⊎◌, inl, inr, ℕ, ◌<◌, ◌≤◌, Bool, true, false, List, [], ◌∷◌, ◌++◌, Option, Some, None, Contains, refl, sym, ap, ◌∙◌, subst, arith}
use Rattle.std.specs.Prelude.{nat_lt, nat_le, ◌&&◌, if◌then◌else◌}
use Rattle.std.proofs.lemmas.Bool.Decides.{nat_tests}
use Rattle.gq_text.specs.declared.place.Span.{Span}
use Rattle.gq_tree.specs.Plain.{Head}
use Rattle.gq_rewritten.specs.Rewrites.{head_place}
use Rattle.gq_types.proofs.Gathered.{nothing_in, first, later, cases_cons, and_parts, and_both}
use Rattle.gq_select.specs.Meant.{StandingOf, standing, begins_last, is_meant, later as later_of}
use Rattle.gq_select.specs.Choice.{begin_of, Holds, LastIsMeant, NothingIsMeant}

abbrev At : StandingOf → ℕ
At s = begin_of s.selection

-- of two, the one that begins later
record Later (best : Option StandingOf) (x s : StandingOf) : Type 0 where
  either : ((s ≡ x) × ((b : StandingOf) → best ≡ Some b → At b < At x)) ⊎ ((best ≡ Some s) × (At x ≤ At s))

which : (best : Option StandingOf) (x s : StandingOf) → later_of best x ≡ Some s → Later best x s
which None x s e = let same : s ≡ x = cc in record { either = inl (same, λ b q. cc) }
which (Some b) x s e = by (nat_lt (At b) (At x)) refl e
  where
    by : (t : Bool) → nat_lt (At b) (At x) ≡ t → (if t then Some x else Some b) ≡ Some s → Later (Some b) x s
    by true l f =
        let same : s ≡ x = cc in
        let less : At b < At x = grind (arith, nat_tests, l) in
        record { either = inl (same, λ d q. let one : b ≡ d = cc in subst (λ (z : StandingOf). At z < At x) one less) }
    by false l f =
        let same : b ≡ s = cc in
        let no_less : At x ≤ At b = grind (arith, nat_tests, l) in
        record { either = inr (f, subst (λ (z : StandingOf). At x ≤ At z) same no_less) }

later_wins : (best : Option StandingOf) (x : StandingOf) → ((b : StandingOf) → best ≡ Some b → At b < At x) → later_of best x ≡ Some x
later_wins None x h = refl
later_wins (Some b) x h =
    let l = h b refl in
    let test : nat_lt (At b) (At x) ≡ true = grind (arith, nat_tests, l) in
    ap (λ (t : Bool). if t then Some x else Some b) test

best_stays : (b x : StandingOf) → At x ≤ At b → later_of (Some b) x ≡ Some b
best_stays b x l =
    let test : nat_lt (At b) (At x) ≡ false = grind (arith, nat_tests, l) in
    ap (λ (t : Bool). if t then Some x else Some b) test

never_none : (best : Option StandingOf) (x : StandingOf) → later_of best x ≡ None → ⊥
never_none None x e = cc
never_none (Some b) x e = by (nat_lt (At b) (At x)) e
  where
    by : (t : Bool) → (if t then Some x else Some b) ≡ None → ⊥
    by true f = cc
    by false f = cc

module _ (test : StandingOf → Bool) where
  -- it is found among these, behind a best one
  record Found (best : Option StandingOf) (xs : List StandingOf) (s : StandingOf) : Type 0 where
    before : List StandingOf
    behind : List StandingOf
    whole : xs ≡ before ++ s ∷ behind
    passes : test s ≡ true
    over_best : (b : StandingOf) → best ≡ Some b → At b < At s
    over_before : (t : StandingOf) → Contains before t → test t ≡ true → At t < At s
    over_behind : (t : StandingOf) → Contains behind t → test t ≡ true → At t ≤ At s

  record Stays (best : Option StandingOf) (xs : List StandingOf) (s : StandingOf) : Type 0 where
    is : best ≡ Some s
    over : (t : StandingOf) → Contains xs t → test t ≡ true → At t ≤ At s

  found_behind : (best : Option StandingOf) (x : StandingOf) (xs : List StandingOf) (s : StandingOf) → Found (later_of best x) xs s → Found best (x ∷ xs) s
  found_behind best x xs s f = record {
    before = x ∷ f.before;
    behind = f.behind;
    whole = ap (λ (r : List StandingOf). x ∷ r) f.whole;
    passes = f.passes;
    over_best = λ b e. below_both.1 b e;
    over_before = λ t c p. elim (cases_cons x t f.before c) [
      | inl e ↦ subst (λ (z : StandingOf). At z < At s) e below_both.0
      | inr d ↦ f.over_before t d p
    ];
    over_behind = f.over_behind;
  }
    where
      both : (o : Option StandingOf) → ((b : StandingOf) → later_of o x ≡ Some b → At b < At s) → (At x < At s) × ((b : StandingOf) → o ≡ Some b → At b < At s)
      both None h = (h x refl, λ b e. cc)
      both (Some b) h = by (nat_lt (At b) (At x)) refl h
        where
          by : (t : Bool) → nat_lt (At b) (At x) ≡ t → ((d : StandingOf) → (if t then Some x else Some b) ≡ Some d → At d < At s) → (At x < At s) × ((d : StandingOf) → Some b ≡ Some d → At d < At s)
          by true l g =
              let own = g x refl in
              let less : At b < At s = grind (arith, nat_tests, l, own) in
              (own, λ d e. let one : b ≡ d = cc in subst (λ (z : StandingOf). At z < At s) one less)
          by false l g =
              let own = g b refl in
              let less : At x < At s = grind (arith, nat_tests, l, own) in
              (less, λ d e. let one : b ≡ d = cc in subst (λ (z : StandingOf). At z < At s) one own)

      below_both : (At x < At s) × ((b : StandingOf) → best ≡ Some b → At b < At s)
      below_both = both best f.over_best

  skipped : (best : Option StandingOf) (x : StandingOf) (xs : List StandingOf) (s : StandingOf) → test x ≡ false → Found best xs s → Found best (x ∷ xs) s
  skipped best x xs s not_so f = record {
    before = x ∷ f.before;
    behind = f.behind;
    whole = ap (λ (r : List StandingOf). x ∷ r) f.whole;
    passes = f.passes;
    over_best = f.over_best;
    over_before = λ t c p. elim (cases_cons x t f.before c) [
      | inl e ↦ absurd (let bad : true ≡ false = sym p ∙ ap test (sym e) ∙ not_so in cc)
      | inr d ↦ f.over_before t d p
    ];
    over_behind = f.over_behind;
  }

  stayed : (best : Option StandingOf) (x : StandingOf) (xs : List StandingOf) (s : StandingOf) → test x ≡ true → Stays (later_of best x) xs s → Stays best (x ∷ xs) s ⊎ Found best (x ∷ xs) s
  stayed best x xs s so h = elim (which best x s h.is).either [
    | inl now ↦ inr (record {
      before = [];
      behind = xs;
      whole = ap (λ (z : StandingOf). z ∷ xs) (sym now.0);
      passes = ap test now.0 ∙ so;
      over_best = λ b e. subst (λ (z : StandingOf). At b < At z) (sym now.0) (now.1 b e);
      over_before = λ t c p. nothing_in t c;
      over_behind = h.over;
    })
    | inr old ↦ inl (record {
      is = old.0;
      over = λ t c p. elim (cases_cons x t xs c) [
        | inl e ↦ subst (λ (z : StandingOf). At z ≤ At s) e old.1
        | inr d ↦ h.over t d p
      ];
    })
  ]

  passed_by : (best : Option StandingOf) (x : StandingOf) (xs : List StandingOf) (s : StandingOf) → test x ≡ false → Stays best xs s → Stays best (x ∷ xs) s
  passed_by best x xs s not_so h = record {
    is = h.is;
    over = λ t c p. elim (cases_cons x t xs c) [
      | inl e ↦ absurd (let bad : true ≡ false = sym p ∙ ap test (sym e) ∙ not_so in cc)
      | inr d ↦ h.over t d p
    ];
  }

  chosen : (best : Option StandingOf) (xs : List StandingOf) (s : StandingOf) → begins_last test best xs ≡ Some s → Stays best xs s ⊎ Found best xs s
  chosen best [] s e = inl (record { is = e; over = λ t c p. nothing_in t c })
  chosen best (x ∷ xs) s e = by (test x) refl e (λ o f. chosen o xs s f)
    where
      by : (t : Bool) → test x ≡ t → begins_last test (if t then later_of best x else best) xs ≡ Some s → ((o : Option StandingOf) → begins_last test o xs ≡ Some s → Stays o xs s ⊎ Found o xs s) → Stays best (x ∷ xs) s ⊎ Found best (x ∷ xs) s
      by true so f next = elim (next (later_of best x) f) [
        | inl h ↦ stayed best x xs s so h
        | inr g ↦ inr (found_behind best x xs s g)
      ]
      by false not_so f next = elim (next best f) [
        | inl h ↦ inl (passed_by best x xs s not_so h)
        | inr g ↦ inr (skipped best x xs s not_so g)
      ]

  -- the other way round
  keeps : (s : StandingOf) (xs : List StandingOf) → ((t : StandingOf) → Contains xs t → test t ≡ true → At t ≤ At s) → begins_last test (Some s) xs ≡ Some s
  keeps s [] h = refl
  keeps s (x ∷ xs) h = by (test x) refl (keeps s xs (λ t c p. h t (later x t xs c) p))
    where
      by : (t : Bool) → test x ≡ t → begins_last test (Some s) xs ≡ Some s → begins_last test (if t then later_of (Some s) x else Some s) xs ≡ Some s
      by true so next = ap (λ (o : Option StandingOf). begins_last test o xs) (best_stays s x (h x (first x x xs refl) so)) ∙ next
      by false not_so next = next

  reaches : (best : Option StandingOf) (before behind : List StandingOf) (s : StandingOf) → test s ≡ true → ((b : StandingOf) → best ≡ Some b → At b < At s) → ((t : StandingOf) → Contains before t → test t ≡ true → At t < At s) →
      ((t : StandingOf) → Contains behind t → test t ≡ true → At t ≤ At s) → begins_last test best (before ++ s ∷ behind) ≡ Some s
  reaches best [] behind s so over h k =
      ap (λ (t : Bool). begins_last test (if t then later_of best s else best) behind) so
      ∙ ap (λ (o : Option StandingOf). begins_last test o behind) (later_wins best s over)
      ∙ keeps s behind k
  reaches best (x ∷ before) behind s so over h k = by (test x) refl (λ o over_o. reaches o before behind s so over_o (λ t c p. h t (later x t before c) p) k)
    where
      under : (o : Option StandingOf) → ((b : StandingOf) → o ≡ Some b → At b < At s) → At x < At s → (b : StandingOf) → later_of o x ≡ Some b → At b < At s
      under o over_o l b e = elim (which o x b e).either [
        | inl now ↦ subst (λ (z : StandingOf). At z < At s) (sym now.0) l
        | inr old ↦ over_o b old.0
      ]

      by : (t : Bool) → test x ≡ t → ((o : Option StandingOf) → ((b : StandingOf) → o ≡ Some b → At b < At s) → begins_last test o (before ++ s ∷ behind) ≡ Some s) → begins_last test (if t then later_of best x else best) (before ++ s ∷ behind) ≡ Some s
      by true now next = next (later_of best x) (under best over (h x (first x x before refl) now))
      by false not_so next = next best over

  none_passes : (best : Option StandingOf) (xs : List StandingOf) → begins_last test best xs ≡ None → (best ≡ None) × ((t : StandingOf) → Contains xs t → test t ≡ true → ⊥)
  none_passes best [] e = (e, λ t c p. nothing_in t c)
  none_passes best (x ∷ xs) e = by (test x) refl e (λ o f. none_passes o xs f)
    where
      by : (t : Bool) → test x ≡ t → begins_last test (if t then later_of best x else best) xs ≡ None → ((o : Option StandingOf) → begins_last test o xs ≡ None → (o ≡ None) × ((t : StandingOf) → Contains xs t → test t ≡ true → ⊥)) →
          (best ≡ None) × ((t : StandingOf) → Contains (x ∷ xs) t → test t ≡ true → ⊥)
      by true so f next = absurd (never_none best x (next (later_of best x) f).0)
      by false not_so f next =
          let r = next best f in (
            r.0,
            λ t c p. elim (cases_cons x t xs c) [
              | inl e ↦ let bad : true ≡ false = sym p ∙ ap test (sym e) ∙ not_so in cc
              | inr d ↦ r.1 t d p
            ],
          )

  no_best : (xs : List StandingOf) → ((t : StandingOf) → Contains xs t → test t ≡ true → ⊥) → begins_last test None xs ≡ None
  no_best [] h = refl
  no_best (x ∷ xs) h = by (test x) refl (no_best xs (λ t c p. h t (later x t xs c) p))
    where
      by : (t : Bool) → test x ≡ t → begins_last test None xs ≡ None → begins_last test (if t then later_of None x else None) xs ≡ None
      by true so next = absurd (h x (first x x xs refl) so)
      by false not_so next = next

-- ---- what passes holds the range

module _ (kind : Head Span → Bool) (range : Span) where
  to_holds : (s : StandingOf) → is_meant kind range s ≡ true → Holds kind range s
  to_holds s e =
      let place : Span = head_place s.selection.label in
      let parts = and_parts (kind s.selection.label) (nat_le place.start range.start && nat_le range.end place.end) e in
      let ends = and_parts (nat_le place.start range.start) (nat_le range.end place.end) parts.1 in
      record { is_kind = parts.0; from = at_most place.start range.start ends.0; to = at_most range.end place.end ends.1 }
    where
      at_most : (a b : ℕ) → nat_le a b ≡ true → a ≤ b
      at_most a b t = grind (arith, nat_tests, t)

  from_holds : (s : StandingOf) → Holds kind range s → is_meant kind range s ≡ true
  from_holds s h =
      let place : Span = head_place s.selection.label in
      and_both (kind s.selection.label) (nat_le place.start range.start && nat_le range.end place.end) h.is_kind
      (and_both (nat_le place.start range.start) (nat_le range.end place.end) (tested place.start range.start h.from) (tested range.end place.end h.to))
    where
      tested : (a b : ℕ) → a ≤ b → nat_le a b ≡ true
      tested a b l = grind (arith, nat_tests, l)

pub last_is_meant : LastIsMeant
last_is_meant kind range sets s = (
  λ e. elim (chosen (is_meant kind range) None (standing sets) s e) [
    | inl h ↦ let impossible : ◌≡◌ {A = Option StandingOf} None (Some s) = h.is in absurd (cc)
    | inr f ↦ record {
      before = f.before;
      behind = f.behind;
      whole = f.whole;
      holds = to_holds kind range s f.passes;
      later_than_before = λ t c h. f.over_before t c (from_holds kind range t h);
      none_later_behind = λ t c h. f.over_behind t c (from_holds kind range t h);
    }
  ],
  λ b. ap (begins_last (is_meant kind range) None) b.whole
      ∙ reaches (is_meant kind range) None b.before b.behind s (from_holds kind range s b.holds) (λ d e. cc) (λ t c p. b.later_than_before t c (to_holds kind range t p)) (λ t c p. b.none_later_behind t c (to_holds kind range t p)),
)

pub nothing_is_meant : NothingIsMeant
nothing_is_meant kind range sets = (
  λ e s c h. (none_passes (is_meant kind range) None (standing sets) e).1 s c (from_holds kind range s h),
  λ none. no_best (is_meant kind range) (standing sets) (λ t c p. none t c (to_holds kind range t p)),
)
