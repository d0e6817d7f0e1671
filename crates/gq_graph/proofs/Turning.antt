-- A table that is turned round, row by row.
use Rattle.std.proofs.Common.{ℕ, zero, suc, ◌+◌, ◌≤◌, ◌<◌, ◌≡◌, List, [], ◌∷◌, ◌++◌, length, take, sym, ◌∙◌, ap, subst, refl, arith, inl, inr, get_or, set, take-suc, add-one}
use Rattle.std.specs.Prelude.{Contains, All}
use Rattle.std.specs.declared.vec.Vec.{Vec}
use Rattle.std.specs.declared.alloc.Global.{Global}
use Rattle.std.proofs.lemmas.List.Elements.{Contains-append_left, Contains-append_right, Contains-push, Contains-push_cases, Contains-get_or, All-nil, All-append, All-weaker, All-contains, All-cons, All-head, All-tail}
use Rattle.std.proofs.lemmas.Bool.{cases_eq, cases_lt}
use Rattle.gq_graph.specs.Reach.{row, InRange}
use Rattle.gq_graph.specs.Transposed.{Put, Transposed}
use Rattle.gq_graph.proofs.Searching.{row_at}
use Rattle.gq_graph.proofs.Ways.{contains_nothing}

-- a number with something in its row has a row
pub row_below : (rows : List (Vec ℕ Global)) (m n : ℕ) → Contains (row rows m) n → m < length rows
row_below [] m n h = absurd (contains_nothing n h)
row_below (v ∷ vs) zero n h = omega arith
row_below (v ∷ vs) (suc m) n h = omega (arith, row_below vs m n h)

pub row_set_same : (rows : List (Vec ℕ Global)) (k : ℕ) (v : Vec ℕ Global) → k < length rows → row (set rows k v) k ≡ v.items
row_set_same [] k v lt = absurd (omega (arith, lt))
row_set_same (w ∷ ws) zero v lt = refl
row_set_same (w ∷ ws) (suc k) v lt = row_set_same ws k v (omega (arith, lt))

pub row_set_other : (rows : List (Vec ℕ Global)) (k j : ℕ) (v : Vec ℕ Global) → (j ≡ k → ⊥) → row (set rows k v) j ≡ row rows j
row_set_other [] k j v ne = refl
row_set_other (w ∷ ws) zero zero v ne = absurd (ne refl)
row_set_other (w ∷ ws) zero (suc j) v ne = refl
row_set_other (w ∷ ws) (suc k) zero v ne = refl
row_set_other (w ∷ ws) (suc k) (suc j) v ne = row_set_other ws k j v (λ e. ne (ap suc e))

-- a number put at the end of one row
pub put_one : (rows : List (Vec ℕ Global)) (place number : ℕ) (d v : Vec ℕ Global) → place < length rows →
    v.items ≡ (get_or rows place d).items ++ number ∷ [] → Put (place ∷ []) number rows (set rows place v)
put_one rows place number d v lt e =
    let same : row (set rows place v) place ≡ row rows place ++ number ∷ [] =
    row_set_same rows place v lt ∙ e ∙ ap (λ l. l ++ number ∷ []) (sym (row_at rows place d lt)) in
    record {
      kept = λ k n h. elim (cases_eq k place) [
        | inl q ↦ subst (λ j. Contains (row (set rows place v) j) n) (sym q)
            (subst (λ l. Contains l n) (sym same) (Contains-append_left (row rows place) (number ∷ []) n (subst (λ j. Contains (row rows j) n) q h)))
        | inr q ↦ subst (λ l. Contains l n) (sym (row_set_other rows place k v q)) h
      ];
      put = All-cons (λ k. Contains (row (set rows place v) k) number) place []
          (subst (λ l. Contains l number) (sym same) (Contains-push (row rows place) number))
          (All-nil (λ k. Contains (row (set rows place v) k) number));
      only = λ k n h. elim (cases_eq k place) [
        | inl q ↦ elim (Contains-push_cases (row rows place) number n
            (subst (λ l. Contains l n) same (subst (λ j. Contains (row (set rows place v) j) n) q h))) [
              | inl old ↦ inl (subst (λ j. Contains (row rows j) n) (sym q) old)
              | inr new ↦ inr (subst (λ j. Contains (place ∷ []) j) (sym q) (Contains-push [] place), sym new)
            ]
        | inr q ↦ inl (subst (λ l. Contains l n) (row_set_other rows place k v q) h)
      ];
    }

put_more : (ps : List ℕ) (p number : ℕ) (a b c : List (Vec ℕ Global)) → Put ps number a b → Put (p ∷ []) number b c →
    Put (ps ++ p ∷ []) number a c
put_more ps p number a b c g h = record {
  kept = λ k n q. h.kept k n (g.kept k n q);
  put = All-append (λ k. Contains (row c k) number) ps (p ∷ [])
      (All-weaker (λ k. Contains (row b k) number) (λ k. Contains (row c k) number) (λ k q. h.kept k number q) ps g.put)
      h.put;
  only = λ k n q. elim (h.only k n q) [
    | inl before ↦ elim (g.only k n before) [
      | inl old ↦ inl old
      | inr new ↦ inr (Contains-append_left ps (p ∷ []) k new.0, new.1)
    ]
    | inr new ↦ inr (Contains-append_right ps (p ∷ []) k new.0, new.1)
  ];
}

pub put_next : (ps : List ℕ) (number i p : ℕ) (a b c : List (Vec ℕ Global)) → i < length ps → get_or ps i p ≡ p →
    Put (take i ps) number a b → Put (p ∷ []) number b c → Put (take (i + 1) ps) number a c
put_next ps number i p a b c lt e g h =
    subst (λ l. Put l number a c)
    (sym (ap (λ k. take k ps) (add-one i) ∙ take-suc ps i p lt ∙ ap (λ k. take i ps ++ k ∷ []) e))
    (put_more (take i ps) p number a b c g h)

-- the first rows are turned
pub record TurnedBelow (rows : List (Vec ℕ Global)) (done : ℕ) (back : List (Vec ℕ Global)) : Type 0 where
  pub count : length back ≡ length rows
  pub sound : (m n : ℕ) → Contains (row back n) m → Contains (row rows m) n
  pub complete : (m n : ℕ) → m < done → Contains (row rows m) n → Contains (row back n) m

empty_row : (rows : List (Vec ℕ Global)) (n : ℕ) → All (λ v. v.items ≡ []) rows → row rows n ≡ []
empty_row [] n h = refl
empty_row (v ∷ vs) zero h = All-head (λ (w : Vec ℕ Global). w.items ≡ []) v vs h
empty_row (v ∷ vs) (suc n) h = empty_row vs n (All-tail (λ (w : Vec ℕ Global). w.items ≡ []) v vs h)

pub turned_starts : (rows back : List (Vec ℕ Global)) → length back ≡ length rows → All (λ v. v.items ≡ []) back →
    TurnedBelow rows 0 back
turned_starts rows back e empty = record {
  count = e;
  sound = λ m n h. absurd (contains_nothing m (subst (λ l. Contains l m) (empty_row back n empty) h));
  complete = λ m n lt h. absurd (omega (arith, lt));
}

pub turned_next : (rows : List (Vec ℕ Global)) (m : ℕ) (old new : List (Vec ℕ Global)) →
    TurnedBelow rows m old → length new ≡ length old → Put (row rows m) m old new → TurnedBelow rows (m + 1) new
turned_next rows m old new t e p = record {
  count = e ∙ t.count;
  sound = λ k n h. elim (p.only n k h) [
    | inl before ↦ t.sound k n before
    | inr anew ↦ subst (λ j. Contains (row rows j) n) (sym anew.1) anew.0
  ];
  complete = λ k n lt h. elim (cases_lt k m) [
    | inl below ↦ p.kept n k (t.complete k n below h)
    | inr above ↦ let q : k ≡ m = omega (arith, lt, above) in
        subst (λ j. Contains (row new n) j) (sym q)
        (All-contains (λ i. Contains (row new i) m) (row rows m) n p.put (subst (λ j. Contains (row rows j) n) q h))
  ];
}

pub turned_ends : (rows : List (Vec ℕ Global)) (done : ℕ) (back : List (Vec ℕ Global)) → TurnedBelow rows done back →
    length rows ≤ done → Transposed rows back
turned_ends rows done back t all = record {
  count = t.count;
  sound = t.sound;
  complete = λ m n h. let b : m < length rows = row_below rows m n h in t.complete m n (omega (arith, b, all)) h;
}

-- a table that is turned round stays in range
pub turned_in_range : (rows back : List (Vec ℕ Global)) → Transposed rows back → InRange back
turned_in_range rows back t k d lt i e b =
    let v : Vec ℕ Global = get_or back k d in
    let at : row back k ≡ v.items = row_at back k d lt in
    let m : ℕ = get_or v.items i e in
    let here : Contains (row back k) m = subst (λ l. Contains l m) (sym at) (Contains-get_or v.items i e b) in
    let below : m < length rows = row_below rows m k (t.sound m k here) in
    subst (λ l. m < l) (sym t.count) below
