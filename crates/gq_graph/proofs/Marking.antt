-- The list that grows, and its marks.
use Rattle.std.proofs.Common.{ℕ, zero, suc, ◌+◌, ◌≤◌, ◌<◌, ◌≡◌, List, [], ◌∷◌, ◌++◌, Bool, true, false, length, take, sym, ◌∙◌, ap, subst, arith, inl, inr, get_or, set, take-suc, append-nil, add-one, replicate}
use Rattle.std.specs.Prelude.{Contains}
use Rattle.std.proofs.lemmas.List.{get_or-set_same, get_or-set_other, length-set, length-append, append_assoc, get_or_past, length-replicate, get_or-replicate, get_or_append_left, get_or_push, get_or_default}
use Rattle.std.proofs.lemmas.List.Elements.{Contains-append_left, Contains-append_right, Contains-push, All-nil, All-push, All-append, All-weaker, All-contains}
use Rattle.std.proofs.lemmas.Bool.{cases_eq, cases_lt, false≢true}
use Rattle.gq_graph.specs.Reach.{NoneTwice}
use Rattle.gq_graph.specs.Helping.Found.{count_marked, Marked, Grown, Added}

pub count_le : (s : List Bool) → count_marked s ≤ length s
count_le [] = omega arith
count_le (true ∷ s) = omega (arith, count_le s)
count_le (false ∷ s) = omega (arith, count_le s)

pub count_set : (s : List Bool) (i : ℕ) → i < length s → get_or s i false ≡ false → count_marked (set s i true) ≡ suc (count_marked s)
count_set [] i b e = absurd (omega (arith, b))
count_set (true ∷ s) zero b e = cc
count_set (false ∷ s) zero b e = omega arith
count_set (true ∷ s) (suc i) b e = omega (arith, count_set s i (omega (arith, b)) e)
count_set (false ∷ s) (suc i) b e = count_set s i (omega (arith, b)) e

-- a number that is not in the list stands behind it without a repetition
pub once_push : (ns : List ℕ) (n : ℕ) → NoneTwice ns → (Contains ns n → ⊥) → NoneTwice (ns ++ n ∷ [])
once_push ns n h new i j lt b =
    let e : length (ns ++ n ∷ []) ≡ length ns + 1 = length-append ns (n ∷ []) in
    let i_in : i < length ns = omega (arith, e, lt, b) in
    let at_i : get_or (ns ++ n ∷ []) i 0 ≡ get_or ns i 0 = get_or_append_left ns (n ∷ []) 0 i i_in in
    elim (cases_lt j (length ns)) [
      | inl j_in ↦ λ q. h i j lt j_in (sym at_i ∙ q ∙ get_or_append_left ns (n ∷ []) 0 j j_in)
      | inr j_out ↦ λ q. new (
        i,
        i_in,
        let last : get_or (ns ++ n ∷ []) j 0 ≡ n = get_or_push ns n 0 j (omega (arith, e, b, j_out)) in
            let is_n : get_or ns i 0 ≡ n = sym at_i ∙ q ∙ last in
            get_or_default ns i n 0 i_in ∙ is_n,
      )
    ]

-- what is in the list is marked
pub marked_at : (seen : List Bool) (found : List ℕ) (n : ℕ) → Marked seen found → Contains found n → get_or seen n false ≡ true
marked_at seen found n m h = All-contains (λ k. get_or seen k false ≡ true) found n m.marked h

pub visit_marked : (seen : List Bool) (found : List ℕ) (n : ℕ) →
    Marked seen found → n < length seen → get_or seen n false ≡ false → Marked (set seen n true) (found ++ n ∷ [])
visit_marked seen found n m b e = record {
  listed = λ k h. elim (cases_eq k n) [
    | inl q ↦ subst (λ j. Contains (found ++ n ∷ []) j) (sym q) (Contains-push found n)
    | inr q ↦ Contains-append_left found (n ∷ []) k (m.listed k (sym (get_or-set_other seen n k true false q) ∙ h))
  ];
  marked = All-push (λ k. get_or (set seen n true) k false ≡ true) found n
      (All-weaker (λ k. get_or seen k false ≡ true) (λ k. get_or (set seen n true) k false ≡ true)
      (λ k h. elim (cases_eq k n) [
        | inl q ↦ subst (λ j. get_or (set seen n true) j false ≡ true) (sym q) (get_or-set_same seen n true false b)
        | inr q ↦ get_or-set_other seen n k true false q ∙ h
      ])
      found m.marked)
      (get_or-set_same seen n true false b);
  within = All-weaker (λ k. k < length seen) (λ k. k < length (set seen n true))
      (λ k h. subst (λ l. k < l) (sym (length-set seen n true)) h) (found ++ n ∷ [])
      (All-push (λ k. k < length seen) found n m.within b);
  once = once_push found n m.once (λ h. false≢true (sym e ∙ marked_at seen found n m h));
  few = let e1 : length (found ++ n ∷ []) ≡ length found + 1 = length-append found (n ∷ []) in
      let e2 : count_marked (set seen n true) ≡ suc (count_marked seen) = count_set seen n b e in
      let c : length found ≤ count_marked seen = m.few in
      omega (arith, e1, e2, c);
}

pub marked_none : (n : ℕ) → Marked (replicate n false) []
marked_none n = record {
  listed = λ k h. elim (cases_lt k n) [
    | inl q ↦ absurd (false≢true (sym (get_or-replicate n k false false q) ∙ h))
    | inr q ↦ absurd (false≢true (sym (get_or_past (replicate n false) k false (subst (λ l. l ≤ k) (sym (length-replicate n false)) q)) ∙ h))
  ];
  marked = All-nil (λ k. get_or (replicate n false) k false ≡ true);
  within = All-nil (λ k. k < length (replicate n false));
  once = λ i j lt b. absurd (omega (arith, b));
  few = omega arith;
}

-- more of the numbers taken
pub grown_more : (ns a b c : List ℕ) (n : ℕ) → Grown ns a b → Grown (n ∷ []) b c → Grown (ns ++ n ∷ []) a c
grown_more ns a b c n g h = record {
  added = g.added ++ h.added;
  is = h.is ∙ ap (λ l. l ++ h.added) g.is ∙ append_assoc a g.added h.added;
  taken = All-append (λ k. Contains (ns ++ n ∷ []) k) g.added h.added
      (All-weaker (λ k. Contains ns k) (λ k. Contains (ns ++ n ∷ []) k) (λ k. Contains-append_left ns (n ∷ []) k) g.added g.taken)
      (All-weaker (λ k. Contains (n ∷ []) k) (λ k. Contains (ns ++ n ∷ []) k) (λ k. Contains-append_right ns (n ∷ []) k) h.added h.taken);
  holds = All-append (λ k. Contains c k) ns (n ∷ [])
      (All-weaker (λ k. Contains b k) (λ k. Contains c k)
      (λ k q. subst (λ l. Contains l k) (sym h.is) (Contains-append_left b h.added k q)) ns g.holds)
      h.holds;
}

pub grown_next : (ns a b c : List ℕ) (i n : ℕ) → i < length ns → get_or ns i n ≡ n →
    Grown (take i ns) a b → Grown (n ∷ []) b c → Grown (take (i + 1) ns) a c
grown_next ns a b c i n lt e g h =
    subst (λ l. Grown l a c)
    (sym (ap (λ k. take k ns) (add-one i) ∙ take-suc ns i n lt ∙ ap (λ k. take i ns ++ k ∷ []) e))
    (grown_more (take i ns) a b c n g h)

-- what was in the list stays in it
pub grown_keeps : (ns old new : List ℕ) → Grown ns old new → (n : ℕ) → Contains old n → Contains new n
grown_keeps ns old new g n h = subst (λ k. Contains k n) (sym g.is) (Contains-append_left old g.added n h)

-- one number more is a growth
pub grown_one : (n : ℕ) (old new : List ℕ) → Added n old new → Grown (n ∷ []) old new
grown_one n old new (inl q) = record {
  added = n ∷ [];
  is = q.1;
  taken = All-push (λ k. Contains (n ∷ []) k) [] n (All-nil (λ k. Contains (n ∷ []) k)) (Contains-push [] n);
  holds = All-push (λ k. Contains new k) [] n (All-nil (λ k. Contains new k))
      (subst (λ l. Contains l n) (sym q.1) (Contains-push old n));
}
grown_one n old new (inr q) = record {
  added = [];
  is = q.1 ∙ sym (append-nil old);
  taken = All-nil (λ k. Contains (n ∷ []) k);
  holds = All-push (λ k. Contains new k) [] n (All-nil (λ k. Contains new k)) (subst (λ l. Contains l n) (sym q.1) q.0);
}

-- a number is new if it is not marked
pub added_new : (seen : List Bool) (old new : List ℕ) (n : ℕ) → Marked seen old → get_or seen n false ≡ false →
    new ≡ old ++ n ∷ [] → Added n old new
added_new seen old new n m e q = inl ((λ h. false≢true (sym e ∙ marked_at seen old n m h)), q)
