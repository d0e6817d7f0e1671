-- Each pair of entries is compared once: what the marks then say.
use Rattle.std.proofs.Common.{◌≡◌, ◌≢◌, ◌↔◌, ◌⊎◌, inl, inr, ⊎_elim, ℕ, zero, suc, ◌+◌, ◌<◌, ◌≤◌, Bool, true, false, IsTrue, List, [], ◌∷◌, ◌++◌, length, take, get_or, set, Contains, refl, sym, ◌∙◌, ap, subst, arith}
use Rattle.std.specs.List.{list_all}
use Rattle.std.proofs.lemmas.Bool.Decides.{eqb_tells}
use Rattle.std.proofs.lemmas.List.{get_or_default, take_more, take_all, get_or-set_same, get_or-set_other, length-set}
use Rattle.std.proofs.lemmas.List.Elements.{Contains-append_left, Contains-append_right, Contains-append_cases, Contains-push, Contains-push_cases}
use Rattle.gq_names.proofs.RepeatLemmas.{contains_none, contains_first, contains_cases}
use Rattle.gq_names.specs.Repeats.{StandsAt}
use Rattle.gq_text.specs.declared.place.Span.{Span}
use Rattle.gq_tree.specs.Plain.{Val}
use Rattle.gq_merging.specs.SameArguments.{IsArgument, SameArguments}
use Rattle.gq_merging.specs.Helping.Marks.{IsAmong, IsSameAt, IsAmongThese, AreItsPlaces, is_marked, MarksSame, MarksEach, AllFound}

one_stands : {A : Type 0} (xs : List A) (i : ℕ) (x y : A) → StandsAt xs i x → StandsAt xs i y → x ≡ y
one_stands xs i x y h k = sym h.1 ∙ get_or_default xs i x y h.0 ∙ k.1

pub there_at : (ns : List ℕ) (k : ℕ) → k < length ns → Contains ns (get_or ns k 0)
there_at ns k inside = (k, inside, get_or_default ns k (get_or ns k 0) 0 inside)

module _ (a : Val Span) (bs : List (Val Span)) where
  pub marks_begin : (old : List Bool) → MarksSame a bs [] old old
  marks_begin old = record { as_many = refl; are = λ j. ((λ t. inl t), (λ s. ⊎_elim (λ t. t) (λ p. absurd (contains_none j p.0)) s)) }

  pub found_none : IsTrue false ↔ IsAmongThese a bs []
  found_none = ((λ t. absurd (cc)), (λ q. absurd (contains_none q.0 q.1)))

  module _ (ps : List ℕ) (i : ℕ) (b : Val Span) (stands : StandsAt bs i b) where
    -- the entry at the place is compared: it is marked if it is identical, and no other mark changes
    marks_more : (old new then : List Bool) (same : Bool) → (IsTrue same ↔ IsArgument a b) → MarksSame a bs ps old new → length then ≡ length new →
        (IsTrue (is_marked then i) ↔ (IsTrue same ⊎ IsTrue (is_marked new i))) → ((j : ℕ) → j ≢ i → is_marked then j ≡ is_marked new j) → MarksSame a bs (ps ++ i ∷ []) old then
    marks_more old new then same are m long here others = record { as_many = long ∙ m.as_many; are = λ j. ⊎_elim (λ p. at_place j p.1) (λ p. elsewhere j p.1) (eqb_tells j i) }
      where
        from_place : IsTrue (is_marked new i) → IsTrue (is_marked old i) ⊎ (Contains (ps ++ i ∷ []) i × IsSameAt a bs i)
        from_place t = ⊎_elim (λ o. inl o) (λ p. inr (Contains-push ps i, p.1)) ((m.are i).0 t)

        to_place : IsTrue (is_marked old i) ⊎ (Contains (ps ++ i ∷ []) i × IsSameAt a bs i) → IsTrue (is_marked then i)
        to_place s = ⊎_elim (λ o. here.1 (inr ((m.are i).1 (inl o)))) (λ p. here.1 (inl (are.1 (subst (IsArgument a) (one_stands bs i p.1.0 b p.1.1 stands) p.1.2)))) s

        at_place : (j : ℕ) → j ≡ i → IsTrue (is_marked then j) ↔ (IsTrue (is_marked old j) ⊎ (Contains (ps ++ i ∷ []) j × IsSameAt a bs j))
        at_place j e = subst (λ k. IsTrue (is_marked then k) ↔ (IsTrue (is_marked old k) ⊎ (Contains (ps ++ i ∷ []) k × IsSameAt a bs k))) (sym e)
            ((λ t. ⊎_elim (λ s. inr (Contains-push ps i, (b, stands, are.0 s))) from_place (here.0 t)), to_place)

        elsewhere : (j : ℕ) → j ≢ i → IsTrue (is_marked then j) ↔ (IsTrue (is_marked old j) ⊎ (Contains (ps ++ i ∷ []) j × IsSameAt a bs j))
        elsewhere j n = (
          (λ t. ⊎_elim (λ o. inl o) (λ p. inr (Contains-append_left ps (i ∷ []) j p.0, p.1)) ((m.are j).0 (sym (others j n) ∙ t))),
          (λ s. others j n ∙ (m.are j).1 (⊎_elim (λ o. inl o) (λ p. inr (⊎_elim (λ c. c) (λ e. absurd (n (sym e))) (Contains-push_cases ps i j p.0), p.1)) s)),
        )

    pub marks_set : (old new : List Bool) → IsArgument a b → i < length new → MarksSame a bs ps old new → MarksSame a bs (ps ++ i ∷ []) old (set new i true)
    marks_set old new is inside m = marks_more old new (set new i true) true ((λ t. is), (λ t. refl)) m (length-set new i true)
        ((λ t. inl refl), (λ s. get_or-set_same new i true false inside)) (λ j n. get_or-set_other new i j true false n)

    pub marks_kept : (old new : List Bool) (same : Bool) → (IsTrue same ↔ IsArgument a b) → same ≡ false → MarksSame a bs ps old new → MarksSame a bs (ps ++ i ∷ []) old new
    marks_kept old new same are apart m = marks_more old new new same are m refl ((λ t. inr t), (λ s. ⊎_elim (λ t. absurd (cc)) (λ t. t) s)) (λ j n. refl)

    pub found_here : IsArgument a b → IsTrue true ↔ IsAmongThese a bs (ps ++ i ∷ [])
    found_here is = ((λ t. (i, Contains-push ps i, (b, stands, is))), (λ h. refl))

    pub found_kept : (found same : Bool) → (IsTrue same ↔ IsArgument a b) → same ≡ false → IsTrue found ↔ IsAmongThese a bs ps → IsTrue found ↔ IsAmongThese a bs (ps ++ i ∷ [])
    found_kept found same are apart h = (
      (λ t. let q = h.0 t in (q.0, Contains-append_left ps (i ∷ []) q.0 q.1, q.2)),
      (λ q. ⊎_elim
          (λ c. h.1 (q.0, c, q.2))
          (λ e. absurd (true_false (are.1 (subst (IsArgument a) (one_stands bs i q.2.0 b (subst (λ k. StandsAt bs k q.2.0) (sym e) q.2.1) stands) q.2.2)) apart))
          (Contains-push_cases ps i q.0 q.1)),
    )
      where
        true_false : {b : Bool} → b ≡ true → b ≡ false → ⊥
        true_false t f = cc

  -- where no other entries are identical
  module _ (ps : List ℕ) (its : AreItsPlaces a bs ps) where
    pub marks_end : (old new : List Bool) → MarksSame a bs ps old new → MarksEach a bs old new
    marks_end old new m = record {
      as_many = m.as_many;
      are = λ j. (
        (λ t. ⊎_elim inl (λ p. inr p.1) ((m.are j).0 t)),
        (λ s. (m.are j).1 (⊎_elim inl (λ is. inr (its.each j is, is)) s)),
      );
    }

    pub found_end : (found : Bool) → IsTrue found ↔ IsAmongThese a bs ps → IsTrue found ↔ IsAmong a bs
    found_end found h = (
      (λ t. let q = h.0 t in (q.2.0, (q.0, q.2.1.0, q.2.1.1), q.2.2)),
      (λ q. let is : IsSameAt a bs q.1.0 = (q.0, (q.1.1, q.1.2), q.2) in h.1 (q.1.0, its.each q.1.0 is, is)),
    )

-- one more entry has found an identical one
all_more : (xs bs : List (Val Span)) (a : Val Span) (old new : List Bool) → AllFound xs bs old → IsAmong a bs → MarksEach a bs old new → AllFound (xs ++ a ∷ []) bs new
all_more xs bs a old new h is m = record {
  found = λ x k. ⊎_elim (λ p. h.found x p) (λ p. subst (λ z. IsAmong z bs) (last x p) is) (Contains-append_cases xs (a ∷ []) x k);
  as_many = m.as_many ∙ h.as_many;
  marked = λ j. (
    (λ t. ⊎_elim (λ o. let q = (h.marked j).0 o in (q.0, Contains-append_left xs (a ∷ []) q.0 q.1, q.2)) (λ p. (a, Contains-append_right xs (a ∷ []) a (contains_first a [] a refl), p)) ((m.are j).0 t)),
    (λ q. (m.are j).1 (⊎_elim (λ p. inl ((h.marked j).1 (q.0, p, q.2))) (λ p. inr (subst (λ z. IsSameAt z bs j) (sym (last q.0 p)) q.2)) (Contains-append_cases xs (a ∷ []) q.0 q.1))),
  );
}
  where
    last : (x : Val Span) → Contains (a ∷ []) x → a ≡ x
    last x p = ⊎_elim (λ e. e) (λ f. absurd (contains_none x f)) (contains_cases a [] x p)

-- the same for the entry that stands next in a list
pub all_more_at : (xs bs : List (Val Span)) (i : ℕ) (a : Val Span) (old new : List Bool) → StandsAt xs i a → AllFound (take i xs) bs old → IsAmong a bs → MarksEach a bs old new → AllFound (take (i + 1) xs) bs new
all_more_at xs bs i a old new stands h is m =
    subst (λ ys. AllFound ys bs new) (sym (take_more xs i a stands.0 ∙ ap (λ y. take i xs ++ y ∷ []) stands.1)) (all_more (take i xs) bs a old new h is m)

-- all marks are set exactly if the sets are one
marks_all : (marks : List Bool) → list_all (λ m. m) marks ≡ true → (j : ℕ) → j < length marks → is_marked marks j ≡ true
marks_all [] h j k = absurd (omega (arith, k))
marks_all (true ∷ marks) h zero k = refl
marks_all (true ∷ marks) h (suc j) k = marks_all marks h j (omega (arith, k))
marks_all (false ∷ marks) h j k = absurd (cc)

all_marks : (marks : List Bool) → ((j : ℕ) → j < length marks → is_marked marks j ≡ true) → list_all (λ m. m) marks ≡ true
all_marks [] h = refl
all_marks (true ∷ marks) h = all_marks marks (λ j k. h (suc j) (omega (arith, k)))
all_marks (false ∷ marks) h = h 0 (omega arith)

sets_marked : (xs bs : List (Val Span)) (marks : List Bool) (all : Bool) → AllFound xs bs marks → all ≡ list_all (λ m. m) marks → IsTrue all ↔ SameArguments xs bs
sets_marked xs bs marks all h is = (
  (λ t. record {
    given = h.found;
    others = λ b k. let q = (h.marked k.0).0 (marks_all marks (sym is ∙ t) k.0 (subst (λ n. k.0 < n) (sym h.as_many) k.1)) in
        (q.0, q.1, subst (IsArgument q.0) (one_stands bs k.0 q.2.0 b q.2.1 (k.1, k.2)) q.2.2);
  }),
  (λ s. is ∙ all_marks marks (λ j k. (h.marked j).1 (by s j (subst (λ n. j < n) h.as_many k)))),
)
  where
    by : SameArguments xs bs → (j : ℕ) → j < length bs → (a : Val Span) × Contains xs a × IsSameAt a bs j
    by s j k = by_item s j k (fault bs j k)
      where
        fault : (ys : List (Val Span)) (i : ℕ) → i < length ys → (b : Val Span) × StandsAt ys i b
        fault [] i l = absurd (omega (arith, l))
        fault (y ∷ ys) zero l = (y, (omega arith, refl))
        fault (y ∷ ys) (suc i) l = let q = fault ys i (omega (arith, l)) in (q.0, (omega (arith, q.1.0), q.1.1))

        by_item : SameArguments xs bs → (j : ℕ) → j < length bs → (b : Val Span) × StandsAt bs j b → (a : Val Span) × Contains xs a × IsSameAt a bs j
        by_item s j k b = let q = s.others b.0 (j, b.1.0, b.1.1) in (q.0, q.1, (b.0, b.1, q.2))

pub sets_marked_at_end : (xs bs : List (Val Span)) (i : ℕ) (marks : List Bool) (all : Bool) → length xs ≤ i → AllFound (take i xs) bs marks → all ≡ list_all (λ m. m) marks → IsTrue all ↔ SameArguments xs bs
sets_marked_at_end xs bs i marks all end h is = sets_marked xs bs marks all (subst (λ ys. AllFound ys bs marks) (take_all i xs end) h) is
