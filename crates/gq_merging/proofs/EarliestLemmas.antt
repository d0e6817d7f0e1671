-- The earliest of some fields, one field after the other.
use Rattle.std.proofs.Common.{◌≡◌, ◌↔◌, ◌⊎◌, ⊎_elim, inl, inr, ℕ, ◌+◌, ◌<◌, ◌≤◌, Bool, true, false, IsTrue, List, [], ◌∷◌, ◌++◌, Option, Some, None, Contains, refl, sym, ◌∙◌, subst, arith, take, length, get_or}
use Rattle.std.specs.Option.{option_map}
use Rattle.std.specs.Prelude.{if◌then◌else◌, nat_lt, nat_le, nat_eq, ◌||◌, ◌&&◌}
use Rattle.std.proofs.lemmas.Bool.Decides.{nat_tests}
use Rattle.std.proofs.lemmas.List.Elements.{Contains-push, Contains-push_cases, Contains-append_left}
use Rattle.gq_document.specs.FieldSets.{FieldAt}
use Rattle.gq_merging.specs.FieldsMerge.{IsNoLater}
use Rattle.gq_merging.specs.Helping.Comparisons.{is_no_later}
use Rattle.gq_merging.specs.Helping.SetTables.{MemberOf}
use Rattle.gq_merging.specs.Helping.SearchTables.{IsEarliest, earlier_of}
use Rattle.gq_merging.specs.Helping.Views.{member_view, members_view}
use Rattle.gq_merging.specs.declared.rows.Member.{Member}
use Rattle.gq_merging.proofs.ClassLemmas.{members_more}

-- of two fields one stands no later
later_numbers : (a b c d : ℕ) → (nat_lt a b || (nat_eq a b && nat_le c d)) ≡ true → (a < b) ⊎ ((a ≡ b) × (c ≤ d))
later_numbers a b c d e = grind (arith, nat_tests)

earlier_numbers : (a b c d : ℕ) → (nat_lt a b || (nat_eq a b && nat_le c d)) ≡ false → (b < a) ⊎ ((b ≡ a) × (d ≤ c))
earlier_numbers a b c d e = grind (arith, nat_tests)

pub no_later : (a b : FieldAt) → is_no_later a b ≡ true → IsNoLater a b
no_later a b e = later_numbers a.file b.file a.place.start b.place.start e

pub no_later_other : (a b : FieldAt) → is_no_later a b ≡ false → IsNoLater b a
no_later_other a b e = earlier_numbers a.file b.file a.place.start b.place.start e

pub no_later_on : (a b c : FieldAt) → IsNoLater a b → IsNoLater b c → IsNoLater a c
no_later_on a b c (inl l) (inl k) = inl (omega (arith, l, k))
no_later_on a b c (inl l) (inr k) = inl (let e = k.0 in omega (arith, l, e))
no_later_on a b c (inr l) (inl k) = inl (let e = l.0 in omega (arith, e, k))
no_later_on a b c (inr l) (inr k) = inr (l.0 ∙ k.0, (let e = l.1 in let f = k.1 in omega (arith, e, f)))

module _ (Is : MemberOf → Type 0) (ms : List MemberOf) (m : MemberOf) where
  module _ (decided : (n : MemberOf) → Contains ms n → Is n ⊎ (Is n → ⊥)) (here : Is m ⊎ (Is m → ⊥)) where
    decided_more : (n : MemberOf) → Contains (ms ++ m ∷ []) n → Is n ⊎ (Is n → ⊥)
    decided_more n c = ⊎_elim (decided n) (λ e. subst (λ k. Is k ⊎ (Is k → ⊥)) e here) (Contains-push_cases ms m n c)

  -- one more, which does not count
  skipped : (Is m → ⊥) → (o : Option MemberOf) → IsEarliest Is ms o → IsEarliest Is (ms ++ m ∷ []) o
  skipped apart None h = record {
    decided = decided_more h.decided (inr apart);
    is_one = tt;
    no_later = tt;
    none = λ n c i. ⊎_elim (λ d. h.none n d i) (λ e. apart (subst Is (sym e) i)) (Contains-push_cases ms m n c);
  }
  skipped apart (Some e) h = record {
    decided = decided_more h.decided (inr apart);
    is_one = (Contains-append_left ms (m ∷ []) e h.is_one.0, h.is_one.1);
    no_later = λ n c i. ⊎_elim (λ d. h.no_later n d i) (λ q. absurd (apart (subst Is (sym q) i))) (Contains-push_cases ms m n c);
    none = tt;
  }

  -- one more, which counts
  begun : Is m → IsEarliest Is ms None → IsEarliest Is (ms ++ m ∷ []) (Some m)
  begun i h = record {
    decided = decided_more h.decided (inl i);
    is_one = (Contains-push ms m, i);
    no_later = λ n c k. ⊎_elim (λ d. absurd (h.none n d k)) (λ e. subst (λ q. IsNoLater m.field_at q.field_at) e (inr (refl, omega arith))) (Contains-push_cases ms m n c);
    none = tt;
  }

  kept : (e : MemberOf) → Is m → IsNoLater e.field_at m.field_at → IsEarliest Is ms (Some e) → IsEarliest Is (ms ++ m ∷ []) (Some e)
  kept e i l h = record {
    decided = decided_more h.decided (inl i);
    is_one = (Contains-append_left ms (m ∷ []) e h.is_one.0, h.is_one.1);
    no_later = λ n c k. ⊎_elim (λ d. h.no_later n d k) (λ q. subst (λ (p : MemberOf). IsNoLater e.field_at p.field_at) q l) (Contains-push_cases ms m n c);
    none = tt;
  }

  taken : (e : MemberOf) → Is m → IsNoLater m.field_at e.field_at → IsEarliest Is ms (Some e) → IsEarliest Is (ms ++ m ∷ []) (Some m)
  taken e i l h = record {
    decided = decided_more h.decided (inl i);
    is_one = (Contains-push ms m, i);
    no_later = λ n c k. ⊎_elim (λ d. no_later_on m.field_at e.field_at n.field_at l (h.no_later n d k))
        (λ q. subst (λ (p : MemberOf). IsNoLater m.field_at p.field_at) q (inr (refl, omega arith))) (Contains-push_cases ms m n c);
    none = tt;
  }

  by_place : (e : MemberOf) → Is m → (b : Bool) → is_no_later e.field_at m.field_at ≡ b → IsEarliest Is ms (Some e) → IsEarliest Is (ms ++ m ∷ []) (if b then Some e else Some m)
  by_place e i true l h = kept e i (no_later e.field_at m.field_at l) h
  by_place e i false l h = taken e i (no_later_other e.field_at m.field_at l) h

  pub earlier_goes_on : (counts : Bool) → IsTrue counts ↔ Is m → (o : Option MemberOf) → IsEarliest Is ms o → IsEarliest Is (ms ++ m ∷ []) (earlier_of counts o m)
  earlier_goes_on false are o h = skipped (λ i. let t = are.1 i in absurd (cc)) o h
  earlier_goes_on true are None h = begun (are.0 refl) h
  earlier_goes_on true are (Some e) h = by_place e (are.0 refl) (is_no_later e.field_at m.field_at) refl h

-- along a list
pub earliest_more : (Is : MemberOf → Type 0) (xs : List Member) (i : ℕ) (d : Member) (counts : Bool) (old new : Option Member) → i < length xs → get_or xs i d ≡ d → IsTrue counts ↔ Is (member_view d) →
    option_map member_view new ≡ earlier_of counts (option_map member_view old) (member_view d) → IsEarliest Is (members_view (take i xs)) (option_map member_view old) →
    IsEarliest Is (members_view (take (i + 1) xs)) (option_map member_view new)
earliest_more Is xs i d counts old new l e are is h =
    subst (λ ms. IsEarliest Is ms (option_map member_view new)) (sym (members_more xs i d l e))
    (subst (IsEarliest Is (members_view (take i xs) ++ member_view d ∷ [])) (sym is)
    (earlier_goes_on Is (members_view (take i xs)) (member_view d) counts are (option_map member_view old) h))
