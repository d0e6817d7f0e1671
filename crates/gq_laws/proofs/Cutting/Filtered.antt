-- The definition of a place is left out of the trees of a document, and it alone.
use Rattle.std.proofs.Common.{◌≡◌, ℕ, zero, suc, ◌<◌, ◌≤◌, Bool, true, false, not, cond, List, [], ◌∷◌, Some, filter, refl, ap, ◌∙◌, arith, nat_eq}
use Rattle.std.specs.Prelude.{◌&&◌}
use Rattle.std.proofs.lemmas.Bool.Decides.{nat_tests}
use Rattle.gq_text.specs.declared.place.Span.{Span}
use Rattle.gq_tree.specs.Plain.{Def, operation, fragment, type_system}
use Rattle.gq_rewritten.specs.Rewrites.{same_place, executable_place, is_kept}
use Rattle.gq_laws.specs.Rewriting.Places.{AreInPlace}
use Rattle.gq_laws.proofs.Cutting.DocumentHoles.{IsAt}
use Rattle.gq_laws.proofs.Cutting.Ways.{same_itself, other_start}
use Rattle.gq_laws.proofs.Cutting.Dropped.{without}

lower : (low from : ℕ) (ds : List (Def Span)) → low ≤ from → AreInPlace from ds → AreInPlace low ds
lower low from [] l all = tt
lower low from (operation kind name variables directives set braces place ∷ ds) l all = (omega (arith, l, all.0), all.1, all.2, all.3)
lower low from (fragment name on directives set braces place ∷ ds) l all = (omega (arith, l, all.0), all.1, all.2, all.3)
lower low from (type_system one ∷ ds) l all = lower low from ds l all

-- definitions stay in place where one of them goes
pub without_in_place : (n from : ℕ) (ds : List (Def Span)) → AreInPlace from ds → AreInPlace from (without n ds)
without_in_place n from [] all = tt
without_in_place zero from (operation kind name variables directives set braces place ∷ ds) all = lower from place.end ds (omega (arith, all.0, all.1)) all.3
without_in_place zero from (fragment name on directives set braces place ∷ ds) all = lower from place.end ds (omega (arith, all.0, all.1)) all.3
without_in_place zero from (type_system one ∷ ds) all = all
without_in_place (suc n) from (operation kind name variables directives set braces place ∷ ds) all = (all.0, all.1, all.2, without_in_place n place.end ds all.3)
without_in_place (suc n) from (fragment name on directives set braces place ∷ ds) all = (all.0, all.1, all.2, without_in_place n place.end ds all.3)
without_in_place (suc n) from (type_system one ∷ ds) all = without_in_place n from ds all

-- the numbers of the others
pub at_behind : (m n : ℕ) (d : Def Span) (ds : List (Def Span)) → m ≤ n → IsAt d (suc n) ds → IsAt d n (without m ds)
at_behind m n d [] l i = absurd i
at_behind zero n d (x ∷ ds) l i = i
at_behind (suc m) zero d (x ∷ ds) l i = absurd (omega (arith, l))
at_behind (suc m) (suc n) d (x ∷ ds) l i = at_behind m n d ds (omega (arith, l)) i

pub at_before : (n m : ℕ) (d : Def Span) (ds : List (Def Span)) → n ≤ m → IsAt d n ds → IsAt d n (without (suc m) ds)
at_before n m d [] l i = absurd i
at_before zero m d (x ∷ ds) l i = i
at_before (suc n) zero d (x ∷ ds) l i = absurd (omega (arith, l))
at_before (suc n) (suc m) d (x ∷ ds) l i = at_before n m d ds (omega (arith, l)) i

module _ (file : ℕ) (p : Span) where
  abbrev keep : Def Span → Bool
  keep = is_kept (Some (record { file = file; place = p })) file

  same_file : nat_eq file file ≡ true
  same_file = grind (arith, nat_tests)

  tested : (d : Def Span) (q : Span) (b : Bool) → executable_place d ≡ Some q → same_place p q ≡ b → keep d ≡ not b
  tested (operation kind name variables directives set braces place) q b e same =
      let is : place ≡ q = cc in ap (λ (z : Bool). not (z && same_place p place)) same_file ∙ ap (λ (z : Span). not (same_place p z)) is ∙ ap not same
  tested (fragment name on directives set braces place) q b e same =
      let is : place ≡ q = cc in ap (λ (z : Bool). not (z && same_place p place)) same_file ∙ ap (λ (z : Span). not (same_place p z)) is ∙ ap not same
  tested (type_system one) q b e same = absurd (cc)

  type_stays : (file' : ℕ) → not (nat_eq file' file' && false) ≡ true
  type_stays file' = by (nat_eq file' file')
    where
      by : (b : Bool) → not (b && false) ≡ true
      by true = refl
      by false = refl

  filtered : (d : Def Span) (ds : List (Def Span)) (b : Bool) → keep d ≡ b → filter keep (d ∷ ds) ≡ cond b (d ∷ filter keep ds) (filter keep ds)
  filtered d ds b e = ap (λ (z : Bool). cond z (d ∷ filter keep ds) (filter keep ds)) e

  stays : (d : Def Span) (ds : List (Def Span)) (q : Span) → executable_place d ≡ Some q → (p.start ≡ q.start → ⊥) → filter keep (d ∷ ds) ≡ d ∷ filter keep ds
  stays d ds q e other = filtered d ds true (tested d q false e (other_start p q other))

  all_behind : (from : ℕ) (ds : List (Def Span)) → p.start < from → AreInPlace from ds → filter keep ds ≡ ds
  all_behind from [] l all = refl
  all_behind from (operation kind name variables directives set braces place ∷ ds) l all =
      stays (operation kind name variables directives set braces place) ds place refl (λ e. omega (arith, e, l, all.0))
      ∙ ap (λ (z : List (Def Span)). operation kind name variables directives set braces place ∷ z) (all_behind place.end ds (omega (arith, l, all.0, all.1)) all.3)
  all_behind from (fragment name on directives set braces place ∷ ds) l all =
      stays (fragment name on directives set braces place) ds place refl (λ e. omega (arith, e, l, all.0))
      ∙ ap (λ (z : List (Def Span)). fragment name on directives set braces place ∷ z) (all_behind place.end ds (omega (arith, l, all.0, all.1)) all.3)
  all_behind from (type_system one ∷ ds) l all = filtered (type_system one) ds true (type_stays file) ∙ ap (λ (z : List (Def Span)). type_system one ∷ z) (all_behind from ds l all)

  stands : (n : ℕ) (d : Def Span) (from : ℕ) (ds : List (Def Span)) → IsAt d n ds → executable_place d ≡ Some p → AreInPlace from ds → from ≤ p.start
  stands n d from [] i e all = absurd i
  stands zero d from (operation kind name variables directives set braces place ∷ ds) i e all =
      let f : executable_place (operation kind name variables directives set braces place) ≡ Some p = ap executable_place i ∙ e in let is : place ≡ p = cc in
      let q : place.start ≡ p.start = ap (λ (z : Span). z.start) is in omega (arith, q, all.0)
  stands zero d from (fragment name on directives set braces place ∷ ds) i e all =
      let f : executable_place (fragment name on directives set braces place) ≡ Some p = ap executable_place i ∙ e in let is : place ≡ p = cc in
      let q : place.start ≡ p.start = ap (λ (z : Span). z.start) is in omega (arith, q, all.0)
  stands zero d from (type_system one ∷ ds) i e all = let f : executable_place (type_system one) ≡ Some p = ap executable_place i ∙ e in absurd (cc)
  stands (suc n) d from (operation kind name variables directives set braces place ∷ ds) i e all = let s = stands n d place.end ds i e all.3 in omega (arith, s, all.0, all.1)
  stands (suc n) d from (fragment name on directives set braces place ∷ ds) i e all = let s = stands n d place.end ds i e all.3 in omega (arith, s, all.0, all.1)
  stands (suc n) d from (type_system one ∷ ds) i e all = stands n d from ds i e all

  goes : (d : Def Span) (ds : List (Def Span)) (q : Span) → executable_place d ≡ Some q → q ≡ p → filter keep (d ∷ ds) ≡ filter keep ds
  goes d ds q e is = filtered d ds false (tested d q true e (ap (λ (z : Span). same_place p z) is ∙ same_itself p))

  -- it goes, and it alone
  pub is_without : (n : ℕ) (d : Def Span) (from : ℕ) (ds : List (Def Span)) → IsAt d n ds → executable_place d ≡ Some p → AreInPlace from ds → filter keep ds ≡ without n ds
  is_without n d from [] i e all = absurd i
  is_without zero d from (operation kind name variables directives set braces place ∷ ds) i e all =
      let f : executable_place (operation kind name variables directives set braces place) ≡ Some p = ap executable_place i ∙ e in
      let is : place ≡ p = cc in
      let q : place.start ≡ p.start = ap (λ (z : Span). z.start) is in
      goes (operation kind name variables directives set braces place) ds place refl is ∙ all_behind place.end ds (omega (arith, q, all.1)) all.3
  is_without zero d from (fragment name on directives set braces place ∷ ds) i e all =
      let f : executable_place (fragment name on directives set braces place) ≡ Some p = ap executable_place i ∙ e in
      let is : place ≡ p = cc in
      let q : place.start ≡ p.start = ap (λ (z : Span). z.start) is in
      goes (fragment name on directives set braces place) ds place refl is ∙ all_behind place.end ds (omega (arith, q, all.1)) all.3
  is_without zero d from (type_system one ∷ ds) i e all = let f : executable_place (type_system one) ≡ Some p = ap executable_place i ∙ e in absurd (cc)
  is_without (suc n) d from (operation kind name variables directives set braces place ∷ ds) i e all =
      let s = stands n d place.end ds i e all.3 in
      stays (operation kind name variables directives set braces place) ds place refl (λ q. omega (arith, q, s, all.1))
      ∙ ap (λ (z : List (Def Span)). operation kind name variables directives set braces place ∷ z) (is_without n d place.end ds i e all.3)
  is_without (suc n) d from (fragment name on directives set braces place ∷ ds) i e all =
      let s = stands n d place.end ds i e all.3 in
      stays (fragment name on directives set braces place) ds place refl (λ q. omega (arith, q, s, all.1))
      ∙ ap (λ (z : List (Def Span)). fragment name on directives set braces place ∷ z) (is_without n d place.end ds i e all.3)
  is_without (suc n) d from (type_system one ∷ ds) i e all =
      filtered (type_system one) ds true (type_stays file) ∙ ap (λ (z : List (Def Span)). type_system one ∷ z) (is_without n d from ds i e all)
