-- A change of selections that begin at one place changes the last ones of one set, and nothing else.
use Rattle.std.proofs.Common.{◌≡◌, ◌⊎◌, inl, inr, ℕ, zero, suc, ◌+◌, ◌<◌, ◌≤◌, List, [], ◌∷◌, ◌++◌, length, map, refl, sym, ap, ◌∙◌, subst, arith, Bool, true, false, nat_eq}
use Rattle.std.specs.Prelude.{◌&&◌, Contains}
use Rattle.std.specs.List.{slice_index_or}
use Rattle.std.proofs.lemmas.List.Elements.{Contains-append_cases}
use Rattle.std.proofs.lemmas.Bool.Decides.{nat_tests}
use Rattle.gq_text.specs.declared.place.Span.{Span}
use Rattle.gq_tree.specs.Forest.{none, more, labels}
use Rattle.gq_tree.specs.Plain.{Head, Sels, Def, operation, fragment, type_system, place_head, no_place, erase_all, erase_document}
use Rattle.gq_rewritten.specs.Rewrites.{Bare, head_place, same_place, with_set}
use Rattle.gq_laws.specs.Rewriting.Places.{AreNested, AreInPlace}
use Rattle.gq_laws.specs.Cutting.Standing.{set_in}
use Rattle.gq_laws.proofs.Cutting.Holes.{Way, here, within, beyond, tail_at, with_tail, none_at}
use Rattle.gq_laws.proofs.Cutting.DocumentHoles.{IsAt, with_definition}

-- a list holds its first element and those of the rest
pub cons_cases : {A : Type 0} (y : A) (ys : List A) (x : A) → Contains (y ∷ ys) x → (y ≡ x) ⊎ Contains ys x
cons_cases {A} y ys x c = by c.0 c.1 c.2
  where
    by : (k : ℕ) → k < length (y ∷ ys) → slice_index_or (y ∷ ys) k x ≡ x → (y ≡ x) ⊎ Contains ys x
    by zero l e = inl e
    by (suc k) l e = inr (k, omega arith, e)

-- a way to a selection
pub record WayTo (ss : Sels Span) (h : Head Span) : Type 0 where
  pub way : Way
  pub below : Sels Span
  pub rest : Sels Span
  pub is : tail_at way ss ≡ more h below rest

pub way_to : (ss : Sels Span) (h : Head Span) → Contains (labels ss) h → WayTo ss h
way_to none h c = absurd (let l = c.1 in omega arith)
way_to (more g b r) h c = by (cons_cases g (labels b ++ labels r) h c) (way_to b h) (way_to r h)
  where
    further : Contains (labels b) h ⊎ Contains (labels r) h → (Contains (labels b) h → WayTo b h) → (Contains (labels r) h → WayTo r h) → WayTo (more g b r) h
    further (inl i) f k = let w = f i in record { way = within w.way; below = w.below; rest = w.rest; is = w.is }
    further (inr i) f k = let w = k i in record { way = beyond w.way; below = w.below; rest = w.rest; is = w.is }

    by : (g ≡ h) ⊎ Contains (labels b ++ labels r) h → (Contains (labels b) h → WayTo b h) → (Contains (labels r) h → WayTo r h) → WayTo (more g b r) h
    by (inl e) f k = record { way = here; below = b; rest = r; is = ap (λ (x : Head Span). more x b r) e }
    by (inr i) f k = further (Contains-append_cases (labels b) (labels r) h i) f k

-- the number of a definition
pub number_of : (ds : List (Def Span)) (d : Def Span) → Contains ds d → (n : ℕ) × IsAt d n ds
number_of [] d c = absurd (let l = c.1 in omega arith)
number_of (e ∷ ds) d c = by (cons_cases e ds d c) (number_of ds d)
  where
    by : (e ≡ d) ⊎ Contains ds d → (Contains ds d → (n : ℕ) × IsAt d n ds) → (n : ℕ) × IsAt d n (e ∷ ds)
    by (inl i) f = (zero, i)
    by (inr i) f = let k = f i in (suc k.0, k.1)

-- what stands at the end of a way is nested
abbrev pub NestedSomewhere : Sels Span → Type 0
NestedSomewhere ss = (from : ℕ) × (to : ℕ) × AreNested from to ss

nested_at : (w : Way) (from to : ℕ) (ss : Sels Span) {h : Head Span} {b r : Sels Span} → tail_at w ss ≡ more h b r → AreNested from to ss → NestedSomewhere (more h b r)
nested_at here from to ss e n = (from, to, subst (AreNested from to) e n)
nested_at (within w) from to none e n = absurd (none_at (within w) e)
nested_at (within w) from to (more g c s) e n = nested_at w ((head_place g).start + 1) (head_place g).end c e n.3
nested_at (beyond w) from to none e n = absurd (none_at (beyond w) e)
nested_at (beyond w) from to (more g c s) e n = nested_at w (head_place g).end to s e n.4

pub nested_in : (w : Way) (n : ℕ) (d : Def Span) (from : ℕ) (ds : List (Def Span)) {h : Head Span} {b r : Sels Span} → IsAt d n ds → tail_at w (set_in d) ≡ more h b r → AreInPlace from ds →
    NestedSomewhere (more h b r)
nested_in w n d from [] i e all = absurd i
nested_in w zero d from (operation kind name variables directives set braces place ∷ ds) i e all = nested_at w place.start place.end set (ap (λ (z : Def Span). tail_at w (set_in z)) i ∙ e) all.2
nested_in w zero d from (fragment name on directives set braces place ∷ ds) i e all = nested_at w place.start place.end set (ap (λ (z : Def Span). tail_at w (set_in z)) i ∙ e) all.2
nested_in w zero d from (type_system one ∷ ds) i e all = absurd (none_at w (ap (λ (z : Def Span). tail_at w (set_in z)) i ∙ e))
nested_in w (suc n) d from (operation kind name variables directives set braces place ∷ ds) i e all = nested_in w n d place.end ds i e all.3
nested_in w (suc n) d from (fragment name on directives set braces place ∷ ds) i e all = nested_in w n d place.end ds i e all.3
nested_in w (suc n) d from (type_system one ∷ ds) i e all = nested_in w n d from ds i e all

-- two places
pub same_itself : (p : Span) → same_place p p ≡ true
same_itself p = grind (arith, nat_tests)

pub other_start : (p q : Span) → (p.start ≡ q.start → ⊥) → same_place p q ≡ false
other_start p q h = by (nat_eq p.start q.start) refl
  where
    by : (b : Bool) → nat_eq p.start q.start ≡ b → same_place p q ≡ false
    by true e = absurd (h (grind (arith, nat_tests)))
    by false e = ap (λ (z : Bool). z && nat_eq p.end q.end) e

-- It does not begin with a range, and does not lie in it.
abbrev pub IsElsewhere : (start end : ℕ) → Head Span → Type 0
IsElsewhere start end g = ((head_place g).start ≡ start → ⊥) × (start ≤ (head_place g).start → (head_place g).end ≤ end → ⊥)

module _ (change : Sels Span → Bare) (start end : ℕ) (is_some : start < end) (nothing : change none ≡ none)
    (passes : (g : Head Span) (c s : Sels Span) → IsElsewhere start end g → change (more g c s) ≡ more (place_head no_place g) (change c) (change s)) where
  -- beside the range nothing changes
  pub off : (from to : ℕ) (ss : Sels Span) → (to ≤ start) ⊎ (end ≤ from) → AreNested from to ss → change ss ≡ erase_all ss
  off from to none beside n = nothing
  off from to (more g c s) (inl before) n =
      let i = off ((head_place g).start + 1) (head_place g).end c (inl (omega (arith, before, n.2))) n.3 in
      let j = off (head_place g).end to s (inl before) n.4 in
      passes g c s (λ e. omega (arith, e, before, n.1, n.2), λ a b. omega (arith, a, before, n.1, n.2))
      ∙ ap (λ (z : Bare). more (place_head no_place g) z (change s)) i ∙ ap (λ (z : Bare). more (place_head no_place g) (erase_all c) z) j
  off from to (more g c s) (inr behind) n =
      let i = off ((head_place g).start + 1) (head_place g).end c (inr (omega (arith, behind, n.0))) n.3 in
      let j = off (head_place g).end to s (inr (omega (arith, behind, n.0, n.1))) n.4 in
      passes g c s (λ e. omega (arith, e, behind, n.0, is_some), λ a b. omega (arith, b, behind, n.0, n.1))
      ∙ ap (λ (z : Bare). more (place_head no_place g) z (change s)) i ∙ ap (λ (z : Bare). more (place_head no_place g) (erase_all c) z) j

  module _ (h : Head Span) (b r : Sels Span) (new : Bare) (stands_first : (from to : ℕ) → AreNested from to (more h b r) → (from ≤ start) × (end ≤ to))
      (becomes : (from to : ℕ) → AreNested from to (more h b r) → change (more h b r) ≡ new) where
    -- where the range stands
    stands : (w : Way) (from to : ℕ) (ss : Sels Span) → tail_at w ss ≡ more h b r → AreNested from to ss → (from ≤ start) × (end ≤ to)
    stands here from to ss e n = stands_first from to (subst (AreNested from to) e n)
    stands (within w) from to none e n = absurd (none_at (within w) e)
    stands (within w) from to (more g c s) e n =
        let i = stands w ((head_place g).start + 1) (head_place g).end c e n.3 in (omega (arith, i.0, n.0), omega (arith, i.1, n.2))
    stands (beyond w) from to none e n = absurd (none_at (beyond w) e)
    stands (beyond w) from to (more g c s) e n =
        let i = stands w (head_place g).end to s e n.4 in (omega (arith, i.0, n.0, n.1), i.1)

    -- the change is that at the end of the way
    pub on : (w : Way) (from to : ℕ) (ss : Sels Span) → tail_at w ss ≡ more h b r → AreNested from to ss → with_tail w new ss ≡ change ss
    on here from to ss e n = sym (ap change e ∙ becomes from to (subst (AreNested from to) e n))
    on (within w) from to none e n = absurd (none_at (within w) e)
    on (within w) from to (more g c s) e n =
        let i = stands w ((head_place g).start + 1) (head_place g).end c e n.3 in
        let x = on w ((head_place g).start + 1) (head_place g).end c e n.3 in
        let y = off (head_place g).end to s (inr i.1) n.4 in
        ap (λ (z : Bare). more (place_head no_place g) z (erase_all s)) x ∙ ap (λ (z : Bare). more (place_head no_place g) (change c) z) (sym y)
        ∙ sym (passes g c s (λ q. omega (arith, q, i.0), λ q p. omega (arith, q, i.0)))
    on (beyond w) from to none e n = absurd (none_at (beyond w) e)
    on (beyond w) from to (more g c s) e n =
        let i = stands w (head_place g).end to s e n.4 in
        let x = on w (head_place g).end to s e n.4 in
        let y = off ((head_place g).start + 1) (head_place g).end c (inl i.0) n.3 in
        ap (λ (z : Bare). more (place_head no_place g) (erase_all c) z) x ∙ ap (λ (z : Bare). more (place_head no_place g) z (change s)) (sym y)
        ∙ sym (passes g c s (λ q. omega (arith, q, i.0, n.1), λ q p. omega (arith, q, i.0, n.1)))

    behind : (from : ℕ) (ds : List (Def Span)) → end ≤ from → AreInPlace from ds → map (with_set change) ds ≡ erase_document ds
    behind from [] l all = refl
    behind from (operation kind name variables directives set braces place ∷ ds) l all =
        let e = off place.start place.end set (inr (omega (arith, l, all.0))) all.2 in
        let i = behind place.end ds (omega (arith, l, all.0, all.1)) all.3 in cc
    behind from (fragment name on directives set braces place ∷ ds) l all =
        let e = off place.start place.end set (inr (omega (arith, l, all.0))) all.2 in
        let i = behind place.end ds (omega (arith, l, all.0, all.1)) all.3 in cc
    behind from (type_system one ∷ ds) l all = let i = behind from ds l all in cc

    stands_in : (w : Way) (n : ℕ) (d : Def Span) (from : ℕ) (ds : List (Def Span)) → IsAt d n ds → tail_at w (set_in d) ≡ more h b r → AreInPlace from ds → from ≤ start
    stands_in w n d from [] i e all = absurd i
    stands_in w zero d from (operation kind name variables directives set braces place ∷ ds) i e all =
        let s = stands w place.start place.end set (ap (λ (z : Def Span). tail_at w (set_in z)) i ∙ e) all.2 in omega (arith, s.0, all.0)
    stands_in w zero d from (fragment name on directives set braces place ∷ ds) i e all =
        let s = stands w place.start place.end set (ap (λ (z : Def Span). tail_at w (set_in z)) i ∙ e) all.2 in omega (arith, s.0, all.0)
    stands_in w zero d from (type_system one ∷ ds) i e all = absurd (none_at w (ap (λ (z : Def Span). tail_at w (set_in z)) i ∙ e))
    stands_in w (suc n) d from (operation kind name variables directives set braces place ∷ ds) i e all =
        let s = stands_in w n d place.end ds i e all.3 in omega (arith, s, all.0, all.1)
    stands_in w (suc n) d from (fragment name on directives set braces place ∷ ds) i e all =
        let s = stands_in w n d place.end ds i e all.3 in omega (arith, s, all.0, all.1)
    stands_in w (suc n) d from (type_system one ∷ ds) i e all = stands_in w n d from ds i e all

    -- in a document too
    pub on_document : (w : Way) (n : ℕ) (d : Def Span) (from : ℕ) (ds : List (Def Span)) → IsAt d n ds → tail_at w (set_in d) ≡ more h b r → AreInPlace from ds →
        with_definition n (with_tail w new) ds ≡ map (with_set change) ds
    on_document w n d from [] i e all = absurd i
    on_document w zero d from (operation kind name variables directives set braces place ∷ ds) i e all =
        let t = ap (λ (z : Def Span). tail_at w (set_in z)) i ∙ e in
        let s = stands w place.start place.end set t all.2 in
        let x = on w place.start place.end set t all.2 in
        let y = behind place.end ds s.1 all.3 in cc
    on_document w zero d from (fragment name on' directives set braces place ∷ ds) i e all =
        let t = ap (λ (z : Def Span). tail_at w (set_in z)) i ∙ e in
        let s = stands w place.start place.end set t all.2 in
        let x = on w place.start place.end set t all.2 in
        let y = behind place.end ds s.1 all.3 in cc
    on_document w zero d from (type_system one ∷ ds) i e all = absurd (none_at w (ap (λ (z : Def Span). tail_at w (set_in z)) i ∙ e))
    on_document w (suc n) d from (operation kind name variables directives set braces place ∷ ds) i e all =
        let s = stands_in w n d place.end ds i e all.3 in
        let x = off place.start place.end set (inl s) all.2 in
        let y = on_document w n d place.end ds i e all.3 in cc
    on_document w (suc n) d from (fragment name on' directives set braces place ∷ ds) i e all =
        let s = stands_in w n d place.end ds i e all.3 in
        let x = off place.start place.end set (inl s) all.2 in
        let y = on_document w n d place.end ds i e all.3 in cc
    on_document w (suc n) d from (type_system one ∷ ds) i e all = let y = on_document w n d from ds i e all in cc
