-- A document in which selections are moved into fragments or out of them, and its response.
use Rattle.std.proofs.Common.{◌≡◌, ◌⊎◌, inl, inr, ℕ, zero, suc, ◌<◌, ◌≤◌, Bool, true, false, List, [], ◌∷◌, ◌++◌, length, Some, refl, sym, ap, ◌∙◌, subst, arith}
use Rattle.std.specs.Prelude.{if◌then◌else◌}
use Rattle.gq_meaning.specs.Values.{Text}
use Rattle.std.specs.List.{AllZip}
use Rattle.gq_meaning.specs.Selected.{Set, none, field, spread, inline, join}
use Rattle.gq_meaning.specs.Expand.{Asked, Definition, Setting, find_definition, expand_with, entered, expand}
use Rattle.gq_meaning.specs.Acyclic.{SpreadsBelow, IsRanked}
use Rattle.gq_meaning.specs.Rewritten.{Static, Rewritten, same_end, same_leaf, same_field, same_spread, same_inline, same_bare, extracted, inlined, removed, removed_bare, AreKept}
use Rattle.gq_meaning.proofs.ExpandLemmas.{found, given, given_is, expand_is}
use Rattle.gq_meaning.proofs.Repeats.{expand_join}

module _ (static : Static) (ds ds' : List Definition) where
  -- Two fields of an object of the type: what asks for the same.
  pub record IsAlike (possible : Text → Bool) (x y : Asked) : Type 0 where
    pub key : x.key ≡ y.key
    pub name : x.name ≡ y.name
    pub arguments : x.arguments ≡ y.arguments
    pub sets : ((x.set ≡ none) × (y.set ≡ none)) ⊎ ((p : Text) × (c : Text) × (possible p ≡ true) × (static p x.name ≡ Some c) × Rewritten static ds ds' c x.set y.set)

zip_append : {A : Type 0} (R : A → A → Type 0) (xs ys us vs : List A) → AllZip R xs ys → AllZip R us vs → AllZip R (xs ++ us) (ys ++ vs)
zip_append R [] [] us vs h k = k
zip_append R [] (y ∷ ys) us vs h k = absurd h
zip_append R (x ∷ xs) [] us vs h k = absurd h
zip_append R (x ∷ xs) (y ∷ ys) us vs h k = (h.0, zip_append R xs ys us vs h.1 k)

below_join : (rank : Text → ℕ) (r : ℕ) (a b : Set) → SpreadsBelow rank r (join a b) → SpreadsBelow rank r a × SpreadsBelow rank r b
below_join rank r none b h = (tt, h)
below_join rank r (field w k n x set rest) b h = let i = below_join rank r rest b h.1 in ((h.0, i.0), i.1)
below_join rank r (spread w f rest) b h = let i = below_join rank r rest b h.1 in ((h.0, i.0), i.1)
below_join rank r (inline w on set rest) b h = let i = below_join rank r rest b h.1 in ((h.0, i.0), i.1)

module _ (static : Static) (ds ds' : List Definition) (kept : AreKept static ds ds') (s : Setting) (always : s.takes [] ≡ true) (rank rank' : Text → ℕ) (ranked : IsRanked rank ds) (ranked' : IsRanked rank' ds') where
  abbrev e : Text → List Asked
  e = given s ds rank ranked

  abbrev e' : Text → List Asked
  e' = given s ds' rank' ranked'

  abbrev Alike : Asked → Asked → Type 0
  Alike = IsAlike static ds ds' s.applies

  abbrev Zipped : List Asked → List Asked → Type 0
  Zipped = AllZip Alike

  if_both : (b : Bool) (xs ys : List Asked) → (b ≡ true → Zipped xs ys) → Zipped (if b then xs else []) (if b then ys else [])
  if_both true xs ys h = h refl
  if_both false xs ys h = tt

  -- what a definition that is found gives
  gives : (f : Text) (d : Definition) → find_definition ds f ≡ Some d → e f ≡ (if s.applies d.on then expand_with s e d.set else [])
  gives f d h = given_is s ds rank ranked f ∙ ap (entered s (expand_with s e)) h

  gives' : (f : Text) (d : Definition) → find_definition ds' f ≡ Some d → e' f ≡ (if s.applies d.on then expand_with s e' d.set else [])
  gives' f d h = given_is s ds' rank' ranked' f ∙ ap (entered s (expand_with s e')) h

  abbrev Below : ℕ → Type 0
  Below r = (f : Text) (d d' : Definition) → rank f < r → find_definition ds f ≡ Some d → find_definition ds' f ≡ Some d' → d.on ≡ d'.on → Zipped (e f) (e' f)

  zipped : (r : ℕ) → Below r → {t : Text} {set set' : Set} → Rewritten static ds ds' t set set' → s.applies t ≡ true → SpreadsBelow rank r set → Zipped (expand_with s e set) (expand_with s e' set')
  zipped r h same_end p b = tt
  zipped r h (same_leaf {t} {w} {k} {n} {a} g) p b =
      zip_append Alike _ _ _ _ (if_both (s.takes w) _ _ (λ q. (record { key = refl; name = refl; arguments = refl; sets = inl (refl, refl) }, tt))) (zipped r h g p b.1)
  zipped r h (same_field {t} c {w} {k} {n} {a} e1 g i) p b =
      zip_append Alike _ _ _ _ (if_both (s.takes w) _ _ (λ q. (record { key = refl; name = refl; arguments = refl; sets = inr (t, c, p, e1, g) }, tt))) (zipped r h i p b.1)
  zipped r h (same_spread {t} {w} {f} d d' e1 e2 o g) p b =
      zip_append Alike _ _ _ _ (if_both (s.takes w) _ _ (λ q. h f d d' b.0 e1 e2 o)) (zipped r h g p b.1)
  zipped r h (same_inline {t} {w} {on} g i) p b =
      zip_append Alike _ _ _ _ (if_both (s.takes w) _ _ (λ q. if_both (s.applies on) _ _ (λ q'. zipped r h g q' b.0))) (zipped r h i p b.1)
  zipped r h (same_bare {t} {w} g i) p b =
      zip_append Alike _ _ _ _ (if_both (s.takes w) _ _ (λ q. zipped r h g p b.0)) (zipped r h i p b.1)
  zipped r h (extracted {t} f d {run} {rest} {rest'} e1 o g i) p b =
      let c = below_join rank r run rest b in
      let q : s.applies d.on ≡ true = ap s.applies o ∙ p in
      let there : e' f ≡ expand_with s e' d.set = gives' f d e1 ∙ ap (λ z. if z then expand_with s e' d.set else []) q in
      subst (λ k. Zipped (expand_with s e (join run rest)) ((if k then e' f else []) ++ expand_with s e' rest')) (sym always) (subst (λ z. Zipped z (e' f ++ expand_with s e' rest')) (sym (expand_join s e run rest))
      (zip_append Alike _ _ _ _ (subst (λ z. Zipped (expand_with s e run) z) (sym there) (zipped r h g p c.0)) (zipped r h i p c.1)))
  zipped r h (inlined {t} {w} {f} d {set'} e1 g i) p b =
      let q = found ds f d e1 in
      zip_append Alike _ _ _ _ (if_both (s.takes w) _ _ (λ z. subst (λ l. Zipped l (if s.applies d.on then expand_with s e' set' else [])) (sym (gives f d e1))
      (if_both (s.applies d.on) _ _ (λ y. zipped r h g y (below_more d.set (rank d.name) r (let m : rank d.name ≡ rank f = ap rank q.0 in omega arith) (ranked.each d q.1)))))) (zipped r h i p b.1)
    where
      below_more : (set : Set) (m n : ℕ) → m ≤ n → SpreadsBelow rank m set → SpreadsBelow rank n set
      below_more none m n l h = tt
      below_more (field w k a x set rest) m n l h = (below_more set m n l h.0, below_more rest m n l h.1)
      below_more (spread w f rest) m n l h = (omega arith, below_more rest m n l h.1)
      below_more (inline w on set rest) m n l h = (below_more set m n l h.0, below_more rest m n l h.1)
  zipped r h (removed {t} {set} {set'} {rest} {rest'} g i) p b =
      subst (λ k. Zipped ((if k then (if s.applies t then expand_with s e set else []) else []) ++ expand_with s e rest) (expand_with s e' (join set' rest'))) (sym always) (subst (λ z. Zipped ((if s.applies t then expand_with s e set else []) ++ expand_with s e rest) z) (sym (expand_join s e' set' rest'))
      (zip_append Alike _ _ _ _ (subst (λ z. Zipped (if z then expand_with s e set else []) (expand_with s e' set')) (sym p) (zipped r h g p b.0)) (zipped r h i p b.1)))
  zipped r h (removed_bare {t} {set} {set'} {rest} {rest'} g i) p b =
      subst (λ k. Zipped ((if k then expand_with s e set else []) ++ expand_with s e rest) (expand_with s e' (join set' rest'))) (sym always) (subst (λ z. Zipped (expand_with s e set ++ expand_with s e rest) z) (sym (expand_join s e' set' rest'))
      (zip_append Alike _ _ _ _ (zipped r h g p b.0) (zipped r h i p b.1)))

  -- each fragment that stands in both
  all_below : (r : ℕ) → Below r
  all_below zero f d d' l e1 e2 o = absurd (omega arith)
  all_below (suc r) f d d' l e1 e2 o =
      let q = found ds f d e1 in
      subst (λ z. Zipped z (e' f)) (sym (gives f d e1)) (subst (λ z. Zipped (if s.applies d.on then expand_with s e d.set else []) z) (sym (gives' f d' e2))
      (subst (λ z. Zipped (if s.applies d.on then expand_with s e d.set else []) (if s.applies z then expand_with s e' d'.set else [])) o
      (if_both (s.applies d.on) _ _ (λ y. zipped (rank d.name) (λ f1 d1 d2 l1. all_below r f1 d1 d2 (let m : rank d.name ≡ rank f = ap rank q.0 in omega arith)) (kept.each f d d' e1 e2 o) y (ranked.each d q.1)))))

  -- The expansions of a set and of what stands for it ask for the same.
  pub expansions_alike : {t : Text} {set set' : Set} → Rewritten static ds ds' t set set' → s.applies t ≡ true → SpreadsBelow rank (length ds) set → SpreadsBelow rank' (length ds') set' → Zipped (expand s ds set) (expand s ds' set')
  expansions_alike {t} {set} {set'} g p b b' =
      subst (λ z. Zipped z (expand s ds' set')) (sym (expand_is s ds rank ranked set b)) (subst (λ z. Zipped (expand_with s e set) z) (sym (expand_is s ds' rank' ranked' set' b')) (zipped (length ds) (all_below (length ds)) g p b))
