-- The fields of a selection set as execution sees them, through the fragments that it spreads; and that selections which stand
-- for others have no further fields.
use Rattle.std.proofs.Common.{◌≡◌, ◌⊎◌, ⊎_elim, inl, inr, ℕ, zero, suc, List, Option, Some, None, refl, sym, ◌∙◌, subst}
use Rattle.std.proofs.lemmas.Option.{same_Some}
use Rattle.gq_meaning.specs.Values.{Text}
use Rattle.gq_meaning.specs.Selected.{Directives, Arguments, Set, none, field, spread, inline, join}
use Rattle.gq_meaning.specs.Expand.{Definition, find_definition}
use Rattle.gq_meaning.specs.Rewritten.{Static, Rewritten, same_end, same_leaf, same_field, same_spread, same_inline, same_bare, extracted, inlined, removed, removed_bare, AreKept}

-- a field, and the type of its parent
pub record Seen : Type 0 where
  pub parent : Text
  pub key : Text
  pub name : Text
  pub arguments : Arguments
  pub below : Set

-- a set whose parent has this type has the field, through so many fragments
pub data Has (ds : List Definition) : ℕ → Text → Set → Seen → Type 0 where
  it_is : {n : ℕ} {t : Text} {w : Directives} {k m : Text} {a : Arguments} {set rest : Set} → Has ds n t (field w k m a set rest) (record { parent = t; key = k; name = m; arguments = a; below = set })
  past_field : {n : ℕ} {t : Text} {w : Directives} {k m : Text} {a : Arguments} {set rest : Set} {b : Seen} → Has ds n t rest b → Has ds n t (field w k m a set rest) b
  in_typed : {n : ℕ} {t on : Text} {w : Directives} {set rest : Set} {b : Seen} → Has ds n on set b → Has ds n t (inline w (Some on) set rest) b
  in_bare : {n : ℕ} {t : Text} {w : Directives} {set rest : Set} {b : Seen} → Has ds n t set b → Has ds n t (inline w None set rest) b
  past_inline : {n : ℕ} {t : Text} {w : Directives} {on : Option Text} {set rest : Set} {b : Seen} → Has ds n t rest b → Has ds n t (inline w on set rest) b
  in_spread : {n : ℕ} {t f : Text} {w : Directives} {rest : Set} {b : Seen} (d : Definition) → find_definition ds f ≡ Some d → Has ds n d.on d.set b → Has ds (suc n) t (spread w f rest) b
  past_spread : {n : ℕ} {t f : Text} {w : Directives} {rest : Set} {b : Seen} → Has ds n t rest b → Has ds n t (spread w f rest) b

-- one set after another
module _ (ds : List Definition) where
  in_first : {n : ℕ} {t : Text} {s : Set} {b : Seen} (r : Set) → Has ds n t s b → Has ds n t (join s r) b
  in_first r it_is = it_is
  in_first r (past_field h) = past_field (in_first r h)
  in_first r (in_typed h) = in_typed h
  in_first r (in_bare h) = in_bare h
  in_first r (past_inline h) = past_inline (in_first r h)
  in_first r (in_spread d e h) = in_spread d e h
  in_first r (past_spread h) = past_spread (in_first r h)

  in_second : {n : ℕ} {t : Text} {b : Seen} (s r : Set) → Has ds n t r b → Has ds n t (join s r) b
  in_second none r h = h
  in_second (field w k m a set rest) r h = past_field (in_second rest r h)
  in_second (spread w f rest) r h = past_spread (in_second rest r h)
  in_second (inline w on set rest) r h = past_inline (in_second rest r h)

  in_one : {n : ℕ} {t : Text} {b : Seen} (s r : Set) → Has ds n t (join s r) b → Has ds n t s b ⊎ Has ds n t r b
  in_one none r h = inr h
  in_one (field w k m a set rest) r it_is = inl it_is
  in_one (field w k m a set rest) r (past_field h) = ⊎_elim (λ i. inl (past_field i)) (λ i. inr i) (in_one rest r h)
  in_one (spread w f rest) r (in_spread d e h) = inl (in_spread d e h)
  in_one (spread w f rest) r (past_spread h) = ⊎_elim (λ i. inl (past_spread i)) (λ i. inr i) (in_one rest r h)
  in_one (inline w (Some on) set rest) r (in_typed h) = inl (in_typed h)
  in_one (inline w (Some on) set rest) r (past_inline h) = ⊎_elim (λ i. inl (past_inline i)) (λ i. inr i) (in_one rest r h)
  in_one (inline w None set rest) r (in_bare h) = inl (in_bare h)
  in_one (inline w None set rest) r (past_inline h) = ⊎_elim (λ i. inl (past_inline i)) (λ i. inr i) (in_one rest r h)

module _ (static : Static) (ds ds' : List Definition) (kept : AreKept static ds ds') where
  -- in its braces a field has nothing, or what stands for something
  abbrev IsBelow : Seen → Seen → Type 0
  IsBelow old b = (b.below ≡ none) ⊎ ((c : Text) × (static old.parent old.name ≡ Some c) × Rewritten static ds ds' c old.below b.below)

  -- a field that a set has after was there before
  pub record Was (t : Text) (s : Set) (b : Seen) : Type 0 where
    pub old : Seen
    pub depth : ℕ
    pub has : Has ds depth t s old
    pub parent : old.parent ≡ b.parent
    pub key : old.key ≡ b.key
    pub name : old.name ≡ b.name
    pub arguments : old.arguments ≡ b.arguments
    pub below : IsBelow old b

  abbrev HasToo : Text → Set → Seen → Type 0
  HasToo t s o = (n : ℕ) × Has ds n t s o

  there : {t u : Text} {r s : Set} {b : Seen} → ((n : ℕ) (o : Seen) → Has ds n t r o → HasToo u s o) → Was t r b → Was u s b
  there f w =
      let k = f w.depth w.old w.has in
      record { old = w.old; depth = k.0; has = k.1; parent = w.parent; key = w.key; name = w.name; arguments = w.arguments; below = w.below }

  -- it is so of what stands through fewer fragments
  abbrev Before : ℕ → Type 0
  Before zero = Unit {0}
  Before (suc n) = (t : Text) (s s' : Set) (b : Seen) → Rewritten static ds ds' t s s' → Has ds' n t s' b → Was t s b

  was_within : {n : ℕ} → Before n → {t : Text} {s s' : Set} {b : Seen} → Rewritten static ds ds' t s s' → Has ds' n t s' b → Was t s b
  was_within e same_end h = elim h [ ]
  was_within e (same_leaf {t} {w} {k} {n} {a} g) it_is = record {
    old = record { parent = t; key = k; name = n; arguments = a; below = none };
    depth = 0;
    has = it_is;
    parent = refl;
    key = refl;
    name = refl;
    arguments = refl;
    below = inl refl;
  }
  was_within e (same_leaf g) (past_field h) = there (λ m o i. (m, past_field i)) (was_within e g h)
  was_within e (same_field {t} c {w} {k} {n} {a} {set} is g i) it_is = record {
    old = record { parent = t; key = k; name = n; arguments = a; below = set };
    depth = 0;
    has = it_is;
    parent = refl;
    key = refl;
    name = refl;
    arguments = refl;
    below = inr (c, is, g);
  }
  was_within e (same_field c is g i) (past_field h) = there (λ m o j. (m, past_field j)) (was_within e i h)
  was_within e (same_spread {f} d d' e1 e2 on g) (in_spread {n} {b} c e3 h) =
      let one : c ≡ d' = same_Some c d' (sym e3 ∙ e2) in
      let there' : Has ds' n d.on d'.set b = subst (λ z. Has ds' n z d'.set b) (sym on) (subst (λ z. Has ds' n z.on z.set b) one h) in
      there (λ m o i. (suc m, in_spread d e1 i)) (e d.on d.set d'.set b (kept.each f d d' e1 e2 on) there')
  was_within e (same_spread d d' e1 e2 on g) (past_spread h) = there (λ m o i. (m, past_spread i)) (was_within e g h)
  was_within e (same_inline g i) (in_typed h) = there (λ m o j. (m, in_typed j)) (was_within e g h)
  was_within e (same_inline g i) (past_inline h) = there (λ m o j. (m, past_inline j)) (was_within e i h)
  was_within e (same_bare g i) (in_bare h) = there (λ m o j. (m, in_bare j)) (was_within e g h)
  was_within e (same_bare g i) (past_inline h) = there (λ m o j. (m, past_inline j)) (was_within e i h)
  was_within e (extracted {t} f d {run} {rest} e1 on g i) (in_spread {n} {b} c e3 h) =
      let one : c ≡ d = same_Some c d (sym e3 ∙ e1) in
      let in_run : Has ds' n t d.set b = subst (λ z. Has ds' n z d.set b) on (subst (λ z. Has ds' n z.on z.set b) one h) in
      there (λ m o j. (m, in_first ds rest j)) (e t run d.set b g in_run)
  was_within e (extracted f d {run} {rest} e1 on g i) (past_spread h) = there (λ m o j. (m, in_second ds run rest j)) (was_within e i h)
  was_within e (inlined d e1 g i) (in_typed h) = there (λ m o j. (suc m, in_spread d e1 j)) (was_within e g h)
  was_within e (inlined d e1 g i) (past_inline h) = there (λ m o j. (m, past_spread j)) (was_within e i h)
  was_within e (removed {set'} {rest'} g i) h =
      ⊎_elim (λ k. there (λ m o j. (m, in_typed j)) (was_within e g k)) (λ k. there (λ m o j. (m, past_inline j)) (was_within e i k)) (in_one ds' set' rest' h)
  was_within e (removed_bare {set'} {rest'} g i) h =
      ⊎_elim (λ k. there (λ m o j. (m, in_bare j)) (was_within e g k)) (λ k. there (λ m o j. (m, past_inline j)) (was_within e i k)) (in_one ds' set' rest' h)

  was_at : (n : ℕ) → Before n
  was_at zero = tt
  was_at (suc n) = λ t s s' b g h. was_within (was_at n) g h

  pub was : (n : ℕ) (t : Text) (s s' : Set) (b : Seen) → Rewritten static ds ds' t s s' → Has ds' n t s' b → Was t s b
  was n = was_at (suc n)
