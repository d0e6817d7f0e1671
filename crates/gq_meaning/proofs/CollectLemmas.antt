-- What a collection gathers is the expansion with repeats left out.
use Rattle.std.proofs.Common.{◌≡◌, ◌⊎◌, inl, inr, ℕ, ◌<◌, Bool, true, false, List, [], ◌∷◌, ◌++◌, length, Option, Some, None, refl, sym, ap, ◌∙◌, subst, ⊎_elim, arith, append_assoc, append-nil}
use Rattle.std.specs.Prelude.{if◌then◌else◌}
use Rattle.gq_meaning.specs.Values.{Text}
use Rattle.gq_meaning.specs.Selected.{Directives, Set, field, spread, inline}
use Rattle.gq_meaning.specs.Expand.{Asked, Definition, Setting, fits_condition, find_definition, expand_with, entered, expand}
use Rattle.gq_meaning.specs.Thin.{IsIn, IsWithin, Thin, ended}
use Rattle.gq_meaning.specs.Acyclic.{SpreadsBelow, IsRanked}
use Rattle.gq_meaning.specs.Helping.Gathers.{Gathers, at_end, field_skipped, field_taken, spread_skipped, spread_again, spread_unknown, spread_apart, spread_entered, inline_skipped, inline_apart, inline_entered}
use Rattle.gq_meaning.proofs.ThinLemmas.{in_either, within_trans, within_left, thin_same, thin_within, thin_append, thin_all_out}
use Rattle.gq_meaning.proofs.ExpandLemmas.{found, given, given_is, expand_is}

module _ (s : Setting) (ds : List Definition) (rank : Text → ℕ) (ranked : IsRanked rank ds) where
  abbrev pub env : Text → List Asked
  env = given s ds rank ranked

  -- All that the visited fragments of a lower rank give is there.
  pub record IsDone (r : ℕ) (v : List Text) (o : List Asked) : Type 0 where
    pub all : (g : Text) → IsIn g v → rank g < r → IsWithin (env g) o

  pub record Collected (r : ℕ) (set : Set) (v : List Text) (o : List Asked) (v' : List Text) (o' : List Asked) : Type 0 where
    pub added : List Asked
    pub grows : o' ≡ o ++ added
    pub thin : Thin o (expand_with s env set) added
    pub visits : (g : Text) → IsIn g v' → IsIn g v ⊎ (rank g < r)
    pub done : IsDone r v' o'

  -- more fields, or one more name
  done_more : (r : ℕ) (v : List Text) (o o' : List Asked) → IsWithin o o' → IsDone r v o → IsDone r v o'
  done_more r v o o' w h = record { all = λ g m l. within_trans (h.all g m l) w }

  done_one : (r : ℕ) (f : Text) (v : List Text) (o : List Asked) → IsWithin (env f) o → IsDone r v o → IsDone r (v ++ f ∷ []) o
  done_one r f v o w h = record { all = λ g m l. ⊎_elim (λ a. h.all g a l) (λ b. ⊎_elim (λ e. subst (λ z. IsWithin (env z) o) (sym e) w) (λ k. absurd k) b) (in_either g v (f ∷ []) m) }

  none_within : (o : List Asked) → IsWithin [] o
  none_within o = record { each = λ x m. elim m [ ] }

  -- what follows a selection that gives nothing new
  after_none : (r : ℕ) (us : List Asked) (rest : Set) (v v1 : List Text) (o : List Asked) (v' : List Text) (o' : List Asked) → IsWithin us o → ((g : Text) → IsIn g v1 → IsIn g v ⊎ (rank g < r)) → Collected r rest v1 o v' o' →
      (added : List Asked) × (o' ≡ o ++ added) × Thin o (us ++ expand_with s env rest) added × ((g : Text) → IsIn g v' → IsIn g v ⊎ (rank g < r)) × IsDone r v' o'
  after_none r us rest v v1 o v' o' w low c =
      (c.added, c.grows, thin_all_out o (expand_with s env rest) c.added us w c.thin, (λ g m. ⊎_elim (λ a. low g a) (λ b. inr b) (c.visits g m)), c.done)

  -- what follows a selection that gives some
  after_some : (r : ℕ) (us ns : List Asked) (rest : Set) (v v1 : List Text) (o o1 : List Asked) (v' : List Text) (o' : List Asked) → o1 ≡ o ++ ns → Thin o us ns → ((g : Text) → IsIn g v1 → IsIn g v ⊎ (rank g < r)) → Collected r rest v1 o1 v' o' →
      (added : List Asked) × (o' ≡ o ++ added) × Thin o (us ++ expand_with s env rest) added × ((g : Text) → IsIn g v' → IsIn g v ⊎ (rank g < r)) × IsDone r v' o'
  after_some r us ns rest v v1 o o1 v' o' e t low c =
      (ns ++ c.added, c.grows ∙ ap (λ l. l ++ c.added) e ∙ append_assoc o ns c.added, thin_append t (subst (λ l. Thin l (expand_with s env rest) c.added) e c.thin), (λ g m. ⊎_elim (λ a. low g a) (λ b. inr b) (c.visits g m)), c.done)

  -- under the equation for what a selection gives
  settle : (r : ℕ) (set rest : Set) (us : List Asked) (v : List Text) (o : List Asked) (v' : List Text) (o' : List Asked) → expand_with s env set ≡ us ++ expand_with s env rest →
      ((added : List Asked) × (o' ≡ o ++ added) × Thin o (us ++ expand_with s env rest) added × ((g : Text) → IsIn g v' → IsIn g v ⊎ (rank g < r)) × IsDone r v' o') → Collected r set v o v' o'
  settle r set rest us v o v' o' e a = record { added = a.0; grows = a.1; thin = subst (λ l. Thin o l a.0) (sym e) a.2; visits = a.3; done = a.4 }

  stays : (r : ℕ) (v : List Text) (g : Text) → IsIn g v → IsIn g v ⊎ (rank g < r)
  stays r v g m = inl m

  one_more : (r : ℕ) (f : Text) (v : List Text) → rank f < r → (g : Text) → IsIn g (v ++ f ∷ []) → IsIn g v ⊎ (rank g < r)
  one_more r f v l g m = ⊎_elim (λ a. inl a) (λ b. ⊎_elim (λ e. inr (subst (λ z. rank z < r) (sym e) l)) (λ k. absurd k) b) (in_either g v (f ∷ []) m)

  -- a definition that is not entered gives nothing
  gives_none : (f : Text) (o : List Asked) → find_definition ds f ≡ None → IsWithin (env f) o
  gives_none f o e = subst (λ l. IsWithin l o) (sym (given_is s ds rank ranked f ∙ ap (entered s (expand_with s env)) e)) (none_within o)

  gives_apart : (f : Text) (d : Definition) (o : List Asked) → find_definition ds f ≡ Some d → s.applies d.on ≡ false → IsWithin (env f) o
  gives_apart f d o e a = subst (λ l. IsWithin l o) (sym (given_is s ds rank ranked f ∙ ap (entered s (expand_with s env)) e ∙ ap (λ b. if b then expand_with s env d.set else []) a)) (none_within o)

  gives : (f : Text) (d : Definition) → find_definition ds f ≡ Some d → s.applies d.on ≡ true → env f ≡ expand_with s env d.set
  gives f d e a = given_is s ds rank ranked f ∙ ap (entered s (expand_with s env)) e ∙ ap (λ b. if b then expand_with s env d.set else []) a

  -- whether the selection is taken
  by_take : (w : Directives) (b : Bool) (us : List Asked) (rest : List Asked) → s.takes w ≡ b → (if s.takes w then us else []) ++ rest ≡ (if b then us else []) ++ rest
  by_take w b us rest t = ap (λ z. (if z then us else []) ++ rest) t

  by_fit : (w : Directives) (on : Option Text) (b : Bool) (us : List Asked) (rest : List Asked) → s.takes w ≡ true → fits_condition s on ≡ b → (if s.takes w then (if fits_condition s on then us else []) else []) ++ rest ≡ (if b then us else []) ++ rest
  by_fit w on b us rest t a = ap (λ z. (if z then (if fits_condition s on then us else []) else []) ++ rest) t ∙ ap (λ z. (if z then us else []) ++ rest) a

  -- what stands after a definition was entered
  entered_done : (r : ℕ) (f : Text) (d : Definition) (v v1 : List Text) (o o1 : List Asked) → rank f < r → env f ≡ expand_with s env d.set → IsDone r v o → Collected (rank f) d.set (v ++ f ∷ []) o v1 o1 → IsDone r v1 o1
  entered_done r f d v v1 o o1 l e h c =
      let here : IsWithin (env f) o1 = subst (λ z. IsWithin z o1) (sym e) (subst (λ z. IsWithin (expand_with s env d.set) z) (sym c.grows) (thin_within c.thin)) in
      let more : IsWithin o o1 = subst (λ z. IsWithin o z) (sym c.grows) (within_left o c.added) in
      record { all = λ g m k. ⊎_elim (λ a. (done_one r f v o1 here (done_more r v o o1 more h)).all g a k) (λ b. c.done.all g m b) (c.visits g m) }

  low_done : (r : ℕ) (f : Text) (v : List Text) (o : List Asked) → rank f < r → IsDone r v o → IsDone (rank f) (v ++ f ∷ []) o
  low_done r f v o l h =
      record { all = λ g m k. ⊎_elim (λ a. h.all g a (omega arith)) (λ b. ⊎_elim (λ e. absurd (let q : rank g ≡ rank f = ap rank e in omega arith)) (λ z. absurd z) b) (in_either g v (f ∷ []) m) }

  low_visits : (r : ℕ) (f : Text) (v v1 : List Text) → rank f < r → ((g : Text) → IsIn g v1 → IsIn g (v ++ f ∷ []) ⊎ (rank g < rank f)) → (g : Text) → IsIn g v1 → IsIn g v ⊎ (rank g < r)
  low_visits r f v v1 l h g m = ⊎_elim (λ a. one_more r f v l g a) (λ b. inr (omega arith)) (h g m)

  pub collected : {set : Set} {v v' : List Text} {o o' : List Asked} → Gathers s ds set v o v' o' → (r : ℕ) → SpreadsBelow rank r set → IsDone r v o → Collected r set v o v' o'
  collected {set} {v} {v'} {o} {o'} at_end r b h = record { added = []; grows = sym (append-nil o); thin = ended; visits = λ g m. inl m; done = h }
  collected {set} {v} {v'} {o} {o'} (field_skipped {w} {k} {n} {a} {set = sub} {rest} t g) r b h =
      settle r (field w k n a sub rest) rest [] v o v' o' (by_take w false _ _ t) (after_none r [] rest v v o v' o' (none_within o) (stays r v) (collected g r b.1 h))
  collected {set} {v} {v'} {o} {o'} (field_taken {w} {k} {n} {a} {set = sub} {rest} t g) r b h =
      let x : Asked = record { key = k; name = n; arguments = a; set = sub } in
      settle r (field w k n a sub rest) rest (x ∷ []) v o v' o' (by_take w true _ _ t) (after_some r (x ∷ []) (x ∷ []) rest v v o (o ++ x ∷ []) v' o' refl (thin_same o (x ∷ [])) (stays r v) (collected g r b.1 (done_more r v o (o ++ x ∷ []) (within_left o (x ∷ [])) h)))
  collected {set} {v} {v'} {o} {o'} (spread_skipped {w} {f} {rest} t g) r b h =
      settle r (spread w f rest) rest [] v o v' o' (by_take w false _ _ t) (after_none r [] rest v v o v' o' (none_within o) (stays r v) (collected g r b.1 h))
  collected {set} {v} {v'} {o} {o'} (spread_again {w} {f} {rest} t i g) r b h =
      settle r (spread w f rest) rest (env f) v o v' o' (by_take w true _ _ t) (after_none r (env f) rest v v o v' o' (h.all f i b.0) (stays r v) (collected g r b.1 h))
  collected {set} {v} {v'} {o} {o'} (spread_unknown {w} {f} {rest} t e g) r b h =
      settle r (spread w f rest) rest (env f) v o v' o' (by_take w true _ _ t) (after_none r (env f) rest v (v ++ f ∷ []) o v' o' (gives_none f o e) (one_more r f v b.0) (collected g r b.1 (done_one r f v o (gives_none f o e) h)))
  collected {set} {v} {v'} {o} {o'} (spread_apart {w} {f} {d} {rest} t e a g) r b h =
      settle r (spread w f rest) rest (env f) v o v' o' (by_take w true _ _ t) (after_none r (env f) rest v (v ++ f ∷ []) o v' o' (gives_apart f d o e a) (one_more r f v b.0) (collected g r b.1 (done_one r f v o (gives_apart f d o e a) h)))
  collected {set} {v} {v'} {o} {o'} (spread_entered {w} {f} {d} {rest} {v1} {o1} t e a g k) r b h =
      let p = found ds f d e in
      let below : SpreadsBelow rank (rank f) d.set = subst (λ z. SpreadsBelow rank z d.set) (ap rank p.0) (ranked.each d p.1) in
      let c = collected g (rank f) below (low_done r f v o b.0 h) in
      settle r (spread w f rest) rest (env f) v o v' o' (by_take w true _ _ t)
      (after_some r (env f) c.added rest v v1 o o1 v' o' c.grows (subst (λ z. Thin o z c.added) (sym (gives f d e a)) c.thin) (low_visits r f v v1 b.0 c.visits)
      (collected k r b.1 (entered_done r f d v v1 o o1 b.0 (gives f d e a) h c)))
  collected {set} {v} {v'} {o} {o'} (inline_skipped {w} {on} {set = sub} {rest} t g) r b h =
      settle r (inline w on sub rest) rest [] v o v' o' (by_take w false _ _ t) (after_none r [] rest v v o v' o' (none_within o) (stays r v) (collected g r b.1 h))
  collected {set} {v} {v'} {o} {o'} (inline_apart {w} {on} {set = sub} {rest} t a g) r b h =
      settle r (inline w on sub rest) rest [] v o v' o' (by_fit w on false _ _ t a) (after_none r [] rest v v o v' o' (none_within o) (stays r v) (collected g r b.1 h))
  collected {set} {v} {v'} {o} {o'} (inline_entered {w} {on} {set = sub} {rest} {v1} {o1} t a g k) r b h =
      let c = collected g r b.0 h in
      settle r (inline w on sub rest) rest (expand_with s env sub) v o v' o' (by_fit w on true _ _ t a)
      (after_some r (expand_with s env sub) c.added rest v v1 o o1 v' o' c.grows c.thin c.visits (collected k r b.1 c.done))

  -- A collection that starts with nothing.
  pub gathered : {set : Set} {v' : List Text} {o' : List Asked} → Gathers s ds set [] [] v' o' → SpreadsBelow rank (length ds) set → Thin [] (expand s ds set) o'
  gathered {set} {v'} {o'} g b =
      let c = collected g (length ds) b (record { all = λ g m l. absurd m }) in
      subst (λ z. Thin [] z o') (sym (expand_is s ds rank ranked set b)) (subst (λ z. Thin [] (expand_with s env set) z) (sym c.grows) c.thin)
