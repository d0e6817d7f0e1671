-- What the recursion of an answer goes down by: groups are lower than the fields they are of, and these than the group above.
use Rattle.std.proofs.Common.{◌≡◌, inl, inr, ℕ, zero, suc, ◌<◌, ◌≤◌, Bool, true, false, cond, List, [], ◌∷◌, ◌++◌, length, refl, sym, ◌∙◌, subst, arith, max}
use Rattle.std.specs.Prelude.{if◌then◌else◌}
use Rattle.std.specs.List.{list_any}
use Rattle.std.specs.Str.{bytes_eq}
use Rattle.gq_meaning.specs.Values.{Text}
use Rattle.gq_meaning.proofs.TextLemmas.{text_same}
use Rattle.gq_meaning.specs.Selected.{Set, none, field, spread, inline, join}
use Rattle.gq_meaning.specs.Expand.{Asked, Definition, Setting, expand, sets_of}
use Rattle.gq_meaning.specs.Thin.{IsIn, Thin, ended, kept, left_out}
use Rattle.gq_meaning.specs.Acyclic.{SpreadsBelow, Rankable}
use Rattle.gq_meaning.specs.Response.{of_key, keys_after}
use Rattle.gq_meaning.proofs.Low.{AreLow, low_of_key, low_sets, low_expand}
use Rattle.gq_meaning.proofs.Height.{height, height_within, height_with, lower}

height_join : (h : Text → ℕ) (a b : Set) → ◌≡◌ {A = ℕ} (height_with h (join a b)) (max (height_with h a) (height_with h b))
height_join h none b = omega arith
height_join h (field w k n x set rest) b = let i = height_join h rest b in omega arith
height_join h (spread w f rest) b = let i = height_join h rest b in omega arith
height_join h (inline w on set rest) b = let i = height_join h rest b in omega arith

height_two : (n : ℕ) (ds : List Definition) (a b : Set) → ◌≡◌ {A = ℕ} (height_within n ds (join a b)) (max (height_within n ds a) (height_within n ds b))
height_two zero ds a b = height_join _ a b
height_two (suc n) ds a b = height_join _ a b

height_none : (n : ℕ) (ds : List Definition) → ◌≡◌ {A = ℕ} (height_within n ds none) 0
height_none zero ds = refl
height_none (suc n) ds = refl

-- above each field's set
abbrev pub height_over : List Definition → List Asked → ℕ
height_over ds [] = 0
height_over ds (x ∷ xs) = max (suc (height ds x.set)) (height_over ds xs)

sets_under : (ds : List Definition) (x : Asked) (xs : List Asked) → height ds (sets_of (x ∷ xs)) < height_over ds (x ∷ xs)
sets_under ds x [] = let a = height_two (length ds) ds x.set none in let b = height_none (length ds) ds in omega arith
sets_under ds x (y ∷ ys) = let a = height_two (length ds) ds x.set (sets_of (y ∷ ys)) in let b = sets_under ds y ys in omega arith

over_key : (ds : List Definition) (k : Text) (xs : List Asked) → height_over ds (of_key k xs) ≤ height_over ds xs
over_key ds k [] = omega arith
over_key ds k (x ∷ xs) = by_test (bytes_eq k x.key) (over_key ds k xs)
  where
    by_test : (b : Bool) → height_over ds (of_key k xs) ≤ height_over ds xs → height_over ds (cond b (x ∷ of_key k xs) (of_key k xs)) ≤ height_over ds (x ∷ xs)
    by_test true h = omega arith
    by_test false h = omega arith

-- a key has fields
pub key_there : (k : Text) (seen : List Text) (xs : List Asked) → IsIn k (keys_after seen xs) → 0 < length (of_key k xs)
key_there k seen [] m = absurd m
key_there k seen (x ∷ xs) m = by_test (list_any (bytes_eq x.key) seen) (bytes_eq k x.key) refl m (key_there k seen xs) (key_there k (seen ++ x.key ∷ []) xs)
  where
    by_test : (b c : Bool) → bytes_eq k x.key ≡ c → IsIn k (if b then keys_after seen xs else x.key ∷ keys_after (seen ++ x.key ∷ []) xs) → (IsIn k (keys_after seen xs) → 0 < length (of_key k xs)) → (IsIn k (keys_after (seen ++ x.key ∷ []) xs) → 0 < length (of_key k xs)) → 0 < length (cond c (x ∷ of_key k xs) (of_key k xs))
    by_test b true e m r s = omega arith
    by_test true false e m r s = r m
    by_test false false e (inl d) r s = let t1 : bytes_eq k x.key ≡ true = text_same k x.key d in let bad : true ≡ false = sym t1 ∙ e in cc
    by_test false false e (inr m) r s = s m

pub key_less : (ds : List Definition) (k : Text) (xs : List Asked) → 0 < length (of_key k xs) → height ds (sets_of (of_key k xs)) < height_over ds xs
key_less ds k xs l = by_group (of_key k xs) l (over_key ds k xs)
  where
    by_group : (ys : List Asked) → 0 < length ys → height_over ds ys ≤ height_over ds xs → height ds (sets_of ys) < height_over ds xs
    by_group [] l o = absurd (omega arith)
    by_group (y ∷ ys) l o = let a = sets_under ds y ys in omega arith

below_parts : (rank : Text → ℕ) (r : ℕ) (a b : Set) → SpreadsBelow rank r (join a b) → SpreadsBelow rank r a × SpreadsBelow rank r b
below_parts rank r none b h = (tt, h)
below_parts rank r (field w k n x set rest) b h = let i = below_parts rank r rest b h.1 in ((h.0, i.0), i.1)
below_parts rank r (spread w f rest) b h = let i = below_parts rank r rest b h.1 in ((h.0, i.0), i.1)
below_parts rank r (inline w on set rest) b h = let i = below_parts rank r rest b h.1 in ((h.0, i.0), i.1)

low_parts : (rank : Text → ℕ) (r : ℕ) (xs : List Asked) → SpreadsBelow rank r (sets_of xs) → AreLow rank r xs
low_parts rank r [] h = tt
low_parts rank r (x ∷ xs) h = let i = below_parts rank r x.set (sets_of xs) h in (i.0, low_parts rank r xs i.1)

low_thin : (rank : Text → ℕ) (r : ℕ) {s xs ys : List Asked} → Thin s xs ys → AreLow rank r xs → AreLow rank r ys
low_thin rank r ended h = tt
low_thin rank r (kept t) h = (h.0, low_thin rank r t h.1)
low_thin rank r (left_out m t) h = low_thin rank r t h.1

thin_sub : {s xs ys : List Asked} → Thin s xs ys → (x : Asked) → IsIn x ys → IsIn x xs
thin_sub ended x m = m
thin_sub (kept t) x (inl e) = inl e
thin_sub (kept t) x (inr m) = inr (thin_sub t x m)
thin_sub (left_out i t) x m = inr (thin_sub t x m)

over_each : (ds : List Definition) (h : ℕ) (xs : List Asked) → ((x : Asked) → IsIn x xs → height ds x.set < h) → height_over ds xs ≤ h
over_each ds h [] u = omega arith
over_each ds h (x ∷ xs) u = let a = u x (inl refl) in let b = over_each ds h xs (λ z m. u z (inr m)) in omega arith

is_low : (rank : Text → ℕ) (r : ℕ) (xs : List Asked) (x : Asked) → IsIn x xs → AreLow rank r xs → SpreadsBelow rank r x.set
is_low rank r [] x m h = absurd m
is_low rank r (y ∷ xs) x (inl e) h = subst (λ z. SpreadsBelow rank r z.set) (sym e) h.0
is_low rank r (y ∷ xs) x (inr m) h = is_low rank r xs x m h.1

pub fields_rank : (s : Setting) (ds : List Definition) (group fields : List Asked) → Rankable ds (sets_of group) → Thin [] (expand s ds (sets_of group)) fields → Rankable ds (sets_of fields)
fields_rank s ds group fields r t =
    (r.0, r.1, low_sets r.0 (length ds) fields (low_thin r.0 (length ds) t (low_expand r.0 (length ds) s ds r.1 (omega arith) (sets_of group) r.2)))

pub fields_less : (s : Setting) (ds : List Definition) (group fields : List Asked) → Rankable ds (sets_of group) → Thin [] (expand s ds (sets_of group)) fields → height_over ds fields ≤ height ds (sets_of group)
fields_less s ds group fields r t =
    let low = low_expand r.0 (length ds) s ds r.1 (omega arith) (sets_of group) r.2 in
    over_each ds (height ds (sets_of group)) fields (λ x m. lower ds r.0 r.1 s (sets_of group) r.2 x (thin_sub t x m) (is_low r.0 (length ds) _ x (thin_sub t x m) low))

pub key_rank : (ds : List Definition) (k : Text) (xs : List Asked) → Rankable ds (sets_of xs) → Rankable ds (sets_of (of_key k xs))
key_rank ds k xs r = (r.0, r.1, low_sets r.0 (length ds) _ (low_of_key r.0 (length ds) k xs (low_parts r.0 (length ds) xs r.2)))
