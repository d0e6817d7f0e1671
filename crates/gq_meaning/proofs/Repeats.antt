-- A response does not depend on repeats among the fields.
use Rattle.std.proofs.Common.{◌≡◌, inl, inr, ℕ, zero, suc, Bool, true, false, List, [], ◌∷◌, ◌++◌, length, refl, sym, ap, ◌∙◌, subst, append_assoc}
use Rattle.std.specs.Prelude.{if◌then◌else◌}
use Rattle.std.specs.List.{list_any, flat_map}
use Rattle.std.specs.Str.{bytes_eq}
use Rattle.gq_meaning.specs.Values.{Text}
use Rattle.gq_meaning.specs.Selected.{Set, none, field, spread, inline, join}
use Rattle.gq_meaning.specs.Expand.{Asked, Definition, Setting, fits_condition, expand_with, expand_within, expand, sets_of}
use Rattle.gq_meaning.specs.Thin.{IsIn, Thin, ended, kept, left_out}
use Rattle.gq_meaning.specs.Response.{of_key, keys_after}
use Rattle.gq_meaning.proofs.ThinLemmas.{in_left, in_right, thin_filter, thin_flat_map}
use Rattle.gq_meaning.proofs.NameLemmas.{test_from_in, in_from_test}

-- joined sets give what each gives
pub expand_join : (s : Setting) (e : Text → List Asked) (a b : Set) → expand_with s e (join a b) ≡ expand_with s e a ++ expand_with s e b
expand_join s e none b = refl
expand_join s e (field w k n x set rest) b =
    let h : List Asked = if s.takes w then record { key = k; name = n; arguments = x; set = set } ∷ [] else [] in
    ap (λ z. h ++ z) (expand_join s e rest b) ∙ sym (append_assoc h (expand_with s e rest) (expand_with s e b))
expand_join s e (spread w f rest) b =
    let h : List Asked = if s.takes w then e f else [] in
    ap (λ z. h ++ z) (expand_join s e rest b) ∙ sym (append_assoc h (expand_with s e rest) (expand_with s e b))
expand_join s e (inline w on set rest) b =
    let h : List Asked = if s.takes w then (if fits_condition s on then expand_with s e set else []) else [] in
    ap (λ z. h ++ z) (expand_join s e rest b) ∙ sym (append_assoc h (expand_with s e rest) (expand_with s e b))

expand_each : (s : Setting) (e : Text → List Asked) (xs : List Asked) → expand_with s e (sets_of xs) ≡ flat_map (λ x. expand_with s e x.set) xs
expand_each s e [] = refl
expand_each s e (x ∷ xs) = expand_join s e x.set (sets_of xs) ∙ ap (λ z. expand_with s e x.set ++ z) (expand_each s e xs)

expand_within_each : (n : ℕ) (s : Setting) (ds : List Definition) (xs : List Asked) → expand_within n s ds (sets_of xs) ≡ flat_map (λ x. expand_within n s ds x.set) xs
expand_within_each zero s ds xs = expand_each s _ xs
expand_within_each (suc n) s ds xs = expand_each s _ xs

pub thin_expand : (s : Setting) (ds : List Definition) (xs ys : List Asked) → Thin [] xs ys → Thin [] (expand s ds (sets_of xs)) (expand s ds (sets_of ys))
thin_expand s ds xs ys h =
    subst (λ z. Thin [] z (expand s ds (sets_of ys))) (sym (expand_within_each (length ds) s ds xs))
    (subst (λ z. Thin [] (flat_map (λ x. expand s ds x.set) xs) z) (sym (expand_within_each (length ds) s ds ys))
    (thin_flat_map (λ x. expand s ds x.set) [] (λ x m. absurd m) h))

pub thin_of_key : (k : Text) (xs ys : List Asked) → Thin [] xs ys → Thin [] (of_key k xs) (of_key k ys)
thin_of_key k xs ys h = thin_filter (λ x. bytes_eq k x.key) [] (λ x m e. m) h

-- the keys of what was seen have been noted
record IsNoted (s : List Asked) (seen : List Text) : Type 0 where
  each : (x : Asked) → IsIn x s → list_any (bytes_eq x.key) seen ≡ true

noted_same : (s : List Asked) (seen : List Text) (x : Asked) → list_any (bytes_eq x.key) seen ≡ true → IsNoted s seen → IsNoted (x ∷ s) seen
noted_same s seen x e h = record { each = λ y m. noted_case y m }
  where
    noted_case : (y : Asked) → IsIn y (x ∷ s) → list_any (bytes_eq y.key) seen ≡ true
    noted_case y (inl q) = subst (λ z. list_any (bytes_eq z.key) seen ≡ true) (sym q) e
    noted_case y (inr m) = h.each y m

noted_more : (s : List Asked) (seen : List Text) (x : Asked) → IsNoted s seen → IsNoted (x ∷ s) (seen ++ x.key ∷ [])
noted_more s seen x h = noted_same s (seen ++ x.key ∷ []) x (test_from_in (seen ++ x.key ∷ []) x.key (in_right x.key seen (x.key ∷ []) (inl refl))) (record { each = λ y m. test_from_in (seen ++ x.key ∷ []) y.key (in_left y.key seen (x.key ∷ []) (in_from_test seen y.key (h.each y m))) })

thin_keys : {s xs ys : List Asked} (seen : List Text) → IsNoted s seen → Thin s xs ys → keys_after seen xs ≡ keys_after seen ys
thin_keys seen n ended = refl
thin_keys {s} seen n (kept {xs} {ys} {x} h) = by_test (list_any (bytes_eq x.key) seen) refl (λ e. thin_keys seen (noted_same s seen x e n) h) (thin_keys (seen ++ x.key ∷ []) (noted_more s seen x n) h)
  where
    by_test : (b : Bool) → list_any (bytes_eq x.key) seen ≡ b → (list_any (bytes_eq x.key) seen ≡ true → keys_after seen xs ≡ keys_after seen ys) → keys_after (seen ++ x.key ∷ []) xs ≡ keys_after (seen ++ x.key ∷ []) ys →
        (if b then keys_after seen xs else x.key ∷ keys_after (seen ++ x.key ∷ []) xs) ≡ (if b then keys_after seen ys else x.key ∷ keys_after (seen ++ x.key ∷ []) ys)
    by_test true e p q = p e
    by_test false e p q = ap (λ z. x.key ∷ z) q
thin_keys {s} seen n (left_out {xs} {ys} {x} i h) =
    ap (λ b. if b then keys_after seen xs else x.key ∷ keys_after (seen ++ x.key ∷ []) xs) (n.each x i) ∙ thin_keys seen n h

pub thin_keys_all : (xs ys : List Asked) → Thin [] xs ys → keys_after [] xs ≡ keys_after [] ys
thin_keys_all xs ys h = thin_keys [] (record { each = λ x m. absurd m }) h
