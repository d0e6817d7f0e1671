-- Items put under names.
use Rattle.std.proofs.Common.{◌≡◌, ◌≢◌, ℕ, ◌<◌, Bool, true, false, List, [], ◌∷◌, ◌++◌, Option, Some, None, length, map, get_or, set, sym, ◌∙◌, ap, subst, refl, append-nil, zero, suc, arith, Vec, Result, Ok, Err, OnErr}
use Rattle.std.specs.List.{list_any, position}
use Rattle.std.specs.Option.{option_map_or, is_some}
use Rattle.std.specs.Str.{bytes_eq}
use Rattle.std.specs.Cmp.Lexicographic.{bytes_decides}
use Rattle.std.proofs.lemmas.Bool.{false≢true}
use Rattle.std.proofs.lemmas.List.{get_or-set_same, get_or-set_other, get_or_append_left, get_or_push}
use Rattle.std.proofs.lemmas.List.Quantifiers.{position-Some}
use Rattle.gq_names.proofs.PlaceLemmas.{position_push_found, position_push_other, position_push_here, is_some_position}
use Rattle.gq_names.specs.UnderNames.{one_if}

-- a list of lists in which one has grown
pub one_grown : {T Z : Type 0} (lists : List (Vec T Z)) (place : ℕ) (item : T) (x v : Vec T Z) → place < length lists → x ≡ get_or lists place x → v.items ≡ x.items ++ item ∷ []
    → map (λ w. w.items) (set lists place v) ≡ set (map (λ w. w.items) lists) place (get_or (map (λ w. w.items) lists) place [] ++ item ∷ [])
one_grown [] place item x v h is grown = absurd (omega arith)
one_grown (w ∷ lists) zero item x v h is grown = ap (λ xs. xs ∷ map (λ w. w.items) lists) (grown ∙ ap (λ y. y.items ++ item ∷ []) is)
one_grown (w ∷ lists) (suc place) item x v h is grown = ap (λ ws. w.items ∷ ws) (one_grown lists place item x v (omega arith) is grown)

-- a list of lists in which one was written with the items that it had
pub one_kept : {T Z : Type 0} (lists : List (Vec T Z)) (place : ℕ) (x v : Vec T Z) → x ≡ get_or lists place x → v.items ≡ x.items → map (λ w. w.items) (set lists place v) ≡ map (λ w. w.items) lists
one_kept [] place x v is kept = refl
one_kept (w ∷ lists) zero x v is kept = ap (λ xs. xs ∷ map (λ w. w.items) lists) (kept ∙ ap (λ y. y.items) is)
one_kept (w ∷ lists) (suc place) x v is kept = ap (λ ws. w.items ∷ ws) (one_kept lists place x v is kept)

-- what holds in any case holds of an error
pub on_err : {T E P : Type 0} (r : Result T E) → P → OnErr r P
on_err (Ok x) p = tt
on_err (Err e) p = p

-- what stands at a place
abbrev pub under : {T : Type 0} → List (List T) → Option ℕ → List T
under lists place = option_map_or (λ p. get_or lists p []) place []

-- one more under a name that is there
module _ {T : Type 0} (names : List (List ℕ)) (lists new : List (List T)) (name : List ℕ) (place : ℕ) (item : T)
    (count : length lists ≡ length names) (at : position (bytes_eq name) names ≡ Some place)
    (written : new ≡ set lists place (get_or lists place [] ++ item ∷ [])) where
  here : (place < length names) × (name ≡ get_or names place [])
  here = let h = position-Some (bytes_eq name) names place [] at in (h.0, (bytes_decides name (get_or names place [])).0 h.1)

  same : (text : List ℕ) → bytes_eq text name ≡ true → under new (position (bytes_eq text) names) ≡ under lists (position (bytes_eq text) names) ++ one_if true item
  same text e =
      let t : position (bytes_eq text) names ≡ Some place = subst (λ t. position (bytes_eq t) names ≡ Some place) (sym ((bytes_decides text name).0 e)) at in
      rw t (ap (λ l. get_or l place []) written ∙ get_or-set_same lists place (get_or lists place [] ++ item ∷ []) [] (subst (λ n. place < n) (sym count) here.0))

  other : (text : List ℕ) (o : Option ℕ) → bytes_eq text name ≡ false → position (bytes_eq text) names ≡ o → under new o ≡ under lists o ++ one_if false item
  other text None e t = refl
  other text (Some q) e t =
      let h = position-Some (bytes_eq text) names q [] t in
      let apart : q ≢ place = λ s. false≢true (sym e ∙ (bytes_decides text name).1 ((bytes_decides text (get_or names q [])).0 h.1 ∙ ap (λ k. get_or names k []) s ∙ sym here.1)) in
      ap (λ l. get_or l q []) written ∙ get_or-set_other lists place q (get_or lists place [] ++ item ∷ []) [] apart ∙ sym (append-nil (get_or lists q []))

  by_name : (text : List ℕ) (b : Bool) → bytes_eq text name ≡ b → under new (position (bytes_eq text) names) ≡ under lists (position (bytes_eq text) names) ++ one_if b item
  by_name text true e = same text e
  by_name text false e = other text (position (bytes_eq text) names) e refl

  pub put_under : (text : List ℕ) → under new (position (bytes_eq text) names) ≡ under lists (position (bytes_eq text) names) ++ one_if (bytes_eq text name) item
  put_under text = by_name text (bytes_eq text name) refl

-- one under a name that is not there yet
module _ {T : Type 0} (names : List (List ℕ)) (lists : List (List T)) (name : List ℕ) (item : T)
    (count : length lists ≡ length names) (absent : position (bytes_eq name) names ≡ None) where
  abbrev pub new_names : List (List ℕ)
  new_names = names ++ name ∷ []

  abbrev pub new_lists : List (List T)
  new_lists = lists ++ (item ∷ []) ∷ []

  none : list_any (bytes_eq name) names ≡ false
  none = sym (is_some_position (bytes_eq name) names) ∙ ap is_some absent

  now_here : (text : List ℕ) → bytes_eq text name ≡ true → under new_lists (position (bytes_eq text) new_names) ≡ under lists (position (bytes_eq text) names) ++ one_if true item
  now_here text e =
      let t : text ≡ name = (bytes_decides text name).0 e in
      let n : list_any (bytes_eq text) names ≡ false = subst (λ x. list_any (bytes_eq x) names ≡ false) (sym t) none in
      let p : position (bytes_eq text) new_names ≡ Some (length names) = position_push_here (bytes_eq text) names name n e in
      let q : position (bytes_eq text) names ≡ None = subst (λ x. position (bytes_eq x) names ≡ None) (sym t) absent in
      rw (p, q) (get_or_push lists (item ∷ []) [] (length names) count)

  there : (text : List ℕ) (o : Option ℕ) → bytes_eq text name ≡ false → position (bytes_eq text) names ≡ o → under new_lists (position (bytes_eq text) new_names) ≡ under lists o ++ one_if false item
  there text None e t =
      let n : list_any (bytes_eq text) names ≡ false = sym (is_some_position (bytes_eq text) names) ∙ ap is_some t in
      ap (under new_lists) (position_push_other (bytes_eq text) names name n e)
  there text (Some q) e t =
      let n : list_any (bytes_eq text) names ≡ true = sym (is_some_position (bytes_eq text) names) ∙ ap is_some t in
      let h = position-Some (bytes_eq text) names q [] t in
      ap (under new_lists) (position_push_found (bytes_eq text) names name n ∙ t)
      ∙ get_or_append_left lists ((item ∷ []) ∷ []) [] q (subst (λ k. q < k) (sym count) h.0) ∙ sym (append-nil (get_or lists q []))

  by_new : (text : List ℕ) (b : Bool) → bytes_eq text name ≡ b → under new_lists (position (bytes_eq text) new_names) ≡ under lists (position (bytes_eq text) names) ++ one_if b item
  by_new text true e = now_here text e
  by_new text false e = there text (position (bytes_eq text) names) e refl

  pub put_new : (text : List ℕ) → under new_lists (position (bytes_eq text) new_names) ≡ under lists (position (bytes_eq text) names) ++ one_if (bytes_eq text name) item
  put_new text = by_new text (bytes_eq text name) refl
