-- One more that is found is put into the list of its document alone.
use Rattle.std.proofs.Common.{◌≡◌, ◌<◌, ℕ, zero, suc, Bool, true, false, cond, List, [], ◌∷◌, ◌++◌, Some, None, Option, length, get_or, set, map, take, drop, refl, sym, ap, ◌∙◌, subst, arith}
use Rattle.std.specs.Prelude.{nat_lt, filter, find, position, if◌then◌else◌}
use Rattle.std.specs.List.{AllByRecursion, HoldsAt, position_or_len}
use Rattle.std.specs.List.Sorted.{IsStrictlySortedBy}
use Rattle.std.specs.Str.{bytes_eq}
use Rattle.std.specs.Cmp.Lexicographic.{slice_cmp, bytes_decides, texts_ties}
use Rattle.std.specs.Ordering.{nat_cmp, is_eq}
use Rattle.std.specs.declared.cmp.Ordering.TheVariants.{Less}
use Rattle.std.proofs.lemmas.List.{append-nil, length-set}
use Rattle.std.proofs.lemmas.Bool.Decides.{nat_tests}
use Rattle.std.proofs.lemmas.List.Elements.{filter-append}
use Rattle.std.proofs.lemmas.List.Folds.{find_at}
use Rattle.std.proofs.lemmas.List.Quantifiers.{position-Some}
use Rattle.std.proofs.lemmas.Option.{slice_get_past}
use Rattle.gq_project.specs.declared.document.Doc.{Doc}
use Rattle.gq_project.specs.Documents.{IsInOrder, has_key}
use Rattle.gq_fault.specs.declared.found.Found.{Found}
use Rattle.gq_diagnostics.specs.Diagnostics.{found_in}
use Rattle.gq_diagnostics.specs.Helping.Parted.{IsAt, IsWhere}

-- keys
differ : (a b : List ℕ) → bytes_eq a b ≡ false → bytes_eq b a ≡ false
differ a b h = by_test (bytes_eq b a) refl
  where
    by_test : (t : Bool) → bytes_eq b a ≡ t → t ≡ false
    by_test true e = let same : bytes_eq a b ≡ true = (bytes_decides a b).1 (sym ((bytes_decides b a).0 e)) in absurd (cc)
    by_test false e = refl

below_differs : (a b : List ℕ) → slice_cmp nat_cmp a b ≡ Less → bytes_eq a b ≡ false
below_differs a b h = texts_ties a b ∙ ap is_eq h

-- what is found in a document
module _ (told : List Found) (one : Found) where
  here : (d : Doc) → bytes_eq one.key d.key ≡ true → found_in (told ++ one ∷ []) d ≡ found_in told d ++ one ∷ []
  here d h =
      filter-append (λ (f : Found). bytes_eq f.key d.key) told (one ∷ [])
      ∙ ap (λ (b : Bool). found_in told d ++ (if b then one ∷ [] else [])) h

  elsewhere : (d : Doc) → bytes_eq one.key d.key ≡ false → found_in (told ++ one ∷ []) d ≡ found_in told d
  elsewhere d h =
      filter-append (λ (f : Found). bytes_eq f.key d.key) told (one ∷ [])
      ∙ ap (λ (b : Bool). found_in told d ++ (if b then one ∷ [] else [])) h
      ∙ append-nil (found_in told d)

  all_elsewhere : (ds : List Doc) → AllByRecursion (λ d. bytes_eq one.key d.key ≡ false) ds → map (found_in (told ++ one ∷ [])) ds ≡ map (found_in told) ds
  all_elsewhere [] h = refl
  all_elsewhere (d ∷ ds) h = ap (λ (x : List Found). x ∷ map (found_in (told ++ one ∷ [])) ds) (elsewhere d h.0) ∙ ap (λ xs. found_in told d ∷ xs) (all_elsewhere ds h.1)

none_by_test : (key : List ℕ) (d : Doc) (ds : List Doc) → (find (has_key key) ds ≡ None → AllByRecursion (λ e. bytes_eq key e.key ≡ false) ds) →
    (t : Bool) → has_key key d ≡ t → (if t then Some d else find (has_key key) ds) ≡ None → AllByRecursion (λ e. bytes_eq key e.key ≡ false) (d ∷ ds)
none_by_test key d ds rest true e h = absurd (cc)
none_by_test key d ds rest false e h = (differ d.key key e, rest h)

none_has : (key : List ℕ) (ds : List Doc) → find (has_key key) ds ≡ None → AllByRecursion (λ d. bytes_eq key d.key ≡ false) ds
none_has key [] h = tt
none_has key (d ∷ ds) h = none_by_test key d ds (λ g. none_has key ds g) (has_key key d) refl h

-- what has the key of no document is in no list
pub put_nowhere : (told : List Found) (one : Found) (ds : List Doc) → find (has_key one.key) ds ≡ None → map (found_in told) ds ≡ map (found_in (told ++ one ∷ [])) ds
put_nowhere told one ds h = sym (all_elsewhere told one ds (none_has one.key ds h))

all_after : (key : List ℕ) (ds : List Doc) → AllByRecursion (λ (d : Doc). slice_cmp nat_cmp key d.key ≡ Less) ds → AllByRecursion (λ d. bytes_eq key d.key ≡ false) ds
all_after key [] h = tt
all_after key (d ∷ ds) h = (below_differs key d.key h.0, all_after key ds h.1)

below_at : (first key : List ℕ) (ds : List Doc) (k : ℕ) → AllByRecursion (λ (d : Doc). slice_cmp nat_cmp first d.key ≡ Less) ds → k < length ds → HoldsAt (λ (d : Doc). d.key ≡ key) ds k → slice_cmp nat_cmp first key ≡ Less
below_at first key [] k h l at = absurd (omega (arith, l))
below_at first key (d ∷ ds) zero h l at = ap (λ (b : List ℕ). slice_cmp nat_cmp first b) (sym (at d)) ∙ h.0
below_at first key (d ∷ ds) (suc k) h l at = below_at first key ds k h.1 (omega (arith, l)) (λ e. at e)

-- in the list of its document, and in no other
pub put_there : (told : List Found) (one : Found) (ds : List Doc) (k : ℕ) → IsInOrder ds → k < length ds → HoldsAt (λ (d : Doc). d.key ≡ one.key) ds k →
    set (map (found_in told) ds) k (get_or (map (found_in told) ds) k [] ++ one ∷ []) ≡ map (found_in (told ++ one ∷ [])) ds
unfolding IsStrictlySortedBy
put_there told one [] k order l at = absurd (omega (arith, l))
put_there told one (d ∷ ds) zero order l at =
    let same : one.key ≡ d.key = sym (at d) in
    let rest = all_after one.key ds (subst (λ (key : List ℕ). AllByRecursion (λ (e : Doc). slice_cmp nat_cmp key e.key ≡ Less) ds) (at d) order.0) in
    ap (λ (x : List Found). x ∷ map (found_in told) ds) (sym (here told one d ((bytes_decides one.key d.key).1 same))) ∙ ap (λ xs. found_in (told ++ one ∷ []) d ∷ xs) (sym (all_elsewhere told one ds rest))
put_there told one (d ∷ ds) (suc k) order l at =
    let within : k < length ds = omega (arith, l) in
    let other = differ d.key one.key (below_differs d.key one.key (below_at d.key one.key ds k order.0 within (λ e. at e))) in
    ap (λ xs. found_in told d ∷ xs) (put_there told one ds k order.1 within (λ e. at e)) ∙ ap (λ (x : List Found). x ∷ map (found_in (told ++ one ∷ [])) ds) (sym (elsewhere told one d other))

-- where a search finds a document
pub is_where : (ds : List Doc) (key : List ℕ) (place : Option ℕ) → place ≡ position (has_key key) ds → IsWhere ds key place
is_where ds key None e = absent (nat_lt (position_or_len (has_key key) ds) (length ds)) refl (sym e)
  where
    absent : (b : Bool) → nat_lt (position_or_len (has_key key) ds) (length ds) ≡ b → cond b (Some (position_or_len (has_key key) ds)) None ≡ None → find (has_key key) ds ≡ None
    absent true t h = absurd (cc)
    absent false t h = find_at (has_key key) ds ∙ slice_get_past ds (position_or_len (has_key key) ds) (grind (arith, nat_tests))
is_where ds key (Some k) e = record { in_range = within (nat_lt (position_or_len (has_key key) ds) (length ds)) refl (sym e); here = λ d. (bytes_decides _ key).0 (position-Some (has_key key) ds k d (sym e)).1 }
  where
    within : (b : Bool) → nat_lt (position_or_len (has_key key) ds) (length ds) ≡ b → cond b (Some (position_or_len (has_key key) ds)) None ≡ Some k → k < length ds
    within true t h = let same : position_or_len (has_key key) ds ≡ k = cc in grind (arith, nat_tests)
    within false t h = absurd (cc)

-- what a search tells, of a key that it was asked for
pub nowhere : (ds : List Doc) (key name : List ℕ) (result : Option ℕ) → IsWhere ds name result → result ≡ None → name ≡ key → find (has_key key) ds ≡ None
nowhere ds key name result h e n =
    let told : IsWhere ds name None = subst (λ r. IsWhere ds name r) e h in
    subst (λ k. find (has_key k) ds ≡ None) n told

pub somewhere : (ds : List Doc) (key name : List ℕ) (result : Option ℕ) (k : ℕ) → IsWhere ds name result → result ≡ Some k → name ≡ key → IsAt ds key k
somewhere ds key name result k h e n =
    let told : IsWhere ds name (Some k) = subst (λ r. IsWhere ds name r) e h in
    subst (λ key. IsAt ds key k) n told

take_front : {A : Type 0} (xs zs : List A) → take (length xs) (xs ++ zs) ≡ xs
take_front [] zs = refl
take_front (x ∷ xs) zs = ap (λ ys. x ∷ ys) (take_front xs zs)

-- the lists, once the one that is found is written back into that of its document
pub put_back : (told : List Found) (one : Found) (ds : List Doc) (k n : ℕ) (items now new : List (List Found)) → IsInOrder ds → IsAt ds one.key k → items ≡ map (found_in told) ds → now ≡ items → length now ≡ n →
    new ≡ set now k (get_or now k [] ++ one ∷ []) → take n (new ++ drop (length new) items) ≡ map (found_in (told ++ one ∷ [])) ds
put_back told one ds k n items now new order at held e l w =
    let is : new ≡ set (map (found_in told) ds) k (get_or (map (found_in told) ds) k [] ++ one ∷ []) = w ∙ ap (λ z. set z k (get_or z k [] ++ one ∷ [])) (e ∙ held) in
    let long : length new ≡ n = ap length w ∙ length-set now k (get_or now k [] ++ one ∷ []) ∙ l in
    ap (λ m. take m (new ++ drop (length new) items)) (sym long) ∙ take_front new (drop (length new) items) ∙ is ∙ put_there told one ds k order at.in_range at.here
