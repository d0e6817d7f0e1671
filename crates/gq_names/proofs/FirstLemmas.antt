-- First places of names, by their buckets and by their texts.
use Rattle.std.proofs.Common.{◌≡◌, ◌==◌, ℕ, ◌+◌, ◌<◌, Bool, true, false, cond, List, [], ◌∷◌, ◌++◌, length, get_or, Option, Some, None, Result, Ok, Err, OnErr, is_some, not, refl, set, sym, ◌∙◌, ap, subst, arith}
use Rattle.std.specs.Cmp.Lexicographic.{bytes_decides, nat_list_eq_equiv}
use Rattle.std.specs.List.{list_any, position}
use Rattle.std.specs.Str.{bytes_eq}
use Rattle.std.proofs.lemmas.Grind.{common_steps}
use Rattle.std.specs.Map.{update}
use Rattle.std.proofs.lemmas.Bool.{eqb-true, eq-eqb, false≢true}
use Rattle.std.proofs.lemmas.List.{get_or-set_other, get_or-set_same, get_or_append_left, get_or_push, length-set}
use Rattle.gq_names.specs.Helping.Places.{Finds, digest, first_of, found_by, found_in, in_bucket, place_of, second_of}
use Rattle.gq_names.proofs.PlaceLemmas.{is_some_position, position_at_head, position_none, position_push_found, position_push_here, position_push_apart, first_places_stay}

no_place : {X : Type 0} (place : ℕ) → None ≡ Some place → X
no_place place h = absurd (false≢true (ap is_some h))

-- what stands in a bucket of one list stands in that of another, with the same name
abbrev AreSame : List (List ℕ) → List (List ℕ) → Option ℕ → Option ℕ → Type 0
AreSame names names_new at at_new = (place : ℕ) → at ≡ Some place → (at_new ≡ Some place) × (get_or names_new place [] ≡ get_or names place [])

-- what is found in a bucket and behind it is found where more is kept
more_is_found : (names names_new : List (List ℕ)) (name : List ℕ) (at at_new rest rest_new : Option ℕ) → AreSame names names_new at at_new
    → ((place : ℕ) → rest ≡ Some place → rest_new ≡ Some place)
    → (place : ℕ) → found_in names name at rest ≡ Some place → found_in names_new name at_new rest_new ≡ Some place
more_is_found names names_new name None at_new rest rest_new same more place found = no_place place found
more_is_found names names_new name (Some here) at_new rest rest_new same more place found =
    let there = same here refl in
    ap (λ o. found_in names_new name o rest_new) (there.0) ∙ ap (λ n. cond (bytes_eq name n) (Some here) rest_new) (there.1)
    ∙ elim (bytes_eq name (get_or names here [])) as (λ b. cond b (Some here) rest ≡ Some place → cond b (Some here) rest_new ≡ Some place) [ true ↦ λ f. f | false ↦ λ f. more place f ] found

-- what is found in a bucket and behind it is a first place, where what stands there is
found_is_first : (names : List (List ℕ)) (name : List ℕ) (at rest : Option ℕ) → ((place : ℕ) → at ≡ Some place → position (bytes_eq (get_or names place [])) names ≡ Some place)
    → ((place : ℕ) → rest ≡ Some place → position (bytes_eq name) names ≡ Some place)
    → (place : ℕ) → found_in names name at rest ≡ Some place → position (bytes_eq name) names ≡ Some place
found_is_first names name None rest of_bucket of_rest place found = no_place place found
found_is_first names name (Some here) rest of_bucket of_rest place found =
    elim (bytes_eq name (get_or names here [])) as (λ b. bytes_eq name (get_or names here []) ≡ b → cond b (Some here) rest ≡ Some place → position (bytes_eq name) names ≡ Some place) [
      | true ↦ λ t f. ap (λ n. position (bytes_eq n) names) ((bytes_decides name (get_or names here [])).0 t) ∙ of_bucket here refl ∙ f
      | false ↦ λ t f. of_rest place f
    ] refl found

-- a name that a bucket does not hold is looked for behind it
not_here : (names : List (List ℕ)) (name : List ℕ) (at rest : Option ℕ) (here : ℕ) → at ≡ Some here → bytes_eq name (get_or names here []) ≡ false → found_in names name at rest ≡ rest
not_here names name at rest here is other = ap (λ o. found_in names name o rest) is ∙ ap (λ b. cond b (Some here) rest) other

is_here : (names : List (List ℕ)) (name : List ℕ) (at rest : Option ℕ) (here : ℕ) → at ≡ Some here → bytes_eq name (get_or names here []) ≡ true → found_in names name at rest ≡ Some here
is_here names name at rest here is same = ap (λ o. found_in names name o rest) is ∙ ap (λ b. cond b (Some here) rest) same

-- a place is told by what holds it
some_is : {a b : ℕ} → Some a ≡ Some b → a ≡ b
some_is {a} {b} h = ap (λ o. elim o as (λ o. ℕ) [ None ↦ 0 | Some n ↦ n ]) h

-- a place is put in an empty bucket
module _ (at at_new : ℕ → Option ℕ) (bucket here : ℕ) (free : at bucket ≡ None) (sets : (number : ℕ) → at_new number ≡ cond (bucket == number) (Some here) (at number)) where
  sets_here : at_new bucket ≡ Some here
  sets_here = sets bucket ∙ ap (λ b. cond b (Some here) (at bucket)) (eq-eqb bucket bucket refl)

  kept_in_buckets : (number place : ℕ) → at number ≡ Some place → at_new number ≡ Some place
  kept_in_buckets number place is = elim (bucket == number) as (λ b. (bucket == number) ≡ b → at_new number ≡ Some place) [
    | true ↦ λ t. no_place place (sym free ∙ ap at (eqb-true bucket number t) ∙ is)
    | false ↦ λ t. sets number ∙ ap (λ b. cond b (Some here) (at number)) t ∙ is
  ] refl

  -- what a bucket holds then is that place, or what it held
  by_bucket : (P : ℕ → Type 0) → P here → ((number place : ℕ) → at number ≡ Some place → P place) → (number place : ℕ) → at_new number ≡ Some place → P place
  by_bucket P last before number place is = elim (bucket == number) as (λ b. (bucket == number) ≡ b → P place) [
    | true ↦ λ t. subst P (some_is (sym (sets number ∙ ap (λ b. cond b (Some here) (at number)) t) ∙ is)) last
    | false ↦ λ t. before number place (sym (sets number ∙ ap (λ b. cond b (Some here) (at number)) t) ∙ is)
  ] refl

-- the first of the names has the place 0
first_is : (names : List (List ℕ)) → 0 < length names → position (bytes_eq (get_or names 0 [])) names ≡ Some 0
first_is [] some = absurd (omega (arith, some))
first_is (name ∷ names) some = position_at_head (bytes_eq name) name names ((bytes_decides name name).1 refl)

module _ (count : ℕ) (at : ℕ → Option ℕ) (under : List ℕ → Option ℕ) (names : List (List ℕ)) (finds : Finds count at under names) where
  of_first : (name : List ℕ) (place : ℕ) → found_by count at under names name ≡ Some place → position (bytes_eq name) names ≡ Some place
  of_first name place =
      found_is_first names name (at (first_of count (digest name))) (found_in names name (at (second_of count (digest name))) (under name)) (finds.of_buckets (first_of count (digest name)))
      (found_is_first names name (at (second_of count (digest name))) (under name) (finds.of_buckets (second_of count (digest name))) (finds.of_others name)) place

  -- what is found of a name is its first place
  pub found_is : (name : List ℕ) → found_by count at under names name ≡ position (bytes_eq name) names
  found_is name = by_place (position (bytes_eq name) names) (found_by count at under names name) refl refl
    where
      by_place : (place found : Option ℕ) → position (bytes_eq name) names ≡ place → found_by count at under names name ≡ found → found ≡ place
      by_place (Some place) found p f = sym f ∙ finds.all name place p
      by_place None None p f = refl
      by_place None (Some place) p f = no_place place (sym p ∙ of_first name place f)

  -- the first bucket is empty: the name does not stand in the list
  pub none_first : (name : List ℕ) → at (first_of count (digest name)) ≡ None → position (bytes_eq name) names ≡ None
  none_first name is = sym (found_is name) ∙ ap (λ o. found_in names name o (found_in names name (at (second_of count (digest name))) (under name))) is

  pub at_first : (name : List ℕ) (here : ℕ) → at (first_of count (digest name)) ≡ Some here → bytes_eq name (get_or names here []) ≡ true → position (bytes_eq name) names ≡ Some here
  at_first name here is same = sym (found_is name) ∙ is_here names name (at (first_of count (digest name))) (found_in names name (at (second_of count (digest name))) (under name)) here is same

  behind_first : (name : List ℕ) (here : ℕ) → at (first_of count (digest name)) ≡ Some here → bytes_eq name (get_or names here []) ≡ false
      → position (bytes_eq name) names ≡ found_in names name (at (second_of count (digest name))) (under name)
  behind_first name here is other = sym (found_is name) ∙ not_here names name (at (first_of count (digest name))) (found_in names name (at (second_of count (digest name))) (under name)) here is other

  pub none_second : (name : List ℕ) (here : ℕ) → at (first_of count (digest name)) ≡ Some here → bytes_eq name (get_or names here []) ≡ false
      → at (second_of count (digest name)) ≡ None → position (bytes_eq name) names ≡ None
  none_second name here is other none = behind_first name here is other ∙ ap (λ o. found_in names name o (under name)) none

  pub at_second : (name : List ℕ) (here there : ℕ) → at (first_of count (digest name)) ≡ Some here → bytes_eq name (get_or names here []) ≡ false
      → at (second_of count (digest name)) ≡ Some there → bytes_eq name (get_or names there []) ≡ true → position (bytes_eq name) names ≡ Some there
  at_second name here there is other then same = behind_first name here is other ∙ is_here names name (at (second_of count (digest name))) (under name) there then same

  pub behind_second : (name : List ℕ) (here there : ℕ) → at (first_of count (digest name)) ≡ Some here → bytes_eq name (get_or names here []) ≡ false
      → at (second_of count (digest name)) ≡ Some there → bytes_eq name (get_or names there []) ≡ false → position (bytes_eq name) names ≡ under name
  behind_second name here there is other then another = behind_first name here is other ∙ not_here names name (at (second_of count (digest name))) (under name) there then another

  -- what was found is found where more is kept
  module _ (names_new : List (List ℕ)) (at_new : ℕ → Option ℕ) (under_new : List ℕ → Option ℕ) (stay : (place : ℕ) → place < length names → get_or names_new place [] ≡ get_or names place [])
      (kept : (bucket place : ℕ) → at bucket ≡ Some place → at_new bucket ≡ Some place) (told : (text : List ℕ) (place : ℕ) → under text ≡ Some place → under_new text ≡ Some place) where
    same_in : (bucket : ℕ) → AreSame names names_new (at bucket) (at_new bucket)
    same_in bucket place is = (kept bucket place is, stay place (finds.inside bucket place is))

    found_still : (text : List ℕ) (place : ℕ) → found_by count at under names text ≡ Some place → found_by count at_new under_new names_new text ≡ Some place
    found_still text =
        more_is_found names names_new text (at (first_of count (digest text))) (at_new (first_of count (digest text))) (found_in names text (at (second_of count (digest text))) (under text))
        (found_in names_new text (at_new (second_of count (digest text))) (under_new text)) (same_in (first_of count (digest text)))
        (more_is_found names names_new text (at (second_of count (digest text))) (at_new (second_of count (digest text))) (under text) (under_new text)
        (same_in (second_of count (digest text))) (told text))

  -- an empty bucket gets the place of the first name: each name is found as before, since none is found by way of an empty bucket
  pub finds_filled : (bucket : ℕ) (at_new : ℕ → Option ℕ) → at bucket ≡ None → ((number : ℕ) → at_new number ≡ cond (bucket == number) (Some 0) (at number))
      → 0 < length names → Finds count at_new under names
  finds_filled bucket at_new free sets some = record {
    some = finds.some;
    inside = by_bucket at at_new bucket 0 free sets (λ place. place < length names) some finds.inside;
    of_buckets = by_bucket at at_new bucket 0 free sets (λ place. position (bytes_eq (get_or names place [])) names ≡ Some place) (first_is names some) finds.of_buckets;
    of_others = finds.of_others;
    all = λ text place is. found_still names at_new under (λ place inside. refl) (kept_in_buckets at at_new bucket 0 free sets) (λ t here h. h) text place (finds.all text place is);
  }

  -- a name behind the others moves no name that a bucket holds
  module _ (name : List ℕ) where
    stays : (place : ℕ) → place < length names → get_or (names ++ name ∷ []) place [] ≡ get_or names place []
    stays place inside = get_or_append_left names (name ∷ []) [] place inside

    still_first : (text : List ℕ) (place : ℕ) → position (bytes_eq text) names ≡ Some place → position (bytes_eq text) (names ++ name ∷ []) ≡ Some place
    still_first text place is = position_push_found (bytes_eq text) names name (sym (is_some_position (bytes_eq text) names) ∙ ap is_some is) ∙ is

    still_of_bucket : (place : ℕ) → place < length names → position (bytes_eq (get_or names place [])) names ≡ Some place
        → position (bytes_eq (get_or (names ++ name ∷ []) place [])) (names ++ name ∷ []) ≡ Some place
    still_of_bucket place inside is = ap (λ n. position (bytes_eq n) (names ++ name ∷ [])) (stays place inside) ∙ still_first (get_or names place []) place is

    longer : (place : ℕ) → place < length names → place < length (names ++ name ∷ [])
    longer place inside = grind (arith, common_steps, inside)

    -- a name that stands in the list already changes nothing
    pub finds_again : list_any (bytes_eq name) names ≡ true → Finds count at under (names ++ name ∷ [])
    finds_again stands = record {
      some = finds.some;
      inside = λ bucket place is. longer place (finds.inside bucket place is);
      of_buckets = λ bucket place is. still_of_bucket place (finds.inside bucket place is) (finds.of_buckets bucket place is);
      of_others = λ text place is. still_first text place (finds.of_others text place is);
      all = λ text place is. found_still (names ++ name ∷ []) at under stays (λ bucket here h. h) (λ t here h. h) text place
          (finds.all text place (sym (first_places_stay names name stands text) ∙ is));
    }

    module _ (is_new : list_any (bytes_eq name) names ≡ false) where
      here_after : (text : List ℕ) → bytes_eq text name ≡ true → position (bytes_eq text) (names ++ name ∷ []) ≡ Some (length names)
      here_after text same = position_push_here (bytes_eq text) names name (subst (λ t. list_any (bytes_eq t) names ≡ false) (sym ((bytes_decides text name).0 same)) is_new) same

      itself : bytes_eq name name ≡ true
      itself = (bytes_decides name name).1 refl

      -- no bucket held it
      pub not_held : (bucket place : ℕ) → at bucket ≡ Some place → bytes_eq name (get_or (names ++ name ∷ []) place []) ≡ false
      not_held bucket place is = elim (bytes_eq name (get_or names place [])) as (λ b. bytes_eq name (get_or names place []) ≡ b → bytes_eq name (get_or (names ++ name ∷ []) place []) ≡ false) [
        | true ↦ λ t. no_place place (sym (position_none (bytes_eq name) names is_new) ∙ ap (λ n. position (bytes_eq n) names) ((bytes_decides name (get_or names place [])).0 t) ∙ finds.of_buckets bucket place is)
        | false ↦ λ t. ap (bytes_eq name) (stays place (finds.inside bucket place is)) ∙ t
      ] refl

      last_is : bytes_eq name (get_or (names ++ name ∷ []) (length names) []) ≡ true
      last_is = ap (bytes_eq name) (get_or_push names name [] (length names) refl) ∙ itself

      -- the name is put in a bucket or under its text, where it is found
      module _ (at_new : ℕ → Option ℕ) (under_new : List ℕ → Option ℕ) (there : found_by count at_new under_new (names ++ name ∷ []) name ≡ Some (length names))
          (kept : (bucket place : ℕ) → at bucket ≡ Some place → at_new bucket ≡ Some place) (told : (text : List ℕ) (place : ℕ) → under text ≡ Some place → under_new text ≡ Some place) where
        all_found : (text : List ℕ) (place : ℕ) → position (bytes_eq text) (names ++ name ∷ []) ≡ Some place → found_by count at_new under_new (names ++ name ∷ []) text ≡ Some place
        all_found text place is = elim (bytes_eq text name) as (λ b. bytes_eq text name ≡ b → found_by count at_new under_new (names ++ name ∷ []) text ≡ Some place) [
          | true ↦ λ same. subst (λ t. found_by count at_new under_new (names ++ name ∷ []) t ≡ Some place) (sym ((bytes_decides text name).0 same)) (there ∙ sym (here_after text same) ∙ is)
          | false ↦ λ other. found_still (names ++ name ∷ []) at_new under_new stays kept told text place (finds.all text place (sym (position_push_apart (bytes_eq text) names name other) ∙ is))
        ] refl

        pub finds_more : ((bucket place : ℕ) → at_new bucket ≡ Some place → place < length (names ++ name ∷ []))
            → ((bucket place : ℕ) → at_new bucket ≡ Some place → position (bytes_eq (get_or (names ++ name ∷ []) place [])) (names ++ name ∷ []) ≡ Some place)
            → ((text : List ℕ) (place : ℕ) → under_new text ≡ Some place → position (bytes_eq text) (names ++ name ∷ []) ≡ Some place) → Finds count at_new under_new (names ++ name ∷ [])
        finds_more inside of_buckets of_others = record { some = finds.some; inside = inside; of_buckets = of_buckets; of_others = of_others; all = all_found }

      -- the name is put in an empty bucket
      module _ (bucket : ℕ) (at_new : ℕ → Option ℕ) (free : at bucket ≡ None) (sets : (number : ℕ) → at_new number ≡ cond (bucket == number) (Some (length names)) (at number)) where
        pub finds_in_bucket : found_by count at_new under (names ++ name ∷ []) name ≡ Some (length names) → Finds count at_new under (names ++ name ∷ [])
        finds_in_bucket there = finds_more at_new under there (kept_in_buckets at at_new bucket (length names) free sets) (λ text place h. h)
            (by_bucket at at_new bucket (length names) free sets (λ place. place < length (names ++ name ∷ [])) (grind (arith, common_steps))
            (λ number place is. longer place (finds.inside number place is)))
            (by_bucket at at_new bucket (length names) free sets (λ place. position (bytes_eq (get_or (names ++ name ∷ []) place [])) (names ++ name ∷ []) ≡ Some place)
            (ap (λ n. position (bytes_eq n) (names ++ name ∷ [])) (get_or_push names name [] (length names) refl) ∙ here_after name itself)
            (λ number place is. still_of_bucket place (finds.inside number place is) (finds.of_buckets number place is)))
            (λ text place is. still_first text place (finds.of_others text place is))

        pub in_first : bucket ≡ first_of count (digest name) → Finds count at_new under (names ++ name ∷ [])
        in_first is = finds_in_bucket
            (is_here (names ++ name ∷ []) name (at_new (first_of count (digest name))) (found_in (names ++ name ∷ []) name (at_new (second_of count (digest name))) (under name)) (length names)
            (sym (ap at_new is) ∙ sets_here at at_new bucket (length names) free sets) last_is)

        pub in_second : (here : ℕ) → at (first_of count (digest name)) ≡ Some here → bucket ≡ second_of count (digest name) → Finds count at_new under (names ++ name ∷ [])
        in_second here taken is = finds_in_bucket
            (not_here (names ++ name ∷ []) name (at_new (first_of count (digest name))) (found_in (names ++ name ∷ []) name (at_new (second_of count (digest name))) (under name)) here
            (kept_in_buckets at at_new bucket (length names) free sets (first_of count (digest name)) here taken) (not_held (first_of count (digest name)) here taken)
            ∙ is_here (names ++ name ∷ []) name (at_new (second_of count (digest name))) (under name) (length names) (sym (ap at_new is) ∙ sets_here at at_new bucket (length names) free sets) last_is)

      -- the name is put under its text, since both buckets are taken
      pub by_text : (under_new : List ℕ → Option ℕ) (here there : ℕ) → at (first_of count (digest name)) ≡ Some here → at (second_of count (digest name)) ≡ Some there
          → ((text : List ℕ) → under_new text ≡ update bytes_eq under name (Some (length names)) text) → Finds count at under_new (names ++ name ∷ [])
      by_text under_new here there taken also sets = finds_more at under_new found (λ bucket place h. h) told
          (λ bucket place is. longer place (finds.inside bucket place is)) (λ bucket place is. still_of_bucket place (finds.inside bucket place is) (finds.of_buckets bucket place is)) of_texts
        where
          found : found_by count at under_new (names ++ name ∷ []) name ≡ Some (length names)
          found =
              not_here (names ++ name ∷ []) name (at (first_of count (digest name))) (found_in (names ++ name ∷ []) name (at (second_of count (digest name))) (under_new name)) here taken (not_held (first_of count (digest name)) here taken)
              ∙ not_here (names ++ name ∷ []) name (at (second_of count (digest name))) (under_new name) there also (not_held (second_of count (digest name)) there also)
              ∙ sets name ∙ ap (λ b. cond b (Some (length names)) (under name)) itself

          other_text : (text : List ℕ) → bytes_eq name text ≡ false → under_new text ≡ under text
          other_text text other = sets text ∙ ap (λ b. cond b (Some (length names)) (under text)) other

          same_text : (text : List ℕ) → bytes_eq name text ≡ true → under_new text ≡ Some (length names)
          same_text text same = sets text ∙ ap (λ b. cond b (Some (length names)) (under text)) same

          absent : (text : List ℕ) (place : ℕ) → bytes_eq name text ≡ true → position (bytes_eq text) names ≡ Some place → None ≡ Some place
          absent text place same is = sym (position_none (bytes_eq name) names is_new) ∙ ap (λ n. position (bytes_eq n) names) ((bytes_decides name text).0 same) ∙ is

          told : (text : List ℕ) (place : ℕ) → under text ≡ Some place → under_new text ≡ Some place
          told text place is = elim (bytes_eq name text) as (λ b. bytes_eq name text ≡ b → under_new text ≡ Some place) [
            | true ↦ λ same. no_place place (absent text place same (finds.of_others text place is))
            | false ↦ λ other. other_text text other ∙ is
          ] refl

          of_texts : (text : List ℕ) (place : ℕ) → under_new text ≡ Some place → position (bytes_eq text) (names ++ name ∷ []) ≡ Some place
          of_texts text place is = elim (bytes_eq name text) as (λ b. bytes_eq name text ≡ b → position (bytes_eq text) (names ++ name ∷ []) ≡ Some place) [
            | true ↦ λ same. here_after text (nat_list_eq_equiv.symm text name ∙ same) ∙ sym (same_text text same) ∙ is
            | false ↦ λ other. still_first text place (finds.of_others text place (sym (other_text text other) ∙ is))
          ] refl

-- what is kept of a place is that place
kept_place : (place kept : ℕ) → kept ≡ place + 1 → place_of kept ≡ Some place
kept_place place kept is = grind (arith, common_steps, is)

-- a bucket of a list into which the place of a name is put
pub fills : (buckets : List ℕ) (bucket place kept : ℕ) → kept ≡ place + 1 → bucket < length buckets
    → (number : ℕ) → in_bucket (set buckets bucket kept) number ≡ cond (bucket == number) (Some place) (in_bucket buckets number)
fills buckets bucket place kept is within number = by_same (bucket == number) refl
  where
    by_same : (b : Bool) → (bucket == number) ≡ b → in_bucket (set buckets bucket kept) number ≡ cond b (Some place) (in_bucket buckets number)
    by_same true t = subst (λ k. in_bucket (set buckets bucket kept) k ≡ Some place) (eqb-true bucket number t) (ap place_of (get_or-set_same buckets bucket kept 0 within) ∙ kept_place place kept is)
    by_same false t = ap place_of (get_or-set_other buckets bucket number kept 0 (λ same. false≢true (sym t ∙ eq-eqb bucket number (sym same))))

-- there are as many buckets after one of them is filled
pub as_many : (buckets : List ℕ) (bucket kept : ℕ) (at : ℕ → Option ℕ) (under : List ℕ → Option ℕ) (names : List (List ℕ))
    → Finds (length buckets) at under names → Finds (length (set buckets bucket kept)) at under names
as_many buckets bucket kept at under names = subst (λ count. Finds count at under names) (sym (length-set buckets bucket kept))

-- a bucket holds no place, or one
pub is_free : (held : Option ℕ) → is_some held ≡ false → held ≡ None
is_free None h = refl
is_free (Some place) h = absurd (false≢true (sym h))

pub is_taken : (held : Option ℕ) → is_some held ≡ true → (place : ℕ) × (held ≡ Some place)
is_taken None h = absurd (false≢true h)
is_taken (Some place) h = (place, refl)

-- the same is found where the same is kept
pub finds_same : (count : ℕ) (at : ℕ → Option ℕ) (under under_new : List ℕ → Option ℕ) (names : List (List ℕ)) → Finds count at under names → ((text : List ℕ) → under_new text ≡ under text) → Finds count at under_new names
finds_same count at under under_new names finds same = record {
  some = finds.some;
  inside = finds.inside;
  of_buckets = finds.of_buckets;
  of_others = λ name place is. finds.of_others name place (sym (same name) ∙ is);
  all = λ name place is. ap (λ o. found_in names name (at (first_of count (digest name))) (found_in names name (at (second_of count (digest name))) o)) (same name) ∙ finds.all name place is;
}

pub on_err : {T E P : Type 0} (r : Result T E) → P → OnErr r P
on_err (Ok x) p = tt
on_err (Err e) p = p

pub stands_if : (b : Bool) → not b ≡ false → b ≡ true
stands_if b = elim b as (λ b. not b ≡ false → b ≡ true) [ true ↦ λ h. refl | false ↦ λ h. absurd (false≢true (sym h)) ]
