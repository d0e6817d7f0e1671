-- Fields by a name that is said of them: a list more, or a list with one field more.
use Rattle.std.proofs.Common.{◌≡◌, ◌↔◌, ◌⊎◌, ℕ, ◌+◌, ◌<◌, Bool, true, false, List, [], ◌∷◌, ◌++◌, Option, Some, None, Contains, is_some, length, map, set, get_or, refl, sym, ◌∙◌, ap, subst, inl, inr, arith, Vec, Global}
use Rattle.std.specs.List.{slice_get, position, list_any}
use Rattle.std.specs.Option.{option_map, option_map_or}
use Rattle.std.specs.Str.{bytes_eq}
use Rattle.std.specs.Cmp.Lexicographic.{bytes_decides}
use Rattle.std.proofs.lemmas.Bool.{cases_eq}
use Rattle.std.proofs.lemmas.List.{length-set, length_push, map-set, map-append, get_or_append_left, get_or_push}
use Rattle.std.proofs.lemmas.List.Elements.{Contains-push, Contains-push_cases, Contains-append_left}
use Rattle.std.proofs.lemmas.List.Quantifiers.{position-Some}
use Rattle.std.proofs.lemmas.Option.{slice_get-get_or, slice_get-map, slice_get_read}
use Rattle.gq_names.proofs.PlaceLemmas.{is_some_position, position_push_found, position_push_other, position_push_here}
use Rattle.gq_names.proofs.RepeatLemmas.{contains_none}
use Rattle.gq_types.specs.Entries.{Text}
use Rattle.gq_merging.specs.Helping.NameTables.{ByNameOf, list_at, fields_with, AreListed}
use Rattle.gq_merging.specs.Helping.SetTables.{MemberOf}
use Rattle.gq_merging.specs.Helping.Views.{member_view, members_view}
use Rattle.gq_merging.specs.declared.rows.Member.{Member}
use Rattle.gq_merging.proofs.ClassLemmas.{get_set_same, get_set_other}
use Rattle.gq_merging.proofs.Worklist.{get_longer, get_seam}

-- before any field
pub none_listed : (said : MemberOf → Text) (t : ByNameOf) → t.names ≡ [] → t.lists ≡ [] → AreListed said t []
none_listed said t names lists = record {
  count = ap length lists ∙ sym (ap length names);
  apart = λ i l. let none : i < 0 = subst (λ (ns : List Text). i < length ns) names l in absurd (omega (arith, none));
  each = λ text m. (
    (λ c. absurd (contains_none m (subst (λ ms. Contains ms m) (ap (λ ns. option_map_or (list_at t.lists) (position (bytes_eq text) ns) []) names) c))),
    (λ h. absurd (contains_none m h.0)),
  );
}

list_stays : (ls : List (List MemberOf)) (l : List MemberOf) (i : ℕ) → i < length ls → list_at (ls ++ l ∷ []) i ≡ list_at ls i
list_stays ls l i within =
    let there : slice_get ls i ≡ Some (get_or ls i []) = slice_get-get_or ls i [] within in
    ap (λ o. option_map_or (λ ms. ms) o []) (get_longer ls (l ∷ []) i (get_or ls i []) there ∙ sym there)

tells : (a b : Text) (same : Bool) → bytes_eq a b ≡ same → (a ≡ b) ⊎ (bytes_eq a b ≡ false)
tells a b true e = inl ((bytes_decides a b).0 e)
tells a b false e = inr e

-- each name of a list is there once
abbrev AreApart : List Text → Type 0
AreApart names = (i : ℕ) → i < length names → position (bytes_eq (get_or names i [])) names ≡ Some i

apart_more : (names : List Text) (text : Text) → AreApart names → position (bytes_eq text) names ≡ None → AreApart (names ++ text ∷ [])
apart_more names text are absent i l = elim (cases_eq i (length names)) [
  | inr not_last ↦
      let before : i < length names = omega (arith, l, not_last, length_push names text) in
      let same : get_or (names ++ text ∷ []) i [] ≡ get_or names i [] = get_or_append_left names (text ∷ []) [] i before in
      let found : list_any (bytes_eq (get_or names i [])) names ≡ true = sym (is_some_position (bytes_eq (get_or names i [])) names) ∙ ap is_some (are i before) in
      ap (λ t. position (bytes_eq t) (names ++ text ∷ [])) same ∙ position_push_found (bytes_eq (get_or names i [])) names text found ∙ are i before
  | inl last ↦
      let same : get_or (names ++ text ∷ []) i [] ≡ text = get_or_push names text [] i (sym last) in
      let any : list_any (bytes_eq text) names ≡ false = sym (is_some_position (bytes_eq text) names) ∙ ap is_some absent in
      ap (λ t. position (bytes_eq t) (names ++ text ∷ [])) same ∙ position_push_here (bytes_eq text) names text any ((bytes_decides text text).1 refl) ∙ ap Some (sym last)
]

module _ (said : MemberOf → Text) (old new : ByNameOf) (m : MemberOf) (ms : List MemberOf) (are : AreListed said old ms) where
  -- the list of the field's name gains it, and the others stay
  listed_more : length new.lists ≡ length new.names → AreApart new.names → ((text : Text) → text ≡ said m → fields_with new text ≡ fields_with old text ++ m ∷ []) →
      ((text : Text) → bytes_eq text (said m) ≡ false → fields_with new text ≡ fields_with old text) → AreListed said new (ms ++ m ∷ [])
  listed_more count once here there = record { count = count; apart = once; each = λ text w. by text w (tells text (said m) (bytes_eq text (said m)) refl) }
    where
      by : (text : Text) (w : MemberOf) → (text ≡ said m) ⊎ (bytes_eq text (said m) ≡ false) → Contains (fields_with new text) w ↔ (Contains (ms ++ m ∷ []) w × (said w ≡ text))
      by text w (inl is) = (
        (λ c. elim (Contains-push_cases (fields_with old text) m w (subst (λ l. Contains l w) (here text is) c)) [
          | inl d ↦ let h = (are.each text w).0 d in (Contains-append_left ms (m ∷ []) w h.0, h.1)
          | inr e ↦ (subst (Contains (ms ++ m ∷ [])) e (Contains-push ms m), ap said (sym e) ∙ sym is)
        ]),
        (λ h. subst (λ l. Contains l w) (sym (here text is)) (elim (Contains-push_cases ms m w h.0) [
          | inl d ↦ Contains-append_left (fields_with old text) (m ∷ []) w ((are.each text w).1 (d, h.1))
          | inr e ↦ subst (Contains (fields_with old text ++ m ∷ [])) e (Contains-push (fields_with old text) m)
        ])),
      )
      by text w (inr other) = (
        (λ c. let h = (are.each text w).0 (subst (λ l. Contains l w) (there text other) c) in (Contains-append_left ms (m ∷ []) w h.0, h.1)),
        (λ h. subst (λ l. Contains l w) (sym (there text other)) (elim (Contains-push_cases ms m w h.0) [
          | inl d ↦ (are.each text w).1 (d, h.1)
          | inr e ↦
              let same : bytes_eq text (said m) ≡ true = (bytes_decides text (said m)).1 (sym h.1 ∙ ap said (sym e)) in
              absurd (cc)
        ])),
      )

  -- a list more
  pub listed_first : position (bytes_eq (said m)) old.names ≡ None → new.names ≡ old.names ++ said m ∷ [] → new.lists ≡ old.lists ++ (m ∷ []) ∷ [] → AreListed said new (ms ++ m ∷ [])
  listed_first absent names lists = listed_more count (subst AreApart (sym names) (apart_more old.names (said m) are.apart absent)) here there
    where
      count : length new.lists ≡ length new.names
      count = ap length lists ∙ length_push old.lists (m ∷ []) ∙ ap (λ n. n + 1) are.count ∙ sym (ap length names ∙ length_push old.names (said m))

      as_was : (text : Text) (i : ℕ) → position (bytes_eq text) new.names ≡ Some i → fields_with new text ≡ list_at new.lists i
      as_was text i e = ap (λ o. option_map_or (list_at new.lists) o []) e

      here : (text : Text) → text ≡ said m → fields_with new text ≡ fields_with old text ++ m ∷ []
      here text is =
          let none : position (bytes_eq text) old.names ≡ None = ap (λ t. position (bytes_eq t) old.names) is ∙ absent in
          let any : list_any (bytes_eq text) old.names ≡ false = sym (is_some_position (bytes_eq text) old.names) ∙ ap is_some none in
          let at : position (bytes_eq text) new.names ≡ Some (length old.names) = ap (position (bytes_eq text)) names
          ∙ position_push_here (bytes_eq text) old.names (said m) any ((bytes_decides text (said m)).1 is) in
          let list : slice_get new.lists (length old.names) ≡ Some (m ∷ []) = ap (λ ls. slice_get ls (length old.names)) lists
          ∙ ap (slice_get (old.lists ++ (m ∷ []) ∷ [])) (sym are.count) ∙ get_seam old.lists (m ∷ []) [] in
          as_was text (length old.names) at ∙ ap (λ o. option_map_or (λ ls. ls) o []) list ∙ ap (λ o. option_map_or (list_at old.lists) o [] ++ m ∷ []) (sym none)

      at_place : (text : Text) (o : Option ℕ) → position (bytes_eq text) old.names ≡ o → bytes_eq text (said m) ≡ false → fields_with new text ≡ fields_with old text
      at_place text None none other =
          let any : list_any (bytes_eq text) old.names ≡ false = sym (is_some_position (bytes_eq text) old.names) ∙ ap is_some none in
          let still : position (bytes_eq text) new.names ≡ None = ap (position (bytes_eq text)) names ∙ position_push_other (bytes_eq text) old.names (said m) any other in
          ap (λ o. option_map_or (list_at new.lists) o []) still ∙ ap (λ o. option_map_or (list_at old.lists) o []) (sym none)
      at_place text (Some i) at other =
          let any : list_any (bytes_eq text) old.names ≡ true = sym (is_some_position (bytes_eq text) old.names) ∙ ap is_some at in
          let still : position (bytes_eq text) new.names ≡ Some i = ap (position (bytes_eq text)) names ∙ position_push_found (bytes_eq text) old.names (said m) any ∙ at in
          let within = (position-Some (bytes_eq text) old.names i [] at).0 in
          as_was text i still ∙ ap (λ ls. list_at ls i) lists ∙ list_stays old.lists (m ∷ []) i (subst (λ n. i < n) (sym are.count) within)
          ∙ ap (λ o. option_map_or (list_at old.lists) o []) (sym at)

      there : (text : Text) → bytes_eq text (said m) ≡ false → fields_with new text ≡ fields_with old text
      there text other = at_place text (position (bytes_eq text) old.names) refl other

  -- a list with one field more
  pub listed_other : (place : ℕ) (list : List MemberOf) → position (bytes_eq (said m)) old.names ≡ Some place → slice_get old.lists place ≡ Some list →
      new.names ≡ old.names → new.lists ≡ set old.lists place (list ++ m ∷ []) → AreListed said new (ms ++ m ∷ [])
  listed_other place list is at names lists = listed_more count (subst AreApart (sym names) are.apart) here there
    where
      count : length new.lists ≡ length new.names
      count = ap length lists ∙ length-set old.lists place (list ++ m ∷ []) ∙ are.count ∙ sym (ap length names)

      found : (text : Text) (i : ℕ) → position (bytes_eq text) old.names ≡ Some i → fields_with new text ≡ list_at (set old.lists place (list ++ m ∷ [])) i
      found text i e = ap (λ o. option_map_or (list_at new.lists) o []) (ap (position (bytes_eq text)) names ∙ e) ∙ ap (λ ls. list_at ls i) lists

      here : (text : Text) → text ≡ said m → fields_with new text ≡ fields_with old text ++ m ∷ []
      here text same =
          let e : position (bytes_eq text) old.names ≡ Some place = ap (λ t. position (bytes_eq t) old.names) same ∙ is in
          let was : fields_with old text ≡ list = ap (λ o. option_map_or (list_at old.lists) o []) e ∙ ap (λ o. option_map_or (λ ls. ls) o []) at in
          found text place e ∙ ap (λ o. option_map_or (λ ls. ls) o []) (get_set_same old.lists place (list ++ m ∷ []) list at) ∙ ap (λ l. l ++ m ∷ []) (sym was)

      -- two texts with one place are one
      other_place : (text : Text) (i : ℕ) → position (bytes_eq text) old.names ≡ Some i → bytes_eq text (said m) ≡ false → i ≡ place → ⊥
      other_place text i e other one =
          let p = (position-Some (bytes_eq text) old.names i [] e).1 in
          let q = (position-Some (bytes_eq (said m)) old.names place [] is).1 in
          let left : text ≡ get_or old.names i [] = (bytes_decides text (get_or old.names i [])).0 p in
          let right : said m ≡ get_or old.names place [] = (bytes_decides (said m) (get_or old.names place [])).0 q in
          let same : bytes_eq text (said m) ≡ true = (bytes_decides text (said m)).1 (left ∙ ap (λ n. get_or old.names n []) one ∙ sym right) in
          absurd (cc)

      at_place : (text : Text) (o : Option ℕ) → position (bytes_eq text) old.names ≡ o → bytes_eq text (said m) ≡ false → fields_with new text ≡ fields_with old text
      at_place text None none other =
          ap (λ o. option_map_or (list_at new.lists) o []) (ap (position (bytes_eq text)) names ∙ none) ∙ ap (λ o. option_map_or (list_at old.lists) o []) (sym none)
      at_place text (Some i) e other =
          found text i e ∙ ap (λ o. option_map_or (λ ls. ls) o []) (get_set_other old.lists place i (list ++ m ∷ []) (other_place text i e other))
          ∙ ap (λ o. option_map_or (list_at old.lists) o []) (sym e)

      there : (text : Text) → bytes_eq text (said m) ≡ false → fields_with new text ≡ fields_with old text
      there text other = at_place text (position (bytes_eq text) old.names) refl other

module _ (said : MemberOf → Text) (t : ByNameOf) (ms : List MemberOf) (are : AreListed said t ms) where
  -- the list at a place holds those of the fields of which the name there is said
  pub listed_at : (i : ℕ) → i < length t.lists → (m : MemberOf) → Contains (list_at t.lists i) m → Contains ms m × (said m ≡ get_or t.names i [])
  listed_at i l m c =
      let at : position (bytes_eq (get_or t.names i [])) t.names ≡ Some i = are.apart i (subst (λ n. i < n) are.count l) in
      let there : fields_with t (get_or t.names i []) ≡ list_at t.lists i = ap (λ o. option_map_or (list_at t.lists) o []) at in
      (are.each (get_or t.names i []) m).0 (subst (λ l. Contains l m) (sym there) c)

  -- each field is in the list at some place, and with it those of which the same is said
  pub listed_somewhere : (m : MemberOf) → Contains ms m → (i : ℕ) × (i < length t.lists) × ((w : MemberOf) → Contains ms w → said w ≡ said m → Contains (list_at t.lists i) w)
  listed_somewhere m stands = by_place (position (bytes_eq (said m)) t.names) refl
    where
      by_place : (o : Option ℕ) → position (bytes_eq (said m)) t.names ≡ o → (i : ℕ) × (i < length t.lists) × ((w : MemberOf) → Contains ms w → said w ≡ said m → Contains (list_at t.lists i) w)
      by_place None none = absurd (contains_none m (subst (λ l. Contains l m) (ap (λ o. option_map_or (list_at t.lists) o []) none) ((are.each (said m) m).1 (stands, refl))))
      by_place (Some i) at = (
        i,
        subst (λ n. i < n) (sym are.count) ((position-Some (bytes_eq (said m)) t.names i [] at).0),
        λ w c e. subst (λ l. Contains l w) (ap (λ o. option_map_or (list_at t.lists) o []) at) ((are.each (said m) w).1 (c, e)),
      )

-- the code's lists
abbrev seen : Vec Member Global → List MemberOf
seen v = members_view v.items

pub list_there : (vs : List (Vec Member Global)) (i : ℕ) (v : Vec Member Global) → i < length vs → v ≡ get_or vs i v → slice_get (map seen vs) i ≡ Some (members_view v.items)
list_there vs i v l e = slice_get-map seen vs i ∙ ap (option_map seen) (slice_get_read vs (length vs) i v refl l e)

pub list_set : (vs : List (Vec Member Global)) (i : ℕ) (old new : Vec Member Global) (m : Member) → new.items ≡ old.items ++ m ∷ [] →
    map seen (set vs i new) ≡ set (map seen vs) i (members_view old.items ++ member_view m ∷ [])
list_set vs i old new m e = map-set seen vs i new ∙ ap (set (map seen vs) i) (ap members_view e ∙ map-append member_view old.items (m ∷ []))

pub list_pushed : (vs new : List (Vec Member Global)) (v : Vec Member Global) (m : Member) → new ≡ vs ++ v ∷ [] → v.items ≡ m ∷ [] → map seen new ≡ map seen vs ++ (member_view m ∷ []) ∷ []
list_pushed vs new v m e one = ap (map seen) e ∙ map-append seen vs (v ∷ []) ∙ ap (λ l. map seen vs ++ members_view l ∷ []) one

pub place_there : (names : List Text) (text : Text) (i : ℕ) → position (bytes_eq text) names ≡ Some i → i < length names
place_there names text i e = (position-Some (bytes_eq text) names i [] e).0
