-- The names of required arguments and input fields, and whether one of them is not given.
use Rattle.std.proofs.Common.{◌≡◌, ℕ, ◌+◌, ◌<◌, length, drop, get_or, drop-cons, add-one, Bool, true, false, List, [], ◌∷◌, ◌++◌, Option, Some, None, map, flat_map, refl, sym, ap, subst, ◌∙◌, ⊎_elim, Contains, append-nil, append_assoc}
use Rattle.std.specs.Prelude.{not, ◌&&◌, ◌||◌, find, if◌then◌else◌}
use Rattle.std.specs.List.{list_any}
use Rattle.std.specs.Option.{option_map, option_map_or}
use Rattle.std.specs.Str.{bytes_eq}
use Rattle.std.specs.Cmp.Lexicographic.{bytes_decides}
use Rattle.std.proofs.lemmas.List.{map-append}
use Rattle.std.proofs.lemmas.List.Elements.{Contains-append_left, Contains-append_right, Contains-append_cases}
use Rattle.gq_text.specs.declared.place.Span.{Span}
use Rattle.gq_tree.specs.Plain.{InputOf}
use Rattle.gq_types.specs.Arguments.{argument_texts}
use Rattle.gq_types.specs.Entries.{Text, EntryOf, Numbered}
use Rattle.gq_types.specs.Joined.{put_in, parts_in, body_in, joined, inputs_in_body, inputs_of}
use Rattle.gq_types.specs.Look.{joined_numbers}
use Rattle.gq_types.specs.LookUps.{parts_of_entry}
use Rattle.gq_types.specs.Names.{argument_named}
use Rattle.gq_types.specs.Required.{is_required, is_missing, is_missing_by, is_any_missing}
use Rattle.gq_types.specs.Helping.RequiredNames.{required_after, inputs_among}
use Rattle.gq_types.proofs.Gathered.{nothing_in, first, only, and_parts, and_both, not_true, not_false, from_any, to_any, found, tested}
use Rattle.gq_types.proofs.PartLookups.{Stand, joined_stand}

-- those of two lists in a row
pub required_append : (before : List Text) (xs ys : List (InputOf Span)) → required_after before (xs ++ ys) ≡ required_after before xs ++ required_after (before ++ argument_texts xs) ys
required_append before [] ys = ap (λ ts. required_after ts ys) (sym (append-nil before))
required_append before (x ∷ xs) ys =
    let here = if not (list_any (bytes_eq x.name.text) before) && is_required x then x.name.text ∷ [] else [] in
    ap (λ ts. here ++ ts) (required_append (before ++ x.name.text ∷ []) xs ys ∙ ap (λ ts. required_after (before ++ x.name.text ∷ []) xs ++ required_after ts ys) (append_assoc before (x.name.text ∷ []) (argument_texts xs)))
    ∙ sym (append_assoc here (required_after (before ++ x.name.text ∷ []) xs) (required_after (before ++ argument_texts (x ∷ xs)) ys))

-- one definition or extension more
pub required_turn : (es : List EntryOf) (numbers : List ℕ) (i : ℕ) (old new before after whole : List Text) → i < length numbers →
    new ≡ old ++ required_after before (parts_of_entry inputs_in_body es (get_or numbers i 0)) →
    after ≡ before ++ argument_texts (parts_of_entry inputs_in_body es (get_or numbers i 0)) →
    old ++ required_after before (inputs_among es (drop i numbers)) ≡ whole →
    new ++ required_after after (inputs_among es (drop (i + 1) numbers)) ≡ whole
required_turn es numbers i old new before after whole lt n a w =
    let here = parts_of_entry inputs_in_body es (get_or numbers i 0) in
    let rest = inputs_among es (drop (i + 1) numbers) in
    let cut : drop i numbers ≡ get_or numbers i 0 ∷ drop (i + 1) numbers = rw add-one (drop-cons numbers i 0 lt) in
    let whole_is : old ++ required_after before (here ++ rest) ≡ whole = subst (λ ks. old ++ required_after before (inputs_among es ks) ≡ whole) cut w in
    let both = required_append before here rest in
    let moved = append_assoc old (required_after before here) (required_after (before ++ argument_texts here) rest) in
    ap (λ xs. xs ++ required_after after rest) n ∙ ap (λ ys. (old ++ required_after before here) ++ required_after ys rest) a ∙ moved ∙ ap (λ zs. old ++ zs) (sym both) ∙ whole_is

-- no text of a list and no further one
module _ (p : Text → Bool) where
  pub none_more : (ts : List Text) (t : Text) → list_any p ts ≡ false → p t ≡ false → list_any p (ts ++ t ∷ []) ≡ false
  none_more [] t none is = ap (λ b. b || false) is
  none_more (u ∷ ts) t none is = by_test (p u) (λ h. none_more ts t h is) none
    where
      by_test : (b : Bool) → (list_any p ts ≡ false → list_any p (ts ++ t ∷ []) ≡ false) → (b || list_any p ts) ≡ false → (b || list_any p (ts ++ t ∷ [])) ≡ false
      by_test true rest h = h
      by_test false rest h = rest h

  pub none_of_both : (ts : List Text) (t : Text) → list_any p (ts ++ t ∷ []) ≡ false → (list_any p ts ≡ false) × (p t ≡ false)
  none_of_both [] t none = (refl, by_test (p t) none)
    where
      by_test : (b : Bool) → (b || false) ≡ false → b ≡ false
      by_test true h = h
      by_test false h = h
  none_of_both (u ∷ ts) t none = by_test (p u) (λ h. none_of_both ts t h) none
    where
      by_test : (b : Bool) → (list_any p (ts ++ t ∷ []) ≡ false → (list_any p ts ≡ false) × (p t ≡ false)) → (b || list_any p (ts ++ t ∷ [])) ≡ false → ((b || list_any p ts) ≡ false) × (p t ≡ false)
      by_test true rest h = absurd (cc)
      by_test false rest h = rest h

-- a name among them is that of a required one, which it means
abbrev Means : List Text → List (InputOf Span) → Text → Type 0
Means before is text = (list_any (bytes_eq text) before ≡ false) × (i : InputOf Span) × (find (λ a. bytes_eq text a.name.text) is ≡ Some i) × (is_required i ≡ true)

pub from_required : (before : List Text) (is : List (InputOf Span)) (text : Text) → Contains (required_after before is) text → Means before is text
from_required before [] text c = nothing_in text c
from_required before (x ∷ xs) text c =
    let here = if not (list_any (bytes_eq x.name.text) before) && is_required x then x.name.text ∷ [] else [] in
    ⊎_elim (λ h. by_here (not (list_any (bytes_eq x.name.text) before) && is_required x) refl h) (λ l. by_later (from_required (before ++ x.name.text ∷ []) xs text l))
    (Contains-append_cases here (required_after (before ++ x.name.text ∷ []) xs) text c)
  where
    by_here : (b : Bool) → (not (list_any (bytes_eq x.name.text) before) && is_required x) ≡ b → Contains (if b then x.name.text ∷ [] else []) text → Means before (x ∷ xs) text
    by_here false is h = nothing_in text h
    by_here true is h =
        let same : text ≡ x.name.text = only x.name.text text h in
        let both = and_parts (not (list_any (bytes_eq x.name.text) before)) (is_required x) is in
        let equal : bytes_eq text x.name.text ≡ true = (bytes_decides text x.name.text).1 same in
        (ap (λ t. list_any (bytes_eq t) before) same ∙ not_true (list_any (bytes_eq x.name.text) before) both.0, x, ap (λ b. if b then Some x else find (λ a. bytes_eq text a.name.text) xs) equal, both.1)

    by_later : Means (before ++ x.name.text ∷ []) xs text → Means before (x ∷ xs) text
    by_later m =
        let both = none_of_both (bytes_eq text) before x.name.text m.0 in
        (both.0, m.1, ap (λ b. if b then Some x else find (λ a. bytes_eq text a.name.text) xs) both.1 ∙ m.2, m.3)

pub to_required : (before : List Text) (is : List (InputOf Span)) (text : Text) (i : InputOf Span) → list_any (bytes_eq text) before ≡ false → find (λ a. bytes_eq text a.name.text) is ≡ Some i → is_required i ≡ true
    → Contains (required_after before is) text
to_required before [] text i none is required = absurd (cc)
to_required before (x ∷ xs) text i none is required =
    by_test (bytes_eq text x.name.text) (λ none_here there. to_required (before ++ x.name.text ∷ []) xs text i none_here there required) refl is
  where
    by_test : (b : Bool) → (list_any (bytes_eq text) (before ++ x.name.text ∷ []) ≡ false → find (λ a. bytes_eq text a.name.text) xs ≡ Some i → Contains (required_after (before ++ x.name.text ∷ []) xs) text)
        → bytes_eq text x.name.text ≡ b → (if b then Some x else find (λ a. bytes_eq text a.name.text) xs) ≡ Some i → Contains (required_after before (x ∷ xs)) text
    by_test true rest equal this =
        let same : text ≡ x.name.text = (bytes_decides text x.name.text).0 equal in
        let it : x ≡ i = cc in
        let needed : is_required x ≡ true = ap is_required it ∙ required in
        let lacks : list_any (bytes_eq x.name.text) before ≡ false = ap (λ t. list_any (bytes_eq t) before) (sym same) ∙ none in
        let both : (not (list_any (bytes_eq x.name.text) before) && is_required x) ≡ true = and_both (not (list_any (bytes_eq x.name.text) before)) (is_required x) (not_false (list_any (bytes_eq x.name.text) before) lacks) needed in
        let there : Contains (x.name.text ∷ []) text = first x.name.text text [] (sym same) in
        Contains-append_left (if not (list_any (bytes_eq x.name.text) before) && is_required x then x.name.text ∷ [] else []) (required_after (before ++ x.name.text ∷ []) xs) text
        (subst (λ b. Contains (if b then x.name.text ∷ [] else []) text) (sym both) there)
    by_test false rest other this =
        Contains-append_right (if not (list_any (bytes_eq x.name.text) before) && is_required x then x.name.text ∷ [] else []) (required_after (before ++ x.name.text ∷ []) xs) text
        (rest (none_more (bytes_eq text) before x.name.text none other) this)

-- two tests that pass together
same_tests : (a b : Bool) → (a ≡ true → b ≡ true) → (b ≡ true → a ≡ true) → a ≡ b
same_tests true b there back = sym (there refl)
same_tests false true there back = back refl
same_tests false false there back = refl

module _ (known : List (InputOf Span)) (given : List Text) where
  abbrev lacks : Text → Bool
  lacks text = not (list_any (bytes_eq text) given)

  from_lacking : list_any lacks (required_after [] known) ≡ true → is_any_missing known given ≡ true
  from_lacking h =
      let t = from_any lacks (required_after [] known) h in
      let m = from_required [] known t.0 t.1 in
      let at = found (λ a. bytes_eq t.0 a.name.text) known m.1 m.2 in
      let same : t.0 ≡ m.1.name.text = (bytes_decides t.0 m.1.name.text).0 at.1 in
      let missing : is_missing known given t.0 ≡ true = and_both (option_map_or is_required (argument_named known t.0) false) (lacks t.0) (ap (λ o. option_map_or is_required o false) m.2 ∙ m.3) t.2 in
      to_any (is_missing_by known given) known m.1 at.0 (and_both (is_required m.1) (is_missing known given m.1.name.text) m.3 (ap (is_missing known given) (sym same) ∙ missing))

  to_lacking : is_any_missing known given ≡ true → list_any lacks (required_after [] known) ≡ true
  to_lacking h =
      let i = from_any (is_missing_by known given) known h in
      let text = i.0.name.text in
      let both = and_parts (is_required i.0) (is_missing known given text) i.2 in
      let parts = and_parts (option_map_or is_required (argument_named known text) false) (lacks text) both.1 in
      let j = tested is_required (argument_named known text) parts.0 in
      to_any lacks (required_after [] known) text (to_required [] known text j.0 refl j.1 j.2) parts.1

  -- one of them is lacking where one is missing
  pub lacking_is : list_any lacks (required_after [] known) ≡ is_any_missing known given
  lacking_is = same_tests (list_any lacks (required_after [] known)) (is_any_missing known given) from_lacking to_lacking

-- the input fields of the entries that belong to a number
all_put : {A : Type 0} (file : ℕ) (xs : List A) → map (λ x. x.it) (put_in file xs) ≡ xs
all_put file [] = refl
all_put file (x ∷ xs) = ap (λ ys. x ∷ ys) (all_put file xs)

among : (es : List EntryOf) (ns : List Numbered) → Stand es ns → inputs_among es (map (λ n. n.number) ns) ≡ map (λ i. i.it) (flat_map (λ n. parts_in inputs_in_body n.entry) ns)
among es [] stand = refl
among es (n ∷ ns) stand =
    let there = inputs_in_body (body_in n.entry.definition) in
    let here : parts_of_entry inputs_in_body es n.number ≡ there = ap (λ o. option_map_or (λ e. inputs_in_body (body_in e.definition)) o []) stand.0 in
    ap (λ xs. xs ++ inputs_among es (map (λ n. n.number) ns)) (here ∙ sym (all_put n.entry.file there))
    ∙ ap (λ xs. map (λ i. i.it) (parts_in inputs_in_body n.entry) ++ xs) (among es ns stand.1)
    ∙ sym (map-append (λ i. i.it) (parts_in inputs_in_body n.entry) (flat_map (λ n. parts_in inputs_in_body n.entry) ns))

pub required_of : (es : List EntryOf) (number : ℕ) → required_after [] (inputs_among es (joined_numbers es number)) ≡ required_after [] (map (λ i. i.it) (inputs_of es number))
required_of es number = ap (required_after []) (among es (joined es number) (joined_stand es number))

-- whether an input field is missing, by the names of those that are required
module _ (es : List EntryOf) (given : List Text) where
  abbrev inputs_at : ℕ → List (InputOf Span)
  inputs_at number = map (λ i. i.it) (inputs_of es number)

  pub missing_of : (names : List Text) (o : Option ℕ) → ◌≡◌ {A = Option (List Text)} (Some names) (option_map (λ number. required_after [] (inputs_at number)) o)
      → list_any (lacks [] given) names ≡ option_map_or (λ number. is_any_missing (inputs_at number) given) o false
  missing_of names None is = absurd (cc)
  missing_of names (Some number) is =
      let same : names ≡ required_after [] (inputs_at number) = cc in
      ap (list_any (lacks [] given)) same ∙ lacking_is (inputs_at number) given

  pub missing_nowhere : (o : Option ℕ) → ◌≡◌ {A = Option (List Text)} None (option_map (λ number. required_after [] (inputs_at number)) o) → false ≡ option_map_or (λ number. is_any_missing (inputs_at number) given) o false
  missing_nowhere None is = refl
  missing_nowhere (Some number) is = absurd (cc)
