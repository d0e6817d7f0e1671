-- The places of names in spreads, as the names grow at their end.
use Rattle.std.proofs.Common.{◌≡◌, Vec, Global, ℕ, suc, ◌+◌, ◌<◌, ◌≤◌, true, List, [], ◌∷◌, ◌++◌, Option, Some, length, map, get_or, take, drop, refl, sym, ◌∙◌, ap, subst, arith, append_assoc}
use Rattle.std.specs.Prelude.{slice_get}
use Rattle.std.specs.List.{flat_map, list_any, position, take-map}
use Rattle.std.specs.Option.{option_map_or, is_some}
use Rattle.std.specs.Str.{bytes_eq}
use Rattle.std.proofs.lemmas.List.{drop_more, flat_map_more, length-append, length-map, length-take-le, map-append, map_more, take-append-le, take_all}
use Rattle.std.proofs.lemmas.Option.{none-some, same_Some}
use Rattle.gq_names.proofs.PlaceLemmas.{position_push_found, is_some_position}
use Rattle.gq_text.specs.declared.place.Span.{Span}
use Rattle.gq_tree.specs.declared.tree.Name.{Name}
use Rattle.gq_tree.specs.Plain.{NameOf}
use Rattle.gq_tree.specs.Views.{name_of}
use Rattle.gq_types.specs.Entries.{Text}
use Rattle.gq_index.specs.declared.fragments.Fragments.{Fragments}
use Rattle.gq_index.specs.declared.placed.Placed.{Placed}
use Rattle.gq_index.specs.Helping.PlacedParts.{PartAt, placed_part, placed_view}
use Rattle.gq_index.specs.Helping.SpreadNumbers.{spread_numbers, rows_under}
use Rattle.gq_index.specs.Helping.SpreadPlaces.{ArePlaces, AreStanding, KeepPlaces, all_spreads, numbers_at}
use Rattle.gq_index.specs.Helping.StandingParts.{both, numbers_under_names, part_stands, parts_stand}
use Rattle.gq_index.specs.Standing.{named_view, nowhere, stands}
use Rattle.gq_index.proofs.StandLemmas.{both_assoc, both_nowhere}
use Rattle.gq_index.specs.Views.{names_view}

-- a name more at the end
pub keep_new : (names : List Text) (name : Text) → KeepPlaces names (names ++ name ∷ [])
keep_new names name text at is =
    let found : list_any (bytes_eq text) names ≡ true = sym (is_some_position (bytes_eq text) names) ∙ ap is_some is in
    position_push_found (bytes_eq text) names name found ∙ is

-- lists of equal items
head_same : {X : Type 0} (x y : X) (xs ys : List X) → x ∷ xs ≡ y ∷ ys → x ≡ y
head_same x y xs ys e = same_Some x y (ap (λ l. slice_get l 0) e)

tail_same : {X : Type 0} (x y : X) (xs ys : List X) → x ∷ xs ≡ y ∷ ys → xs ≡ ys
tail_same x y xs ys e = ap (drop 1) e

none_there : {X A : Type 0} (x : X) (xs : List X) → [] ≡ x ∷ xs → A
none_there x xs e = absurd (none-some x (ap (λ l. slice_get l 0) e))

abbrev place_of : List Text → NameOf Span → Option ℕ
place_of names n = position (bytes_eq n.text) names

module _ (old new : List Text) (keep : KeepPlaces old new) where
  pub places_kept : (ns : List (NameOf Span)) (ks : List ℕ) → ArePlaces old ns ks → ArePlaces new ns ks
  places_kept [] [] are = refl
  places_kept [] (k ∷ ks) are = none_there _ _ are
  places_kept (n ∷ ns) [] are = none_there _ _ (sym are)
  places_kept (n ∷ ns) (k ∷ ks) are =
      ap (λ o. o ∷ map (place_of new) ns) (keep n.text k (head_same _ _ _ _ are)) ∙ ap (λ l. Some k ∷ l) (places_kept ns ks (tail_same _ _ _ _ are))

-- one name more, and its place
places_more : (names : List Text) (ns : List (NameOf Span)) (ks : List ℕ) (n : NameOf Span) (k : ℕ) → ArePlaces names ns ks → position (bytes_eq n.text) names ≡ Some k → ArePlaces names (ns ++ n ∷ []) (ks ++ k ∷ [])
places_more names ns ks n k are is =
    map-append (place_of names) ns (n ∷ []) ∙ ap (λ l. l ++ place_of names n ∷ []) are ∙ ap (λ o. map Some ks ++ o ∷ []) is ∙ sym (map-append Some ks (k ∷ []))

pub places_next : (old new : List Text) (ns : List (NameOf Span)) (names : List Name) (i : ℕ) (name : Name) (ks next : List ℕ) (k : ℕ) → i < length names → name ≡ get_or names i name → KeepPlaces old new
    → position (bytes_eq name.text) new ≡ Some k → next ≡ ks ++ k ∷ [] → ArePlaces old (ns ++ names_view (take i names)) ks → ArePlaces new (ns ++ names_view (take (i + 1) names)) next
places_next old new ns names i name ks next k inside is keep at put are =
    let so_far : List (NameOf Span) = ns ++ names_view (take i names) in
    let more : so_far ++ name_of name ∷ [] ≡ ns ++ names_view (take (i + 1) names) =
    append_assoc ns (names_view (take i names)) (name_of name ∷ [])
    ∙ ap (λ l. ns ++ l) (ap (λ (m : Name). names_view (take i names) ++ name_of m ∷ []) is ∙ sym (map_more name_of names i name inside)) in
    subst (λ l. ArePlaces new l next) more (subst (λ l. ArePlaces new (so_far ++ name_of name ∷ []) l) (sym put) (places_more new so_far ks (name_of name) k (places_kept old new keep so_far ks are) at))

-- the names of one part more
pub spreads_next : (parts : List Placed) (i : ℕ) (one : Placed) → i < length parts → one ≡ get_or parts i one
    → all_spreads (placed_view (take i parts)) ++ (placed_part one).part.spreads ≡ all_spreads (placed_view (take (i + 1) parts))
spreads_next parts i one inside is =
    let spreads : PartAt → List (NameOf Span) = λ p. p.part.spreads in
    flat_map_more spreads [] (placed_view (take i parts)) (placed_part one)
    ∙ ap all_spreads (ap (λ (p : Placed). placed_view (take i parts) ++ placed_part p ∷ []) is ∙ sym (map_more placed_part parts i one inside))

-- the places of the first names, and those of the others
pub places_split : (names : List Text) (ns ms : List (NameOf Span)) (ks : List ℕ) → ArePlaces names (ns ++ ms) ks
    → (length ns ≤ length ks) × ArePlaces names ns (take (length ns) ks) × ArePlaces names ms (drop (length ns) ks)
places_split names [] ms ks are = (omega arith, refl, are)
places_split names (n ∷ ns) ms [] are = none_there _ _ (sym are)
places_split names (n ∷ ns) ms (k ∷ ks) are =
    let rest = places_split names ns ms ks (tail_same _ _ _ _ are) in
    (omega (arith, rest.0), ap (λ o. o ∷ map (place_of names) ns) (head_same _ _ _ _ are) ∙ ap (λ l. Some k ∷ l) rest.1, rest.2)

-- so of the part that comes next
pub part_split : (names : List Text) (parts : List Placed) (i : ℕ) (one : Placed) (count : ℕ) (ks : List ℕ) → i < length parts → one ≡ get_or parts i one → count ≡ length one.spreads.now
    → ArePlaces names (all_spreads (placed_view (drop i parts))) ks
    → (count ≤ length ks) × ArePlaces names (placed_part one).part.spreads (take count ks) × ArePlaces names (all_spreads (placed_view (drop (i + 1) parts))) (drop count ks)
part_split names parts i one count ks inside is counted are =
    let own : List (NameOf Span) = (placed_part one).part.spreads in
    let rest : List PartAt = placed_view (drop (i + 1) parts) in
    let left : drop i parts ≡ one ∷ drop (i + 1) parts = drop_more parts i one inside ∙ ap (λ (p : Placed). p ∷ drop (i + 1) parts) (sym is) in
    let long : length own ≡ count = length-map one.part.now.spreads.items name_of ∙ sym (counted ∙ ap length one.spreads_are) in
    subst (λ k. (k ≤ length ks) × ArePlaces names own (take k ks) × ArePlaces names (all_spreads rest) (drop k ks)) long
    (places_split names own (all_spreads rest) ks (subst (λ l. ArePlaces names (all_spreads (placed_view l)) ks) left are))

-- the numbers under names are those at their places
pub numbers_by_places : (f : Fragments) (ns : List (NameOf Span)) (ks : List ℕ) → ArePlaces f.names ns ks → flat_map (numbers_at f) ks ≡ spread_numbers (numbers_under_names f) ns
numbers_by_places f [] [] are = refl
numbers_by_places f [] (k ∷ ks) are = none_there _ _ are
numbers_by_places f (n ∷ ns) [] are = none_there _ _ (sym are)
numbers_by_places f (n ∷ ns) (k ∷ ks) are =
    let one : numbers_under_names f n.text ≡ numbers_at f k = ap (λ o. (option_map_or (λ at. get_or (map named_view f.named.items) at nowhere) o nowhere).numbers) (head_same _ _ _ _ are) in
    ap (λ l. l ++ flat_map (numbers_at f) ks) (sym one) ∙ ap (λ l. numbers_under_names f n.text ++ l) (numbers_by_places f ns ks (tail_same _ _ _ _ are))

-- one row more
pub rows_next : (numbers : Text → List ℕ) (parts : List Placed) (i : ℕ) (one : Placed) (rows next : List (Vec ℕ Global)) (row : Vec ℕ Global) (whole : List (List ℕ)) → i < length parts → one ≡ get_or parts i one → next ≡ rows ++ row ∷ []
    → row.items ≡ spread_numbers numbers (placed_part one).part.spreads → map (λ v. v.items) rows ++ rows_under numbers (placed_view (drop i parts)) ≡ whole → map (λ v. v.items) next ++ rows_under numbers (placed_view (drop (i + 1) parts)) ≡ whole
rows_next numbers parts i one rows next row whole inside is put row_is so_far =
    let items : Vec ℕ Global → List ℕ = λ v. v.items in
    let rest : List (List ℕ) = rows_under numbers (placed_view (drop (i + 1) parts)) in
    let left : drop i parts ≡ one ∷ drop (i + 1) parts = drop_more parts i one inside ∙ ap (λ (p : Placed). p ∷ drop (i + 1) parts) (sym is) in
    ap (λ (l : List (Vec ℕ Global)). map items l ++ rest) put ∙ ap (λ (l : List (List ℕ)). l ++ rest) (map-append items rows (row ∷ []))
    ∙ append_assoc (map items rows) (row.items ∷ []) rest ∙ ap (λ (l : List ℕ). map items rows ++ l ∷ rest) row_is
    ∙ sym (ap (λ (l : List Placed). map items rows ++ rows_under numbers (placed_view l)) left) ∙ so_far

-- one part more at the end
stand_push : (k : ℕ) (ps : List PartAt) (p : PartAt) (text : Text) → parts_stand k (ps ++ p ∷ []) text ≡ both (parts_stand k ps text) (part_stands (k + length ps) text p)
stand_push k [] p text =
    let same : k ≡ k + 0 = omega arith in
    both_nowhere (part_stands k text p) ∙ ap (λ i. part_stands i text p) same
stand_push k (q ∷ qs) p text =
    let same : (k + 1) + length qs ≡ k + suc (length qs) = omega arith in
    ap (λ s. both (part_stands k text q) s) (stand_push (k + 1) qs p text ∙ ap (λ i. both (parts_stand (k + 1) qs text) (part_stands i text p)) same)
    ∙ sym (both_assoc (part_stands k text q) (parts_stand (k + 1) qs text) (part_stands (k + suc (length qs)) text p))

pub standing_next : (parts : List Placed) (i : ℕ) (one : Placed) (old new : Fragments) (ks next : List ℕ) → i < length parts → one ≡ get_or parts i one
    → ((text : Text) → stands new text ≡ both (stands old text) (part_stands i text (placed_part one))) → ((ns : List (NameOf Span)) → ArePlaces old.names ns ks → ArePlaces new.names (ns ++ (placed_part one).part.spreads) next)
    → AreStanding (placed_view (take i parts)) old ks → AreStanding (placed_view (take (i + 1) parts)) new next
standing_next parts i one old new ks next inside is put noted so_far =
    let before : List PartAt = placed_view (take i parts) in
    let more : before ++ placed_part one ∷ [] ≡ placed_view (take (i + 1) parts) = ap (λ (p : Placed). before ++ placed_part p ∷ []) is ∙ sym (map_more placed_part parts i one inside) in
    let short : i ≤ length parts = omega (arith, inside) in
    let long : length before ≡ i = length-map (take i parts) placed_part ∙ length-take-le i parts short in
    let count : 0 + length before ≡ i = omega (arith, long) in (
      λ text.
          put text ∙ ap (λ s. both s (part_stands i text (placed_part one))) (so_far.0 text)
          ∙ sym (stand_push 0 before (placed_part one) text ∙ ap (λ k. both (parts_stand 0 before text) (part_stands k text (placed_part one))) count)
          ∙ ap (λ (ps : List PartAt). parts_stand 0 ps text) more,
      subst (λ ns. ArePlaces new.names ns next) (spreads_next parts i one inside is) (noted (all_spreads before) so_far.1),
    )

-- parts that are put behind others leave these as they are
pub first_kept : (old new : List Placed) (put : List PartAt) → placed_view new ≡ placed_view old ++ put → placed_view (take (length old) new) ≡ placed_view old
first_kept old new put e =
    let same : length (placed_view old) ≡ length old = length-map old placed_part in
    let enough : length old ≤ length (placed_view old) = omega (arith, same) in
    let all : length (placed_view old) ≤ length old = omega (arith, same) in
    sym (take-map placed_part (length old) new) ∙ ap (take (length old)) e ∙ take-append-le (length old) (placed_view old) put enough ∙ take_all (length old) (placed_view old) all

pub first_within : (old new : List Placed) (put : List PartAt) → placed_view new ≡ placed_view old ++ put → length old ≤ length new
first_within old new put e =
    let was : length (placed_view old) ≡ length old = length-map old placed_part in
    let now : length (placed_view new) ≡ length new = length-map new placed_part in
    let sum : length (placed_view new) ≡ length (placed_view old) + length put = ap length e ∙ length-append (placed_view old) put in
    omega (arith, was, now, sum)
