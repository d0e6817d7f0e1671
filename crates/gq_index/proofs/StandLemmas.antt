-- What is kept of where names of fragments stand, as names and places come behind the others.
use Rattle.std.proofs.Common.{◌≡◌, ◌≢◌, ℕ, zero, suc, ◌+◌, ◌<◌, Bool, true, false, List, [], ◌∷◌, ◌++◌, Option, Some, None, length, map, get_or, set, sym, ◌∙◌, ap, subst, refl, append-nil, append_assoc, arith}
use Rattle.std.specs.List.{list_any, position}
use Rattle.std.specs.Option.{option_map_or, is_some}
use Rattle.std.specs.Str.{bytes_eq}
use Rattle.std.specs.Cmp.Lexicographic.{bytes_decides}
use Rattle.std.proofs.lemmas.Bool.{false≢true}
use Rattle.std.proofs.lemmas.List.{get_or-set_same, get_or-set_other, get_or_append_left, get_or_push, length-map, map-set}
use Rattle.std.proofs.lemmas.List.Quantifiers.{position-Some}
use Rattle.gq_names.proofs.PlaceLemmas.{position_push_found, position_push_other, position_push_here, is_some_position}
use Rattle.gq_names.specs.UnderNames.{one_if}
use Rattle.gq_text.specs.declared.place.Span.{Span}
use Rattle.gq_tree.specs.Plain.{NameOf}
use Rattle.gq_types.specs.Entries.{Text}
use Rattle.gq_index.specs.declared.fragments.Named.{Named}
use Rattle.gq_index.specs.declared.occurrence.Occurrence.{Occurrence}
use Rattle.gq_index.specs.Helping.PlacedParts.{PartAt, definitions_at, spreads_at, names_at_all}
use Rattle.gq_index.specs.Helping.SpreadNumbers.{numbers_under, fragment_numbers}
use Rattle.gq_index.specs.Helping.StandingParts.{both, defined_at, if_so, spread_at, owns_stand, spreads_stand, part_stands, parts_stand}
use Rattle.gq_index.specs.Occurrences.{occurrences_of}
use Rattle.gq_index.specs.Standing.{StandsOf, nowhere, named_view, under}

-- ---- the ones behind the others

pub both_assoc : (a b c : StandsOf) → both (both a b) c ≡ both a (both b c)
both_assoc a b c = λ d. record {
  definitions = append_assoc a.definitions b.definitions c.definitions d;
  spreads = append_assoc a.spreads b.spreads c.spreads d;
  occurrences = append_assoc a.occurrences b.occurrences c.occurrences d;
  numbers = append_assoc a.numbers b.numbers c.numbers d;
}

pub both_nowhere : (a : StandsOf) → both a nowhere ≡ a
both_nowhere a = λ d. record {
  definitions = append-nil a.definitions d;
  spreads = append-nil a.spreads d;
  occurrences = append-nil a.occurrences d;
  numbers = append-nil a.numbers d;
}

-- one step of a loop: what comes next is put behind what is there
pub one_step : (now next one rest all : StandsOf) → next ≡ both now one → both now (both one rest) ≡ all → both next rest ≡ all
one_step now next one rest all put is = ap (λ s. both s rest) put ∙ both_assoc now one rest ∙ is

-- ---- under a name

-- one more under a name that is there
module _ (names : List Text) (all new : List StandsOf) (name : Text) (place : ℕ) (one : StandsOf)
    (count : length all ≡ length names) (at : position (bytes_eq name) names ≡ Some place)
    (written : new ≡ set all place (both (get_or all place nowhere) one)) where
  here : (place < length names) × (name ≡ get_or names place [])
  here = let h = position-Some (bytes_eq name) names place [] at in (h.0, (bytes_decides name (get_or names place [])).0 h.1)

  same : (text : Text) → bytes_eq text name ≡ true → under names new text ≡ both (under names all text) (if_so true one)
  same text e =
      let t : position (bytes_eq text) names ≡ Some place = subst (λ t. position (bytes_eq t) names ≡ Some place) (sym ((bytes_decides text name).0 e)) at in
      rw t (ap (λ l. get_or l place nowhere) written ∙ get_or-set_same all place (both (get_or all place nowhere) one) nowhere (subst (λ n. place < n) (sym count) here.0))

  other : (text : Text) (o : Option ℕ) → bytes_eq text name ≡ false → position (bytes_eq text) names ≡ o
      → option_map_or (λ k. get_or new k nowhere) o nowhere ≡ both (option_map_or (λ k. get_or all k nowhere) o nowhere) (if_so false one)
  other text None e t = refl
  other text (Some q) e t =
      let h = position-Some (bytes_eq text) names q [] t in
      let apart : q ≢ place = λ s. false≢true (sym e ∙ (bytes_decides text name).1 ((bytes_decides text (get_or names q [])).0 h.1 ∙ ap (λ k. get_or names k []) s ∙ sym here.1)) in
      ap (λ l. get_or l q nowhere) written ∙ get_or-set_other all place q (both (get_or all place nowhere) one) nowhere apart ∙ sym (both_nowhere (get_or all q nowhere))

  by_name : (text : Text) (b : Bool) → bytes_eq text name ≡ b → under names new text ≡ both (under names all text) (if_so b one)
  by_name text true e = same text e
  by_name text false e = other text (position (bytes_eq text) names) e refl

  pub put_under : (text : Text) → under names new text ≡ both (under names all text) (if_so (bytes_eq text name) one)
  put_under text = by_name text (bytes_eq text name) refl

-- the place of a name that is new
pub new_place : (names : List Text) (name : Text) → position (bytes_eq name) names ≡ None → position (bytes_eq name) (names ++ name ∷ []) ≡ Some (length names)
new_place names name absent = position_push_here (bytes_eq name) names name (sym (is_some_position (bytes_eq name) names) ∙ ap is_some absent) ((bytes_decides name name).1 refl)

-- a name more, under which nothing stands yet
module _ (names : List Text) (all : List StandsOf) (name : Text) (count : length all ≡ length names) (absent : position (bytes_eq name) names ≡ None) where
  now_here : (text : Text) → bytes_eq text name ≡ true → under (names ++ name ∷ []) (all ++ nowhere ∷ []) text ≡ under names all text
  now_here text e =
      let t : text ≡ name = (bytes_decides text name).0 e in
      let q : position (bytes_eq text) names ≡ None = subst (λ x. position (bytes_eq x) names ≡ None) (sym t) absent in
      let p : position (bytes_eq text) (names ++ name ∷ []) ≡ Some (length names) = subst (λ x. position (bytes_eq x) (names ++ name ∷ []) ≡ Some (length names)) (sym t) (new_place names name absent) in
      rw (p, q) (get_or_push all nowhere nowhere (length names) count)

  there : (text : Text) (o : Option ℕ) → bytes_eq text name ≡ false → position (bytes_eq text) names ≡ o
      → under (names ++ name ∷ []) (all ++ nowhere ∷ []) text ≡ option_map_or (λ k. get_or all k nowhere) o nowhere
  there text None e t =
      let n : list_any (bytes_eq text) names ≡ false = sym (is_some_position (bytes_eq text) names) ∙ ap is_some t in
      ap (λ o. option_map_or (λ k. get_or (all ++ nowhere ∷ []) k nowhere) o nowhere) (position_push_other (bytes_eq text) names name n e)
  there text (Some q) e t =
      let n : list_any (bytes_eq text) names ≡ true = sym (is_some_position (bytes_eq text) names) ∙ ap is_some t in
      let h = position-Some (bytes_eq text) names q [] t in
      ap (λ o. option_map_or (λ k. get_or (all ++ nowhere ∷ []) k nowhere) o nowhere) (position_push_found (bytes_eq text) names name n ∙ t)
      ∙ get_or_append_left all (nowhere ∷ []) nowhere q (subst (λ k. q < k) (sym count) h.0)

  by_new : (text : Text) (b : Bool) → bytes_eq text name ≡ b → under (names ++ name ∷ []) (all ++ nowhere ∷ []) text ≡ under names all text
  by_new text true e = now_here text e
  by_new text false e = there text (position (bytes_eq text) names) e refl

  pub put_new : (text : Text) → under (names ++ name ∷ []) (all ++ nowhere ∷ []) text ≡ under names all text
  put_new text = by_new text (bytes_eq text name) refl

-- what is kept of names, of which one has grown
pub one_grown : (named : List Named) (place : ℕ) (one : StandsOf) (was now : Named) → place < length named → was ≡ get_or named place was → named_view now ≡ both (named_view was) one
    → map named_view (set named place now) ≡ set (map named_view named) place (both (get_or (map named_view named) place nowhere) one)
one_grown named place one was now inside is grown = map-set named_view named place now ∙ ap (set (map named_view named) place) (grown ∙ ap (λ s. both s one) (seen named place inside is))
  where
    seen : (ns : List Named) (k : ℕ) → k < length ns → was ≡ get_or ns k was → named_view was ≡ get_or (map named_view ns) k nowhere
    seen [] k h e = absurd (omega (arith, h))
    seen (n ∷ ns) zero h e = ap named_view e
    seen (n ∷ ns) (suc k) h e = seen ns k (omega (arith, h)) e

pub grown_under : (names : List Text) (named : List Named) (name : Text) (place : ℕ) (one : StandsOf) (was now : Named) → length named ≡ length names → position (bytes_eq name) names ≡ Some place → was ≡ get_or named place was
    → named_view now ≡ both (named_view was) one → (text : Text) → under names (map named_view (set named place now)) text ≡ both (under names (map named_view named) text) (if_so (bytes_eq text name) one)
grown_under names named name place one was now count at is grown text =
    let inside : place < length named = subst (λ n. place < n) (sym count) (position-Some (bytes_eq name) names place [] at).0 in
    put_under names (map named_view named) (map named_view (set named place now)) name place one (length-map named named_view ∙ count) at (one_grown named place one was now inside is grown) text

-- ---- where names stand in parts

-- the names of a definition, and of its spreads
occurrences_first : (file : ℕ) (text : Text) (n : NameOf Span) (ns : List (NameOf Span)) → occurrences_of file text (n ∷ ns) ≡ one_if (bytes_eq text n.text) (record { file = file; span = n.place }) ++ occurrences_of file text ns
occurrences_first file text n ns = by (bytes_eq text n.text) refl
  where
    by : (b : Bool) → bytes_eq text n.text ≡ b → occurrences_of file text (n ∷ ns) ≡ one_if b (record { file = file; span = n.place }) ++ occurrences_of file text ns
    by true e = rw e refl
    by false e = rw e refl

-- each list of what is put under one name
if_defined : (b : Bool) (place : Occurrence) (number : ℕ) → if_so b (defined_at place number) ≡ record { definitions = one_if b place; spreads = []; occurrences = one_if b place; numbers = one_if b number }
if_defined true place number = refl
if_defined false place number = refl

if_spread : (b : Bool) (place : Occurrence) → if_so b (spread_at place) ≡ record { definitions = []; spreads = one_if b place; occurrences = one_if b place; numbers = [] }
if_spread true place = refl
if_spread false place = refl

owns_are : (file number : ℕ) (text : Text) (names : List (NameOf Span)) → owns_stand file number text names
    ≡ record { definitions = occurrences_of file text names; spreads = []; occurrences = occurrences_of file text names; numbers = numbers_under number text names }
owns_are file number text [] = refl
owns_are file number text (n ∷ ns) =
    let place : Occurrence = record { file = file; span = n.place } in
    let b = bytes_eq text n.text in
    let first : List Occurrence → StandsOf = λ l. record { definitions = l; spreads = []; occurrences = l; numbers = numbers_under number text (n ∷ ns) } in
    ap (λ s. both s (owns_stand file number text ns)) (if_defined b place number)
    ∙ ap (λ s. both (record { definitions = one_if b place; spreads = []; occurrences = one_if b place; numbers = one_if b number }) s) (owns_are file number text ns)
    ∙ ap first (sym (occurrences_first file text n ns))

spreads_are : (file : ℕ) (text : Text) (names : List (NameOf Span)) → spreads_stand file text names
    ≡ record { definitions = []; spreads = occurrences_of file text names; occurrences = occurrences_of file text names; numbers = [] }
spreads_are file text [] = refl
spreads_are file text (n ∷ ns) =
    let place : Occurrence = record { file = file; span = n.place } in
    let b = bytes_eq text n.text in
    let first : List Occurrence → StandsOf = λ l. record { definitions = []; spreads = l; occurrences = l; numbers = [] } in
    ap (λ s. both s (spreads_stand file text ns)) (if_spread b place)
    ∙ ap (λ s. both (record { definitions = []; spreads = one_if b place; occurrences = one_if b place; numbers = [] }) s) (spreads_are file text ns)
    ∙ ap first (sym (occurrences_first file text n ns))

part_is : (number : ℕ) (text : Text) (p : PartAt) → part_stands number text p ≡ record {
  definitions = occurrences_of p.file text p.part.own_name;
  spreads = occurrences_of p.file text p.part.spreads;
  occurrences = occurrences_of p.file text p.part.own_name ++ occurrences_of p.file text p.part.spreads;
  numbers = numbers_under number text p.part.own_name;
}
part_is number text p =
    ap (λ s. both s (spreads_stand p.file text p.part.spreads)) (owns_are p.file number text p.part.own_name)
    ∙ ap (λ s. both (record { definitions = occurrences_of p.file text p.part.own_name; spreads = []; occurrences = occurrences_of p.file text p.part.own_name; numbers = numbers_under number text p.part.own_name }) s) (spreads_are p.file text p.part.spreads)
    ∙ (λ d. record {
      definitions = append-nil (occurrences_of p.file text p.part.own_name) d;
      spreads = occurrences_of p.file text p.part.spreads;
      occurrences = occurrences_of p.file text p.part.own_name ++ occurrences_of p.file text p.part.spreads;
      numbers = append-nil (numbers_under number text p.part.own_name) d;
    })

-- so in all of them
pub parts_are : (number : ℕ) (ps : List PartAt) (text : Text) → parts_stand number ps text
    ≡ record { definitions = definitions_at ps text; spreads = spreads_at ps text; occurrences = names_at_all ps text; numbers = fragment_numbers number ps text }
parts_are number [] text = refl
parts_are number (p ∷ ps) text = ap (λ s. both s (parts_stand (number + 1) ps text)) (part_is number text p) ∙ ap (λ s. both (record {
  definitions = occurrences_of p.file text p.part.own_name;
  spreads = occurrences_of p.file text p.part.spreads;
  occurrences = occurrences_of p.file text p.part.own_name ++ occurrences_of p.file text p.part.spreads;
  numbers = numbers_under number text p.part.own_name;
}) s) (parts_are (number + 1) ps text)
