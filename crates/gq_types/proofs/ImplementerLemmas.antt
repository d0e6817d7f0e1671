-- The object types that declare an interface, found among the types that declare it.
use Rattle.std.proofs.Common.{◌≡◌, ℕ, suc, ◌+◌, ◌<◌, Bool, true, false, cond, List, [], ◌∷◌, ◌++◌, Option, Some, None, length, map, refl, sym, ◌∙◌, ap, subst, arith, inl, inr}
use Rattle.std.specs.Prelude.{filter, slice_get, ◌&&◌}
use Rattle.std.specs.List.{list_any}
use Rattle.std.specs.Option.{option_map, option_map_or, option_and_then}
use Rattle.std.specs.Str.{bytes_eq}
use Rattle.std.proofs.lemmas.Option.{slice_get_within, slice_get_cases}
use Rattle.gq_types.specs.declared.parts.Parts.{Parts}
use Rattle.gq_types.specs.Entries.{Text, EntryOf, Numbered, numbered_from}
use Rattle.gq_types.specs.Look.{joined_numbers}
use Rattle.gq_types.specs.LookUps.{declares_in, object_name, is_first, is_implementer, implementers}
use Rattle.gq_types.specs.Helping.Tables.{AreParts, lists_in, parts_at}
use Rattle.gq_types.specs.Helping.PossiblePlaces.{object_at}
use Rattle.gq_names.specs.UnderNames.{one_if}
use Rattle.gq_types.specs.Declarers.{declaring_from, declarers_from, declarers}
use Rattle.gq_types.proofs.PartLookups.{interface_is}

-- whether the entry with that number defines an object type that declares the interface
abbrev pub test_at : List EntryOf → Text → ℕ → Bool
test_at es interface n = option_map_or (λ text. is_first es text n && declares_in es n interface) (object_at es n) false

never : (o : Option Text) (f : Text → Bool) → option_map_or (λ text. f text && false) o false ≡ false
never None f = refl
never (Some text) f = never_both (f text)
  where
    never_both : (b : Bool) → (b && false) ≡ false
    never_both true = refl
    never_both false = refl

-- these entries stand from a number on
abbrev StandFrom : List EntryOf → ℕ → List EntryOf → Type 0
StandFrom es k xs = (i : ℕ) → i < length xs → slice_get es (k + i) ≡ slice_get xs i

stand_later : (es : List EntryOf) (k : ℕ) (x : EntryOf) (xs : List EntryOf) → StandFrom es k (x ∷ xs) → StandFrom es (k + 1) xs
stand_later es k x xs s i lt =
    let e : k + suc i ≡ (k + 1) + i = omega arith in
    ap (slice_get es) (sym e) ∙ s (suc i) (omega (arith, lt))

stand_here : (es : List EntryOf) (k : ℕ) (x : EntryOf) (xs : List EntryOf) → StandFrom es k (x ∷ xs) → slice_get es k ≡ Some x
stand_here es k x xs s =
    let e : k + 0 ≡ k = omega arith in
    ap (slice_get es) (sym e) ∙ s 0 (omega arith)

in_front : (b : Bool) (k : ℕ) (rest : List ℕ) → cond b (k ∷ rest) rest ≡ cond b (k ∷ []) [] ++ rest
in_front true k rest = refl
in_front false k rest = refl

module _ (es : List EntryOf) (interface : Text) where
  by_test : (b : Bool) (n : Numbered) (ns : List Numbered) → map (λ n. n.number) (cond b (n ∷ ns) ns) ≡ cond b (n.number ∷ map (λ n. n.number) ns) (map (λ n. n.number) ns)
  by_test true n ns = refl
  by_test false n ns = refl

  step : (b : Bool) (k : ℕ) (x : EntryOf) (rest : List ℕ) → declares_in es k interface ≡ b → slice_get es k ≡ Some x →
      cond (is_implementer es interface (record { number = k; entry = x })) (k ∷ rest) rest ≡ filter (test_at es interface) (one_if b k) ++ rest
  step true k x rest d at =
      let n : Numbered = record { number = k; entry = x } in
      let same : is_implementer es interface n ≡ test_at es interface k =
      ap (λ o. option_map_or (λ text. is_first es text k && declares_in es k interface) (option_and_then (λ e. object_name e.definition) o) false) (sym at) in
      ap (λ b. cond b (k ∷ rest) rest) same ∙ in_front (test_at es interface k) k rest
  step false k x rest d at =
      let n : Numbered = record { number = k; entry = x } in
      let no : is_implementer es interface n ≡ false =
      ap (λ b. option_map_or (λ text. is_first es text k && b) (object_name x.definition) false) d ∙ never (object_name x.definition) (λ text. is_first es text k) in
      ap (λ b. cond b (k ∷ rest) rest) no

  filter_parts : (b : Bool) (k : ℕ) (rest : List ℕ) → filter (test_at es interface) (one_if b k ++ rest) ≡ filter (test_at es interface) (one_if b k) ++ filter (test_at es interface) rest
  filter_parts false k rest = refl
  filter_parts true k rest = in_front (test_at es interface k) k (filter (test_at es interface) rest)

  found_from : (k : ℕ) (xs : List EntryOf) → StandFrom es k xs →
      map (λ n. n.number) (filter (is_implementer es interface) (numbered_from k xs)) ≡ filter (test_at es interface) (declarers_from es k xs interface)
  found_from k [] s = refl
  found_from k (x ∷ xs) s =
      let n : Numbered = record { number = k; entry = x } in
      by_test (is_implementer es interface n) n (filter (is_implementer es interface) (numbered_from (k + 1) xs))
      ∙ ap (λ rest. cond (is_implementer es interface n) (k ∷ rest) rest) (found_from (k + 1) xs (stand_later es k x xs s))
      ∙ step (declares_in es k interface) k x (filter (test_at es interface) (declarers_from es (k + 1) xs interface)) refl (stand_here es k x xs s)
      ∙ sym (filter_parts (declares_in es k interface) k (declarers_from es (k + 1) xs interface))

  pub implementers_are : filter (test_at es interface) (declarers es interface) ≡ implementers es interface
  implementers_are = sym (found_from 0 es (λ i lt. ap (slice_get es) (omega arith)))

-- the parts of entries from a number on
module _ (es : List EntryOf) (text : Text) where
  abbrev ArePartsFrom : ℕ → List Parts → Type 0
  ArePartsFrom k ps = (i : ℕ) (p : Parts) → slice_get ps i ≡ Some p → list_any (bytes_eq text) p.interfaces ≡ declares_in es (k + i) text

  declaring_are : (k : ℕ) (ps : List Parts) (xs : List EntryOf) → length ps ≡ length xs → ArePartsFrom k ps → declaring_from k (map (λ p. p.interfaces) ps) text ≡ declarers_from es k xs text
  declaring_are k [] [] count each = refl
  declaring_are k [] (x ∷ xs) count each = absurd (omega (arith, count))
  declaring_are k (p ∷ ps) [] count each = absurd (omega (arith, count))
  declaring_are k (p ∷ ps) (x ∷ xs) count each =
      let zero_is : k + 0 ≡ k = omega arith in
      let here : list_any (bytes_eq text) p.interfaces ≡ declares_in es k text = subst (λ n. list_any (bytes_eq text) p.interfaces ≡ declares_in es n text) zero_is (each 0 p refl) in
      let later : ArePartsFrom (k + 1) ps = λ i q at. let e : k + suc i ≡ (k + 1) + i = omega arith in subst (λ n. list_any (bytes_eq text) q.interfaces ≡ declares_in es n text) e (each (suc i) q at) in
      ap (λ b. one_if b k ++ declaring_from (k + 1) (map (λ p. p.interfaces) ps) text) here
      ∙ ap (λ rest. one_if (declares_in es k text) k ++ rest) (declaring_are (k + 1) ps xs (omega (arith, count)) later)

  pub declarers_are : (parts : List Parts) → AreParts es parts → declaring_from 0 (map (λ p. p.interfaces) parts) text ≡ declarers es text
  declarers_are parts are = declaring_are 0 parts es are.count each_one
    where
      each_one : ArePartsFrom 0 parts
      each_one i p at =
          let inside : i < length es = subst (λ n. i < n) are.count (slice_get_within parts i p at) in
          let have : option_map lists_in (Some p) ≡ option_map (λ e. parts_at es (joined_numbers es i)) (slice_get es i) =
          elim (slice_get_cases es i).1 [
            | inl h ↦ ap Some (are.each i p at) ∙ ap (option_map (λ e. parts_at es (joined_numbers es i))) (sym h.2)
            | inr h ↦ absurd (omega (arith, inside, h.0))
          ] in
          let zero_is : 0 + i ≡ i = omega arith in
          interface_is es text i (lists_in p) have ∙ ap (λ n. declares_in es n text) (sym zero_is)
