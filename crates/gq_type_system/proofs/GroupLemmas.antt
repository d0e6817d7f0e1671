-- What is gathered by the numbers of a group is what is gathered by its entries.
use Rattle.std.proofs.Common.{◌≡◌, ℕ, List, [], ◌∷◌, ◌++◌, Option, Some, None, refl, sym, ap, ◌∙◌, Contains, flat_map, map, nat_eq, length, ◌≤◌, drop, append-nil}
use Rattle.std.proofs.lemmas.List.{drop_all}
use Rattle.std.specs.Prelude.{slice_get}
use Rattle.std.specs.Option.{option_map_or, option_map}
use Rattle.std.proofs.lemmas.Option.{slice_get-map, slice_get-get_or, slice_get_past}
use Rattle.gq_names.proofs.RepeatLemmas.{contains_first, contains_later}
use Rattle.gq_types.specs.declared.entry.Entry.{Entry}
use Rattle.gq_types.specs.Entries.{EntryOf, Numbered, numbered, entry_view, entries_view}
use Rattle.gq_types.specs.Joined.{joined, owner}
use Rattle.gq_types.specs.Look.{joined_numbers}
use Rattle.gq_type_system.specs.Helping.Groups.{at_number, at_numbers}
use Rattle.gq_type_system.proofs.NumberLemmas.{stands_at_number}
use Rattle.gq_types.proofs.Gathered.{from_filter}

module _ {A : Type 0} (f : EntryOf → List A) where
  viewed : (o : Option Entry) → option_map_or f (option_map entry_view o) [] ≡ option_map_or (λ e. f (entry_view e)) o []
  viewed None = refl
  viewed (Some e) = refl

  pub at_viewed : (es : List Entry) (number : ℕ) → at_number f (entries_view es) number ≡ option_map_or (λ e. f (entry_view e)) (slice_get es number) []
  at_viewed es number = ap (λ o. option_map_or f o []) (slice_get-map entry_view es number) ∙ viewed (slice_get es number)

  at_own_number : (es : List EntryOf) (n : Numbered) → Contains (numbered es) n → at_number f es n.number ≡ f n.entry
  at_own_number es n c =
      let s = stands_at_number es n c in
      ap (λ o. option_map_or f o []) (slice_get-get_or es n.number n.entry s.0) ∙ ap f s.1

  all_own : (es : List EntryOf) (ns : List Numbered) → ((n : Numbered) → Contains ns n → Contains (numbered es) n) → at_numbers f es (map (λ n. n.number) ns) ≡ flat_map (λ n. f n.entry) ns
  all_own es [] within = refl
  all_own es (n ∷ ns) within =
      let here = at_own_number es n (within n (contains_first n ns n refl)) in
      let rest = all_own es ns (λ m c. within m (contains_later n ns m c)) in
      ap (λ xs. xs ++ at_numbers f es (map (λ m. m.number) ns)) here ∙ ap (λ xs. f n.entry ++ xs) rest

  pub at_joined : (es : List EntryOf) (number : ℕ) → at_numbers f es (joined_numbers es number) ≡ flat_map (λ n. f n.entry) (joined es number)
  at_joined es number = all_own es (joined es number) (λ n c. (from_filter (λ m. nat_eq (owner es m) number) (numbered es) n c).0)

  pub at_past : (es : List Entry) (number : ℕ) → length es ≤ number → at_number f (entries_view es) number ≡ []
  at_past es number past = at_viewed es number ∙ ap (λ o. option_map_or (λ e. f (entry_view e)) o []) (slice_get_past es number past)

  -- what a loop over the numbers of a group has gathered at its end
  pub gathered : (es : List EntryOf) (number : ℕ) (numbers : List ℕ) (found : List A) (i : ℕ) → numbers ≡ joined_numbers es number → length numbers ≤ i →
      found ++ at_numbers f es (drop i numbers) ≡ at_numbers f es numbers → found ≡ flat_map (λ n. f n.entry) (joined es number)
  gathered es number numbers found i are past so_far =
      sym (append-nil found) ∙ ap (λ rest. found ++ at_numbers f es rest) (sym (drop_all i numbers past)) ∙ so_far ∙ ap (at_numbers f es) are ∙ at_joined es number

-- for what is gathered over a group
pub ruleset groups = (at_viewed, at_joined)
