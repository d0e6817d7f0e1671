-- What stands in the group of a variable, gathered by the numbers of its definitions.
use Rattle.std.proofs.Common.{◌≡◌, ◌↔◌, ℕ, suc, ◌+◌, ◌<◌, ◌≤◌, Bool, true, false, List, [], ◌∷◌, ◌++◌, Option, Some, None, Contains, length, map, refl, sym, ap, subst, ◌∙◌, append_assoc, arith, ⊎_elim}
use Rattle.std.specs.Prelude.{slice_get, slice_index, option_and_then}
use Rattle.std.specs.List.Sorted.{IsStrictlyIncreasing}
use Rattle.std.specs.Option.{option_map, option_map_or, option_or}
use Rattle.std.proofs.lemmas.Option.{slice_get_past, slice_get-map}
use Rattle.std.proofs.lemmas.List.{append-nil}
use Rattle.std.proofs.lemmas.Simd.{map-map}
use Rattle.gq_text.specs.declared.place.Span.{Span}
use Rattle.gq_tree.specs.Plain.{NameOf, VariableOf, Def}
use Rattle.gq_types.specs.Entries.{Text}
use Rattle.gq_types.proofs.Gathered.{nothing_in, first, later, cases_cons, from_flat, to_flat}
use Rattle.gq_index.specs.declared.occurrence.Occurrence.{Occurrence}
use Rattle.gq_index.specs.Occurrences.{DefinitionOf, called, occurrences_of, places_called, definition_places, place_of, occurrences_in_file}
use Rattle.gq_index.specs.VariableNames.{used_variables, defined_variables}
use Rattle.gq_index.specs.VariableGroups.{VariableGroup, itself, with_operation, with_fragment}
use Rattle.gq_query.specs.Helping.Gathered.{first_of, places_at, places_among, if_wanted, wanted_at}
use Rattle.gq_query.specs.Groups.{StandsInGroup, variable_in, variable_at, IsFirstInGroup, here, nowhere}

-- past the last definition nothing else is in the group
none_past : (ds : List DefinitionOf) (n : ℕ) (d : DefinitionOf) {A : Type 0} → length ds ≤ n → slice_get ds n ≡ Some d → A
none_past ds n d past at = absurd (let e : ◌≡◌ {A = Option DefinitionOf} None (Some d) = sym (slice_get_past ds n past) ∙ at in cc)

past_group : (ds : List DefinitionOf) (text : Text) (n k : ℕ) → length ds ≤ n → VariableGroup ds text n k → k ≡ n
past_group ds text n k past itself = refl
past_group ds text n k past (with_operation {o} {f} member reaches) =
    let e = past_group ds text n o past member in
    none_past ds o reaches.is_operation.definition (subst (λ (x : ℕ). length ds ≤ x) (sym e) past) reaches.is_operation.at
past_group ds text n k past (with_fragment {o} {f} member reaches) =
    let e = past_group ds text n f past member in
    none_past ds f reaches.is_fragment.definition (subst (λ (x : ℕ). length ds ≤ x) (sym e) past) reaches.is_fragment.at

-- what stands at a number
stands_at : (names : Def Span → List (NameOf Span)) (ds : List DefinitionOf) (text : Text) (k : ℕ) (o : Occurrence) (found : Option DefinitionOf) → slice_get ds k ≡ found → Contains (option_map_or (λ d. occurrences_of d.file text (names d.definition)) found []) o → (d : DefinitionOf) × (slice_get ds k ≡ Some d) × Contains (occurrences_of d.file text (names d.definition)) o
stands_at names ds text k o None at c = nothing_in o c
stands_at names ds text k o (Some d) at c = (d, at, c)

module _ (names : Def Span → List (NameOf Span)) (ds : List DefinitionOf) (text : Text) (n : ℕ) (numbers : List ℕ) where
  pub in_group : ((k : ℕ) → Contains numbers k ↔ VariableGroup ds text n k) → (o : Occurrence) → Contains (places_among names ds text numbers) o ↔ StandsInGroup names ds text n o
  in_group members o = (
    (λ c.
        let k = from_flat (places_at names ds text) numbers o c in
        let w = stands_at names ds text k.0 o (slice_get ds k.0) refl k.2 in
        record { number = k.0; in_group = (members k.0).0 k.1; definition = w.0; at = w.1; stands = w.2 }),
    (λ w.
        let there : Contains (places_at names ds text w.number) o = subst (λ (d : Option DefinitionOf). Contains (option_map_or (λ d. occurrences_of d.file text (names d.definition)) d []) o) (sym w.at) w.stands in
        to_flat (places_at names ds text) numbers w.number o ((members w.number).1 w.in_group) there),
  )

  pub in_past : length ds ≤ n → numbers ≡ [] → (o : Occurrence) → Contains (places_among names ds text numbers) o ↔ StandsInGroup names ds text n o
  in_past past none o = (
    (λ c. nothing_in o (subst (λ (ks : List ℕ). Contains (places_among names ds text ks) o) none c)),
    (λ w. none_past ds w.number w.definition (subst (λ (x : ℕ). length ds ≤ x) (sym (past_group ds text n w.number past w.in_group)) past) w.at),
  )

-- the first in increasing numbers
tail_increases : (x : ℕ) (xs : List ℕ) → IsStrictlyIncreasing (x ∷ xs) → IsStrictlyIncreasing xs
tail_increases x xs h = λ j b.
    let e : suc j + 1 ≡ suc (j + 1) = omega arith in
    let P : ℕ → Type 0 = λ i. slice_index (x ∷ xs) (suc j) < slice_index (x ∷ xs) i in
    subst P e (h (suc j) (omega arith))

head_below : (x : ℕ) (xs : List ℕ) → IsStrictlyIncreasing (x ∷ xs) → (z : ℕ) → Contains xs z → x < z
head_below x [] h z c = nothing_in z c
head_below x (y ∷ ys) h z c =
    let less : x < y = h 0 (omega arith) in
    ⊎_elim
    (λ e. omega (arith, less, e))
    (λ d. let more = head_below y ys (tail_increases x (y ∷ ys) h) z d in omega (arith, less, more))
    (cases_cons y z ys c)

-- the first number at which something is found, and that nothing is found at the ones before
pub record FirstAt {A : Type 0} (f : ℕ → Option A) (xs : List ℕ) (v : A) : Type 0 where
  pub number : ℕ
  pub stands : Contains xs number
  pub found : f number ≡ Some v
  pub before : (y : ℕ) → y < number → Contains xs y → f y ≡ None

none_of : {A : Type 0} (f : ℕ → Option A) (xs : List ℕ) → first_of f xs ≡ None → (y : ℕ) → Contains xs y → f y ≡ None
none_of f [] e y c = nothing_in y c
none_of {A} f (x ∷ xs) e y c = by (f x) refl e (λ rest d. none_of f xs rest y d)
  where
    by : (o : Option A) → f x ≡ o → option_or o (first_of f xs) ≡ None → (first_of f xs ≡ None → Contains xs y → f y ≡ None) → f y ≡ None
    by None gives rest again = ⊎_elim (λ same. ap f (sym same) ∙ gives) (λ d. again rest d) (cases_cons x y xs c)
    by (Some v) gives rest again = absurd (cc)

first_at : {A : Type 0} (f : ℕ → Option A) (xs : List ℕ) (v : A) → IsStrictlyIncreasing xs → first_of f xs ≡ Some v → FirstAt f xs v
first_at f [] v h e = absurd (cc)
first_at {A} f (x ∷ xs) v h e = by (f x) refl e (first_at f xs v (tail_increases x xs h))
  where
    by : (o : Option A) → f x ≡ o → option_or o (first_of f xs) ≡ Some v → (first_of f xs ≡ Some v → FirstAt f xs v) → FirstAt f (x ∷ xs) v
    by None at rest again =
        let w = again rest in
        record {
          number = w.number;
          stands = later x w.number xs w.stands;
          found = w.found;
          before = λ y less c. ⊎_elim (λ same. ap f (sym same) ∙ at) (λ d. w.before y less d) (cases_cons x y xs c);
        }
    by (Some u) at rest again =
        record {
          number = x;
          stands = first x x xs refl;
          found = at ∙ rest;
          before = λ y less c. ⊎_elim (λ same. absurd (omega (arith, less, same))) (λ d. let below = head_below x xs h y d in absurd (omega (arith, less, below))) (cases_cons x y xs c);
        }

module _ (ds : List DefinitionOf) (text : Text) (n : ℕ) (numbers : List ℕ) where
  pub first_in_group : IsStrictlyIncreasing numbers → ((k : ℕ) → Contains numbers k ↔ VariableGroup ds text n k) → IsFirstInGroup ds text n (first_of (variable_at ds text) numbers)
  first_in_group increasing members = by (first_of (variable_at ds text) numbers) refl
    where
      by : (o : Option (VariableOf Span)) → first_of (variable_at ds text) numbers ≡ o → IsFirstInGroup ds text n (first_of (variable_at ds text) numbers)
      by None e = nowhere (λ k member. none_of (variable_at ds text) numbers e k ((members k).1 member)) e
      by (Some v) e =
          let w = first_at (variable_at ds text) numbers v increasing e in
          here ((members w.number).0 w.stands) w.found (λ earlier less member. w.before earlier less ((members earlier).1 member)) e

  pub first_past : length ds ≤ n → numbers ≡ [] → IsFirstInGroup ds text n (first_of (variable_at ds text) numbers)
  first_past past none =
      nowhere
      (λ k member. ap (λ (o : Option DefinitionOf). option_and_then (λ d. variable_in text d.definition) o) (slice_get_past ds k (subst (λ (x : ℕ). length ds ≤ x) (sym (past_group ds text n k past member)) past)))
      (ap (first_of (variable_at ds text)) none)

-- the places of a name in the definition of that number, by what an index tells
same_definition : (a b : Occurrence) → ◌≡◌ {A = Option Occurrence} (Some a) (Some b) → a ≡ b
same_definition a b e = cc

spans_in : (file : ℕ) (text : Text) (names : List (NameOf Span)) → occurrences_in_file file (places_called text names) ≡ occurrences_of file text names
spans_in file text names = map-map (λ (s : Span). let o : Occurrence = record { file = file; span = s } in o) (λ (n : NameOf Span). n.place) (called text names)

module _ (names : Def Span → List (NameOf Span)) (ds : List DefinitionOf) (text : Text) (number : ℕ) (places : List Occurrence) (all : places ≡ definition_places ds) where
  definition_at : slice_get places number ≡ option_map (λ (d : DefinitionOf). let o : Occurrence = record { file = d.file; span = place_of d.definition } in o) (slice_get ds number)
  definition_at = ap (λ (l : List Occurrence). slice_get l number) all ∙ slice_get-map (λ (d : DefinitionOf). let o : Occurrence = record { file = d.file; span = place_of d.definition } in o) ds number

  pub spans_at : (place : Occurrence) (spans : List Span) → slice_get places number ≡ Some place → spans ≡ option_map_or (λ d. places_called text (names d.definition)) (slice_get ds number) [] → occurrences_in_file place.file spans ≡ places_at names ds text number
  spans_at place spans at are = by (slice_get ds number) (sym definition_at ∙ at) are
    where
      by : (o : Option DefinitionOf) → option_map (λ (d : DefinitionOf). let x : Occurrence = record { file = d.file; span = place_of d.definition } in x) o ≡ Some place → spans ≡ option_map_or (λ d. places_called text (names d.definition)) o [] →
          occurrences_in_file place.file spans ≡ option_map_or (λ d. occurrences_of d.file text (names d.definition)) o []
      by None e are = absurd (cc)
      by (Some d) e are =
          let x : Occurrence = record { file = d.file; span = place_of d.definition } in
          let same : x ≡ place = same_definition x place e in
          ap (occurrences_in_file place.file) are
          ∙ ap (λ (p : Occurrence). occurrences_in_file p.file (places_called text (names d.definition))) (sym same)
          ∙ spans_in d.file text (names d.definition)

  pub nothing_at : slice_get places number ≡ None → places_at names ds text number ≡ []
  nothing_at at = by (slice_get ds number) (sym definition_at ∙ at)
    where
      by : (o : Option DefinitionOf) → option_map (λ (d : DefinitionOf). let x : Occurrence = record { file = d.file; span = place_of d.definition } in x) o ≡ None → option_map_or (λ d. occurrences_of d.file text (names d.definition)) o [] ≡ []
      by None e = refl
      by (Some d) e = absurd (cc)

-- behind others
pub both_behind : (a b : Bool) (before between after uses declarations uses' declarations' : List Occurrence) → between ≡ before ++ if_wanted a uses → after ≡ between ++ if_wanted b declarations → uses ≡ uses' → declarations ≡ declarations' →
    after ≡ before ++ (if_wanted a uses' ++ if_wanted b declarations')
both_behind a b before between after uses declarations uses' declarations' first second same_uses same_declarations =
    second
    ∙ ap (λ (l : List Occurrence). l ++ if_wanted b declarations) first
    ∙ append_assoc before (if_wanted a uses) (if_wanted b declarations)
    ∙ ap (λ (l : List Occurrence). before ++ (if_wanted a l ++ if_wanted b declarations)) same_uses
    ∙ ap (λ (l : List Occurrence). before ++ (if_wanted a uses' ++ if_wanted b l)) same_declarations

none_if : (a : Bool) (l : List Occurrence) → l ≡ [] → if_wanted a l ≡ []
none_if true l none = none
none_if false l none = refl

-- where there is no definition nothing is wanted
pub nothing_wanted : (a b : Bool) (ds : List DefinitionOf) (text : Text) (number : ℕ) (places : List Occurrence) → places ≡ definition_places ds → slice_get places number ≡ None → (before : List Occurrence) → before ≡ before ++ wanted_at ds text a b number
nothing_wanted a b ds text number places all at before =
    let uses = none_if a (places_at used_variables ds text number) (nothing_at used_variables ds text number places all at) in
    let declarations = none_if b (places_at defined_variables ds text number) (nothing_at defined_variables ds text number places all at) in
    sym (append-nil before) ∙ ap (λ (l : List Occurrence). before ++ (l ++ [])) (sym uses) ∙ ap (λ (l : List Occurrence). before ++ (if_wanted a (places_at used_variables ds text number) ++ l)) (sym declarations)
