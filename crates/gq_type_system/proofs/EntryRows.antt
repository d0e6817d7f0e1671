-- Tables with a row for each entry, and entries by their numbers.
use Rattle.std.proofs.Common.{◌≡◌, ℕ, zero, suc, ◌+◌, ◌<◌, List, [], ◌∷◌, ◌++◌, length, get_or, drop, map, flat_map, refl, ap, sym, ◌∙◌, subst, arith, Contains, ⊎_elim, Vec, Global, Some}
use Rattle.std.specs.Prelude.{slice_get}
use Rattle.std.proofs.lemmas.List.{at_drop_more, length-map}
use Rattle.std.proofs.lemmas.List.Elements.{Contains-get_or}
use Rattle.gq_graph.specs.Reach.{row, InRange}
use Rattle.gq_types.specs.Entries.{EntryOf, Numbered, numbered_from, numbered, entry_view, entries_view}
use Rattle.gq_types.specs.declared.entry.Entry.{Entry}
use Rattle.gq_type_system.specs.Helping.EndlessInputsPlaces.{row_items}
use Rattle.gq_types.proofs.Gathered.{nothing_in as in_none, cases_cons as in_cases}

pub row_is : (rows : List (Vec ℕ Global)) (n : ℕ) → row rows n ≡ get_or (row_items rows) n []
row_is [] n = refl
row_is (v ∷ vs) zero = refl
row_is (v ∷ vs) (suc n) = row_is vs n

-- the row of a number, as a place of the table
pub row_at : (rows : List (Vec ℕ Global)) (n : ℕ) (d : Vec ℕ Global) → n < length rows → row rows n ≡ (get_or rows n d).items
row_at [] n d below = absurd (omega arith)
row_at (v ∷ vs) zero d below = refl
row_at (v ∷ vs) (suc n) d below = row_at vs n d (omega arith)

pub in_range : (rows : List (Vec ℕ Global)) → ((m n : ℕ) → m < length rows → Contains (row rows m) n → n < length rows) → InRange rows
in_range rows below k d inside k' d' inside' =
    below k (get_or (get_or rows k d).items k' d') inside
    (subst (λ ns. Contains ns (get_or (get_or rows k d).items k' d')) (sym (row_at rows k d inside)) (Contains-get_or (get_or rows k d).items k' d' inside'))

module _ {Y : Type 0} (f : ℕ → Y) where
  -- one more row
  pub rows_more : (es : List EntryOf) (i : ℕ) → i < length es → map (λ n. f n.number) (numbered_from i (drop i es)) ≡ f i ∷ map (λ n. f n.number) (numbered_from (i + 1) (drop (i + 1) es))
  rows_more [] i below = absurd (omega arith)
  rows_more (e ∷ es) i below = at_drop_more (λ rest. map (λ n. f n.number) (numbered_from i rest)) (e ∷ es) i e below

  rows_from : (es : List EntryOf) (k n : ℕ) (d : Y) → n < length es → get_or (map (λ n. f n.number) (numbered_from k es)) n d ≡ f (k + n)
  rows_from [] k n d below = absurd (omega arith)
  rows_from (e ∷ es) k zero d below = ap f (omega arith)
  rows_from (e ∷ es) k (suc n) d below = rows_from es (k + 1) n d (omega arith) ∙ ap f (omega arith)

  pub rows_are : (es : List EntryOf) (n : ℕ) (d : Y) → n < length es → get_or (map (λ n. f n.number) (numbered es)) n d ≡ f n
  rows_are es n d below = rows_from es 0 n d below ∙ ap f (omega arith)

-- what was gathered from the entries, by one more of them
pub gathered_more : {Y : Type 0} (f : Numbered → List Y) (entries : List Entry) (es : List EntryOf) → entries_view entries ≡ es → (i : ℕ) (e : Entry) → i < length entries → e ≡ get_or entries i e
    → flat_map f (numbered_from i (drop i es)) ≡ f (record { number = i; entry = entry_view e }) ++ flat_map f (numbered_from (i + 1) (drop (i + 1) es))
gathered_more f entries es is i e below at =
    let inside : i < length es = omega (arith, length-map entries entry_view, ap length is) in
    let here : get_or es i (entry_view e) ≡ entry_view e = ap (λ xs. get_or xs i (entry_view e)) (sym is) ∙ get_or-map entry_view entries i e ∙ ap entry_view (sym at) in
    at_drop_more (λ rest. flat_map f (numbered_from i rest)) es i (entry_view e) inside
    ∙ ap (λ x. f (record { number = i; entry = x }) ++ flat_map f (numbered_from (i + 1) (drop (i + 1) es))) here
  where
    get_or-map : {A B : Type 0} (g : A → B) (xs : List A) (n : ℕ) (d : A) → get_or (map g xs) n (g d) ≡ g (get_or xs n d)
    get_or-map g [] n d = refl
    get_or-map g (x ∷ xs) zero d = refl
    get_or-map g (x ∷ xs) (suc n) d = get_or-map g xs n d

length_from : (k : ℕ) (es : List EntryOf) → length (numbered_from k es) ≡ length es
length_from k [] = refl
length_from k (e ∷ es) = ap suc (length_from (k + 1) es)

pub length_numbered : (es : List EntryOf) → length (numbered es) ≡ length es
length_numbered es = length_from 0 es

-- an entry stands at its number
stands_from : (k : ℕ) (es : List EntryOf) (n : Numbered) → Contains (numbered_from k es) n → (i : ℕ) × (n.number ≡ k + i) × (slice_get es i ≡ Some n.entry)
stands_from k [] n found = absurd (in_none n found)
stands_from k (e ∷ es) n found = ⊎_elim
    (λ is. (0, omega (arith, ap (λ m. m.number) is), ap (λ (m : Numbered). Some m.entry) is))
    (λ there. let rest = stands_from (k + 1) es n there in (suc rest.0, omega (arith, rest.1), rest.2))
    (in_cases (record { number = k; entry = e }) n (numbered_from (k + 1) es) found)

pub stands : (es : List EntryOf) (n : Numbered) → Contains (numbered es) n → slice_get es n.number ≡ Some n.entry
stands es n found = let at = stands_from 0 es n found in subst (λ i. slice_get es i ≡ Some n.entry) (omega (arith, at.1)) at.2
