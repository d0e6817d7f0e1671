-- The numbers of the entries that belong to each number.
use Rattle.std.proofs.Common.{◌≡◌, ℕ, ◌+◌, ◌<◌, ◌≤◌, ◌≢◌, Bool, true, false, cond, Vec, List, [], ◌∷◌, ◌++◌, Some, length, map, take, drop, get_or, set, suc, zero, refl, sym, ◌∙◌, ap, arith, append-nil, append_assoc, nat_eq}
use Rattle.std.specs.Option.{option_map_or}
use Rattle.std.specs.List.{filter, slice_get}
use Rattle.std.proofs.lemmas.Grind.{common_steps}
use Rattle.std.proofs.lemmas.List.{drop_all, take_all, get_or-set_same, get_or-set_other}
use Rattle.gq_types.specs.Entries.{EntryOf, Numbered, numbered_from}
use Rattle.gq_types.specs.Joined.{owner, owner_of}
use Rattle.gq_types.specs.Look.{owner_at, joined_numbers}
use Rattle.gq_types.specs.Helping.Tables.{lists_of, AreJoined}

-- those of some entries
abbrev numbers_owned : List EntryOf → ℕ → List Numbered → List ℕ
numbers_owned es k ns = map (λ n. n.number) (filter (λ n. nat_eq (owner es n) k) ns)

-- the lists have those of the entries below i
abbrev pub AreJoinedBelow : List EntryOf → List (List ℕ) → ℕ → Type 0
AreJoinedBelow es lists i = (k : ℕ) → get_or lists k [] ++ numbers_owned es k (numbered_from i (drop i es)) ≡ joined_numbers es k

pub joined_none : (es : List EntryOf) (lists : List (List ℕ)) → ((k : ℕ) → get_or lists k [] ≡ []) → AreJoinedBelow es lists 0
joined_none es lists empty k = ap (λ xs. xs ++ numbers_owned es k (numbered_from 0 es)) (empty k)

pub joined_all : (es : List EntryOf) (lists : List (List ℕ)) (i : ℕ) → length es ≤ i → AreJoinedBelow es lists i → AreJoined es lists
joined_all es lists i end are k = sym (append-nil (get_or lists k [])) ∙ ap (λ rest. get_or lists k [] ++ numbers_owned es k (numbered_from i rest)) (sym (drop_all i es end)) ∙ are k

-- what stands at a place, and what is left behind it
pub split_at : {X : Type 0} (xs : List X) (i : ℕ) → i < length xs → (x : X) × (slice_get xs i ≡ Some x) × (drop i xs ≡ x ∷ drop (i + 1) xs)
split_at [] i h = absurd (omega arith)
split_at (x ∷ xs) zero h = (x, refl, refl)
split_at (x ∷ xs) (suc i) h =
    let rest = split_at xs i (omega arith) in
    let e : suc i + 1 ≡ suc (i + 1) = omega arith in
    (rest.0, rest.1, rest.2 ∙ ap (λ n. rest.0 ∷ drop n (x ∷ xs)) (sym e))

by_owner : (b : Bool) (n : Numbered) (ns : List Numbered) → map (λ n. n.number) (cond b (n ∷ ns) ns) ≡ cond b (n.number ∷ []) [] ++ map (λ n. n.number) ns
by_owner true n ns = refl
by_owner false n ns = refl

-- one more entry
module _ (es : List EntryOf) (lists new : List (List ℕ)) (i o : ℕ) (inside : i < length es) (is : o ≡ owner_at es i) (bound : o < length lists) (written : new ≡ set lists o (get_or lists o [] ++ i ∷ [])) where
  owned_more : (k : ℕ) → numbers_owned es k (numbered_from i (drop i es)) ≡ cond (nat_eq o k) (i ∷ []) [] ++ numbers_owned es k (numbered_from (i + 1) (drop (i + 1) es))
  owned_more k =
      let here = split_at es i inside in
      let n : Numbered = record { number = i; entry = here.0 } in
      let rest = numbered_from (i + 1) (drop (i + 1) es) in
      let owner_is : owner es n ≡ o = sym (ap (λ e. option_map_or (λ e. owner_of es i e.definition) e i) here.1) ∙ sym is in
      ap (λ r. numbers_owned es k (numbered_from i r)) here.2 ∙ by_owner (nat_eq (owner es n) k) n (filter (λ n. nat_eq (owner es n) k) rest)
      ∙ ap (λ m. cond (nat_eq m k) (i ∷ []) [] ++ numbers_owned es k rest) owner_is

  by_same : (b : Bool) (k : ℕ) (rest : List ℕ) → nat_eq o k ≡ b → get_or new k [] ++ rest ≡ get_or lists k [] ++ (cond b (i ∷ []) [] ++ rest)
  by_same true k rest same =
      let e : k ≡ o = grind (arith, common_steps) in
      ap (λ xs. get_or xs k [] ++ rest) written ∙ ap (λ m. get_or (set lists o (get_or lists o [] ++ i ∷ [])) m [] ++ rest) e
      ∙ ap (λ xs. xs ++ rest) (get_or-set_same lists o (get_or lists o [] ++ i ∷ []) [] bound) ∙ append_assoc (get_or lists o []) (i ∷ []) rest
      ∙ ap (λ m. get_or lists m [] ++ (i ∷ rest)) (sym e)
  by_same false k rest other =
      let e : k ≢ o = grind (arith, common_steps) in
      ap (λ xs. get_or xs k [] ++ rest) written ∙ ap (λ xs. xs ++ rest) (get_or-set_other lists o k (get_or lists o [] ++ i ∷ []) [] e)

  pub joined_more : AreJoinedBelow es lists i → AreJoinedBelow es new (i + 1)
  joined_more are k =
      by_same (nat_eq o k) k (numbers_owned es k (numbered_from (i + 1) (drop (i + 1) es))) refl ∙ ap (λ xs. get_or lists k [] ++ xs) (sym (owned_more k)) ∙ are k

-- a slice of a whole list that is written back
pub written_back : {X : Type 0} (n : ℕ) (new old : List X) → n ≡ length old → length new ≡ length old → take n (new ++ drop (length new) old) ≡ new
written_back n new old whole same =
    let none = drop_all (length new) old (omega arith) in
    ap (λ rest. take n (new ++ rest)) none ∙ ap (λ xs. take n xs) (append-nil new) ∙ take_all n new (omega arith)

pub empty_pushed : {Z : Type 0} (lists : List (Vec ℕ Z)) (v : Vec ℕ Z) → v.items ≡ [] → ((k : ℕ) → get_or (lists_of lists) k [] ≡ []) → (k : ℕ) → get_or (lists_of (lists ++ v ∷ [])) k [] ≡ []
empty_pushed [] v is empty zero = is
empty_pushed [] v is empty (suc k) = refl
empty_pushed (w ∷ lists) v is empty zero = empty 0
empty_pushed (w ∷ lists) v is empty (suc k) = empty_pushed lists v is (λ k. empty (suc k)) k
