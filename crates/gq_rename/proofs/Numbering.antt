-- What can be renamed in a document, found by its place among the documents and by the number of its first executable
-- definition: how many the documents before it have.
use Rattle.std.proofs.Common.{◌≡◌, ℕ, suc, ◌+◌, ◌≤◌, Bool, true, false, cond, List, [], ◌∷◌, length, take, Some, None, refl, sym, ap, ◌∙◌, arith, if◌then◌else◌}
use Rattle.std.specs.Prelude.{nat_lt, not, slice_get, position}
use Rattle.std.specs.List.{position_or_len}
use Rattle.std.proofs.lemmas.Bool.Decides.{nat_tests}
use Rattle.gq_project.specs.declared.document.Doc.{Doc}
use Rattle.gq_project.specs.Documents.{has_key}
use Rattle.gq_parse.specs.Parsed.{AreParsed}
use Rattle.gq_parse.specs.Parsed as readings
use Rattle.gq_tree.specs.Readings.{ParsedOf, definitions_read}
use Rattle.gq_renamed.specs.Projects.{number_behind}
use Rattle.gq_cut.proofs.FragmentCut.{executables_from}
use Rattle.gq_mentions.specs.Renameables.{renameables}
use Rattle.gq_rename.specs.Asks.{trees_of, renameables_of}
use Rattle.gq_rename.proofs.Below.{count_in}

-- the number of the first one of a document, where the first document has the number `j` and its first one the number `k`
abbrev pub first_of : ℕ → ℕ → ℕ → List ParsedOf → ℕ
first_of i j k rs = length (executables_from j (take i rs)) + k

-- what can be renamed under a key is what can be renamed in its document, as that is read
pub read_at : (key : List ℕ) (i j k : ℕ) (documents : List Doc) (rs : List ParsedOf) (one : ParsedOf) → AreParsed documents rs → position_or_len (has_key key) documents ≡ i → slice_get rs i ≡ Some one → renameables_of key k documents (trees_of rs) ≡ renameables (first_of i j k rs) (definitions_read one)
read_at key i j k [] [] one p e at = absurd (cc)
read_at key i j k [] (r ∷ rs) one p e at = elim p [ ]
read_at key i j k (first ∷ documents) [] one p e at = elim p [ ]
read_at key i j k (first ∷ documents) (r ∷ rs) one (readings.more p ps) e at = by (has_key key first) refl e (λ n there. read_at key n (j + 1) (number_behind (definitions_read r) k) documents rs one ps there)
  where
    by : (b : Bool) → has_key key first ≡ b → cond (not b) (1 + position_or_len (has_key key) documents) 0 ≡ i → ((n : ℕ) → position_or_len (has_key key) documents ≡ n → slice_get rs n ≡ Some one → renameables_of key (number_behind (definitions_read r) k) documents (trees_of rs) ≡ renameables (first_of n (j + 1) (number_behind (definitions_read r) k) rs) (definitions_read one)) → renameables_of key k (first ∷ documents) (trees_of (r ∷ rs)) ≡ renameables (first_of i j k (r ∷ rs)) (definitions_read one)
    by true t here later =
        let zero_is : 0 ≡ i = here in
        let same : r ≡ one = (let h = ap (λ (n : ℕ). slice_get (r ∷ rs) n) zero_is ∙ at in cc) in
        let none : k ≡ first_of 0 j k (r ∷ rs) = omega arith in
        ap (λ (b : Bool). if b then renameables k (definitions_read r) else renameables_of key (number_behind (definitions_read r) k) documents (trees_of rs)) t
        ∙ ap (λ (n : ℕ). renameables n (definitions_read r)) (none ∙ ap (λ (n : ℕ). first_of n j k (r ∷ rs)) zero_is)
        ∙ ap (λ (x : ParsedOf). renameables (first_of i j k (r ∷ rs)) (definitions_read x)) same
    by false t here later =
        let rest : ℕ = position_or_len (has_key key) documents in
        let next : suc rest ≡ i = omega (arith, here) in
        let there : slice_get rs rest ≡ Some one = ap (λ (n : ℕ). slice_get (r ∷ rs) n) next ∙ at in
        let count : first_of rest (j + 1) (number_behind (definitions_read r) k) rs ≡ first_of (suc rest) j k (r ∷ rs) = sym (count_in j k (definitions_read r) (executables_from (j + 1) (take rest rs))) in
        ap (λ (b : Bool). if b then renameables k (definitions_read r) else renameables_of key (number_behind (definitions_read r) k) documents (trees_of rs)) t
        ∙ later rest refl there
        ∙ ap (λ (n : ℕ). renameables n (definitions_read one)) (count ∙ ap (λ (n : ℕ). first_of n j k (r ∷ rs)) next)

-- under a key that no document has nothing can be renamed
pub read_nowhere : (key : List ℕ) (k : ℕ) (documents : List Doc) (rs : List ParsedOf) → AreParsed documents rs → length documents ≤ position_or_len (has_key key) documents → renameables_of key k documents (trees_of rs) ≡ []
read_nowhere key k [] rs p past = refl
read_nowhere key k (first ∷ documents) [] p past = elim p [ ]
read_nowhere key k (first ∷ documents) (r ∷ rs) (readings.more p ps) past = by (has_key key first) refl past (read_nowhere key (number_behind (definitions_read r) k) documents rs ps)
  where
    by : (b : Bool) → has_key key first ≡ b → length (first ∷ documents) ≤ cond (not b) (1 + position_or_len (has_key key) documents) 0 → (length documents ≤ position_or_len (has_key key) documents → renameables_of key (number_behind (definitions_read r) k) documents (trees_of rs) ≡ []) → renameables_of key k (first ∷ documents) (trees_of (r ∷ rs)) ≡ []
    by true t here later = absurd (omega (arith, here))
    by false t here later =
        ap (λ (b : Bool). if b then renameables k (definitions_read r) else renameables_of key (number_behind (definitions_read r) k) documents (trees_of rs)) t
        ∙ later (omega (arith, here))

-- the first place at which a test passes, if there is one
pub some_place : {X : Type 0} (p : X → Bool) (xs : List X) (i : ℕ) → position p xs ≡ Some i → position_or_len p xs ≡ i
some_place p xs i e = by (nat_lt (position_or_len p xs) (length xs)) e
  where
    by : (b : Bool) → cond b (Some (position_or_len p xs)) None ≡ Some i → position_or_len p xs ≡ i
    by true h = cc
    by false h = absurd (cc)

pub no_place : {X : Type 0} (p : X → Bool) (xs : List X) → position p xs ≡ None → length xs ≤ position_or_len p xs
no_place p xs e = by (nat_lt (position_or_len p xs) (length xs)) refl e
  where
    by : (b : Bool) → nat_lt (position_or_len p xs) (length xs) ≡ b → cond b (Some (position_or_len p xs)) None ≡ None → length xs ≤ position_or_len p xs
    by true t h = absurd (cc)
    by false t h = grind (arith, nat_tests)
