-- The response keys of fields in the order of first occurrence (section 6.3.2), said of all of them at once.
use Rattle.std.specs.Prelude.{◌≡◌, ◌≢◌, ◌↔◌, List, [], ◌∷◌, AllPairs, Contains}
use Rattle.gq_meaning.specs.Values.{Text}
use Rattle.gq_meaning.specs.Expand.{Asked}
use Rattle.gq_meaning.specs.Response.{keys_after}

-- something of the first key is met before all of the other key
pub data IsMetBefore {A : Type 0} (key : A → Text) (first other : Text) : List A → Type 0 where
  here : {x : A} {xs : List A} → key x ≡ first → key x ≢ other → IsMetBefore key first other (x ∷ xs)
  later : {x : A} {xs : List A} → key x ≢ other → IsMetBefore key first other xs → IsMetBefore key first other (x ∷ xs)

-- They are the keys of the fields, each once, and one stands before another exactly where its first field is met before the other's.
pub record AreKeysOf (fields : List Asked) (keys : List Text) : Type 0 where
  pub are_theirs : (k : Text) → Contains keys k ↔ ((x : Asked) × Contains fields x × (x.key ≡ k))
  pub each_once : AllPairs (λ a b. a ≢ b) keys
  pub in_order : (a b : Text) → IsMetBefore (λ (k : Text). k) a b keys ↔ IsMetBefore (λ (x : Asked). x.key) a b fields

-- the keys in order of first occurrence are these, and only they
abbrev pub KeysAreInOrder : Type 0
KeysAreInOrder = (fields : List Asked) (keys : List Text) → (keys ≡ keys_after [] fields) ↔ AreKeysOf fields keys
