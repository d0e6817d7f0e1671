-- What is noted of documents, by their numbers.
use Rattle.std.specs.Prelude.{◌≡◌, ℕ, List, Option, Some, slice_get}
use Rattle.gq_tree.specs.Readings.{ParsedOf}

-- what the one list notes stands in the other
abbrev pub IsNoMore : {T : Type 0} → List (Option T) → List (Option T) → Type 0
IsNoMore {T} all notes = (n : ℕ) (t : T) → slice_get notes n ≡ Some (Some t) → slice_get all n ≡ Some (Some t)

-- what is noted of a document that is read so is right
abbrev pub AreNoted : {T : Type 0} → (ParsedOf → T → Type 0) → List ParsedOf → List (Option T) → Type 0
AreNoted {T} IsRight rs notes = (n : ℕ) (r : ParsedOf) (t : T) → slice_get rs n ≡ Some r → slice_get notes n ≡ Some (Some t) → IsRight r t
