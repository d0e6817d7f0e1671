-- Where the document of a key is, computed.
use Rattle.std.specs.Prelude.{◌≡◌, ◌<◌, ℕ, List, Option, Some, None, length, find}
use Rattle.std.specs.List.{HoldsAt}
use Rattle.gq_project.specs.declared.document.Doc.{Doc}
use Rattle.gq_project.specs.Documents.{has_key}

-- the document of that key is at the place
pub record IsAt (documents : List Doc) (key : List ℕ) (place : ℕ) : Type 0 where
  pub in_range : place < length documents
  pub here : HoldsAt (λ document. document.key ≡ key) documents place

-- where it is, or that there is none
abbrev pub IsWhere : List Doc → List ℕ → Option ℕ → Type 0
IsWhere documents key None = find (has_key key) documents ≡ None
IsWhere documents key (Some place) = IsAt documents key place
