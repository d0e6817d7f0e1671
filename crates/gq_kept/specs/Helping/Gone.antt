-- What bringing one project to another one does, said key by key.
use Rattle.std.specs.Prelude.{◌≡◌, ℕ, List, Contains, Some, None, cond, find}
use Rattle.std.specs.Option.{option_or}
use Rattle.gq_project.specs.declared.document.Doc.{Doc}
use Rattle.gq_project.specs.Documents.{has_key}

-- the keys are at least those of the documents that are not among the others
abbrev pub AreGone : List Doc → List Doc → List (List ℕ) → Type 0
AreGone documents others keys = (doc : Doc) → Contains documents doc → find (has_key doc.key) others ≡ None → Contains keys doc.key

-- these keys find nothing any more, and no key finds what it did not
pub record AreDropped (before : List Doc) (keys : List (List ℕ)) (after : List Doc) : Type 0 where
  pub gone : (key : List ℕ) → Contains keys key → find (has_key key) after ≡ None
  pub rest : (key : List ℕ) → find (has_key key) before ≡ None → find (has_key key) after ≡ None

-- the document is found by its key, and other keys find what they found
abbrev pub IsPut : List Doc → Doc → List Doc → Type 0
IsPut before doc after = (key : List ℕ) → find (has_key key) after ≡ cond (has_key key doc) (Some doc) (find (has_key key) before)

-- so are these documents
abbrev pub ArePut : List Doc → List Doc → List Doc → Type 0
ArePut before documents after = (key : List ℕ) → find (has_key key) after ≡ option_or (find (has_key key) documents) (find (has_key key) before)
