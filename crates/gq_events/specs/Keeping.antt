-- What contracts see of what is kept of documents.
use Rattle.std.specs.Prelude.{◌≡◌, ℕ, List, Contains, Option, IfSome, find}
use Rattle.gq_project.specs.declared.document.Doc.{Doc}
use Rattle.gq_project.specs.Documents.{has_key}

-- the documents that it was made of, if something is kept, and the keys whose documents may be others by now
pub record KeepingOf : Type 0 where
  pub documents : Option (List Doc)
  pub changed : List (List ℕ)

-- each key finds the same document, but for these keys
abbrev pub AgreeBut : List (List ℕ) → List Doc → List Doc → Type 0
AgreeBut changed kept docs = (key : List ℕ) → (Contains changed key → ⊥) → find (has_key key) kept ≡ find (has_key key) docs

-- what is kept is of these documents, but under the keys that changed
abbrev pub IsKeptOf : KeepingOf → List Doc → Type 0
IsKeptOf keeping docs = IfSome keeping.documents (λ kept. AgreeBut keeping.changed kept docs)
