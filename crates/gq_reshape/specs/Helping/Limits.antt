-- What only helps to prove that limits are told.
use Rattle.std.specs.Prelude.{ℕ, List, [], ◌∷◌, Contains}
use Rattle.gq_project.specs.declared.document.Doc.{Doc}
use Rattle.gq_parse.specs.Limits.{PassesLimitAt}

-- the text has too many tokens, or they nest too deep
abbrev pub PassesSomeLimit : List ℕ → Type 0
PassesSomeLimit text = (place : ℕ) × PassesLimitAt text place

-- a text of the documents does
pub record OnePasses (documents : List Doc) : Type 0 where
  pub document : Doc
  pub stands : Contains documents document
  pub passes : PassesSomeLimit document.text

-- none does
abbrev pub NonePasses : List Doc → Type 0
NonePasses [] = Unit {0}
NonePasses (document ∷ documents) = (PassesSomeLimit document.text → ⊥) × NonePasses documents
