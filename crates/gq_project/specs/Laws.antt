-- What a change does, said key by key.
use Rattle.std.specs.Prelude.{◌≡◌, ◌≢◌, ℕ, List, Some, None, find}
use Rattle.gq_project.specs.declared.document.Doc.{Doc}
use Rattle.gq_project.specs.declared.document.DocChange.{DocChange}
use Rattle.gq_project.specs.Documents.{IsInOrder, has_key, with_doc, without, after_change}

-- the keys still ascend
abbrev pub ChangesKeepOrder : Type 0
ChangesKeepOrder = (docs : List Doc) (change : DocChange) → IsInOrder docs → IsInOrder (after_change docs change)

-- the document that was put is found by its key, and other keys find what they found
pub record FindsPut (docs : List Doc) (doc : Doc) : Type 0 where
  pub found : find (has_key doc.key) (with_doc docs doc) ≡ Some doc
  pub others : (key : List ℕ) → key ≢ doc.key → find (has_key key) (with_doc docs doc) ≡ find (has_key key) docs

abbrev pub PutIsFound : Type 0
PutIsFound = (docs : List Doc) (doc : Doc) → FindsPut docs doc

-- the key that was closed finds nothing, and other keys find what they found
pub record FindsRest (docs : List Doc) (closed : List ℕ) : Type 0 where
  pub gone : find (has_key closed) (without docs closed) ≡ None
  pub others : (key : List ℕ) → key ≢ closed → find (has_key key) (without docs closed) ≡ find (has_key key) docs

abbrev pub CloseIsGone : Type 0
CloseIsGone = (docs : List Doc) (closed : List ℕ) → FindsRest docs closed

-- what each key finds settles the list
abbrev pub DocumentsAreAMap : Type 0
DocumentsAreAMap = (a b : List Doc) → IsInOrder a → IsInOrder b → ((key : List ℕ) → find (has_key key) a ≡ find (has_key key) b) → a ≡ b
