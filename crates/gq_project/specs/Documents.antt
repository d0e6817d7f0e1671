-- Documents in the order of their keys, and changes of them.
use Rattle.std.specs.Prelude.{◌≡◌, ℕ, Bool, not, List, ◌∷◌, ◌++◌, None, filter, find}
use Rattle.std.specs.Str.{bytes_eq}
use Rattle.std.specs.Cmp.Lexicographic.{slice_cmp}
use Rattle.std.specs.List.Sorted.{IsStrictlySortedBy}
use Rattle.std.specs.Ordering.{nat_cmp, is_lt, is_gt}
use Rattle.gq_project.specs.declared.document.Doc.{Doc}
use Rattle.gq_project.specs.declared.document.DocChange.{DocChange}
use Rattle.gq_project.specs.declared.document.DocChange.TheVariants.{Put, Close}

-- the keys ascend by their bytes, so no key comes twice
abbrev pub IsInOrder : List Doc → Type 0
IsInOrder docs = IsStrictlySortedBy (λ a b. slice_cmp nat_cmp a.key b.key) docs

-- the document's key is this one, comes before it, comes after it
abbrev pub has_key : List ℕ → Doc → Bool
has_key key doc = bytes_eq doc.key key

abbrev pub is_before : List ℕ → Doc → Bool
is_before key doc = is_lt (slice_cmp nat_cmp doc.key key)

abbrev pub is_after : List ℕ → Doc → Bool
is_after key doc = is_gt (slice_cmp nat_cmp doc.key key)

-- the documents with this one in its place, where it replaces the one of its key
abbrev pub with_doc : List Doc → Doc → List Doc
with_doc docs doc = filter (is_before doc.key) docs ++ doc ∷ filter (is_after doc.key) docs

-- the documents without the one of that key
abbrev pub without : List Doc → List ℕ → List Doc
without docs key = filter (λ doc. not (has_key key doc)) docs

-- the documents after a change
abbrev pub after_change : List Doc → DocChange → List Doc
after_change docs (Put doc) = with_doc docs doc
after_change docs (Close key) = without docs key

-- the change puts a document whose key no document has
abbrev pub AddsDocument : List Doc → DocChange → Type 0
AddsDocument docs (Put doc) = find (has_key doc.key) docs ≡ None
AddsDocument docs (Close key) = ⊥
