-- Documents in the order of their keys, after a change.
use Rattle.std.proofs.Common.{◌≡◌, ℕ, List, set}
use Rattle.std.specs.List.{insert}
use Rattle.gq_project.specs.declared.document.Doc.{Doc}
use Rattle.gq_project.specs.declared.document.DocChange.{DocChange}
use Rattle.gq_project.specs.declared.document.DocChange.TheVariants.{Put, Close}
use Rattle.gq_project.specs.Documents.{IsInOrder, with_doc, without, after_change}
use Rattle.gq_project.specs.Helping.Places.{IsPlaceOf, IsGapFor}
use Rattle.gq_project.proofs.Keys.{Ascend-with_item, Ascend-without_item, set_with_item, insert_with_item}

pub IsInOrder-with_doc : (docs : List Doc) (doc : Doc) → IsInOrder docs → IsInOrder (with_doc docs doc)
IsInOrder-with_doc = Ascend-with_item (λ d. d.key)

pub IsInOrder-without : (docs : List Doc) (key : List ℕ) → IsInOrder docs → IsInOrder (without docs key)
IsInOrder-without = Ascend-without_item (λ d. d.key)

pub IsInOrder-after_change : (docs : List Doc) (change : DocChange) → IsInOrder docs → IsInOrder (after_change docs change)
IsInOrder-after_change docs (Put doc) h = IsInOrder-with_doc docs doc h
IsInOrder-after_change docs (Close key) h = IsInOrder-without docs key h

-- a document written over the one of its key
pub set_with_doc : (docs : List Doc) (key : List ℕ) (i : ℕ) (doc : Doc) → IsPlaceOf (λ d. d.key) key docs i → key ≡ doc.key → set docs i doc ≡ with_doc docs doc
set_with_doc = set_with_item (λ d. d.key)

-- a document put into the gap for its key
pub insert_with_doc : (docs : List Doc) (key : List ℕ) (i : ℕ) (doc : Doc) → IsGapFor (λ d. d.key) key docs i → key ≡ doc.key → insert docs i doc ≡ with_doc docs doc
insert_with_doc = insert_with_item (λ d. d.key)
