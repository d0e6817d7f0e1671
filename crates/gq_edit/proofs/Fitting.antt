-- That edits fit their documents, seen from an edit and from a document, and that documents stay in order when edited.
use Rattle.std.proofs.Common.{◌≡◌, ℕ, Bool, true, false, ◌&&◌, List, [], ◌∷◌, Option, Some, None, find, Contains, refl, subst}
use Rattle.std.specs.Option.{ForSome, option_eq, option_map_or}
use Rattle.std.specs.Str.{bytes_eq}
use Rattle.std.specs.Cmp.Lexicographic.{slice_cmp, bytes_decides}
use Rattle.std.specs.List.{AllByRecursion}
use Rattle.std.specs.List.Sorted.{IsStrictlySortedBy}
use Rattle.std.specs.declared.cmp.Ordering.TheVariants.{Less}
use Rattle.std.specs.Ordering.{int_eq, nat_cmp}
use Rattle.std.proofs.lemmas.Bool.{and_parts}
use Rattle.gq_project.specs.declared.document.Doc.{Doc}
use Rattle.gq_project.specs.Documents.{IsInOrder}
use Rattle.gq_project.proofs.Keys.{find-itself}
use Rattle.gq_edit.specs.declared.edit.DocumentEdit.{DocumentEdit}
use Rattle.gq_edit.specs.Replacements.{FitText}
use Rattle.gq_edit.specs.Edits.{is_of, document_of, edited, after_edit, FitDocuments}

-- what is found passes the test, and what holds of each item holds of it
pub record IsFound {X : Type 0} (p : X → Bool) (P : X → Type 0) (x : X) : Type 0 where
  pub passes : p x ≡ true
  pub holds : P x

pub found : {X : Type 0} (p : X → Bool) (P : X → Type 0) (xs : List X) (x : X) → AllByRecursion P xs → find p xs ≡ Some x → IsFound p P x
found p P [] x h e = cc
found {X} p P (y ∷ ys) x h e = by (p y) refl (found p P ys x h.1)
  where
    by : (b : Bool) → p y ≡ b → (find p ys ≡ Some x → IsFound p P x) → IsFound p P x
    by true g rest =
        let first : Some y ≡ Some x = rw g at e in
        let same : y ≡ x = cc in
        subst (λ (z : X). IsFound p P z) same (record { passes = g; holds = h.0 })
    by false g rest = rest (rw g at e)

-- the document of an edit of it
pub document_of-itself : (docs : List Doc) (edit : DocumentEdit) (doc : Doc) → IsInOrder docs → Contains docs doc → is_of doc edit ≡ true → document_of docs edit ≡ Some doc
document_of-itself docs edit doc h place passes =
    let parts = and_parts _ _ passes in
    let same : doc.key ≡ edit.key = (bytes_decides doc.key edit.key).0 parts.0 in
    subst (λ (k : List ℕ). find (λ d. bytes_eq d.key k && option_eq int_eq d.version edit.version) docs ≡ Some doc) same
    (find-itself (λ d. d.key) (λ d. option_eq int_eq d.version edit.version) docs doc h place parts.1)

-- the edit of a document fits it
pub fit_document : (docs : List Doc) (edits : List DocumentEdit) (doc : Doc) → IsInOrder docs → FitDocuments docs edits → Contains docs doc
    → ForSome (find (is_of doc) edits) (λ edit. FitText doc.text edit.replacements)
fit_document docs edits doc h fit place edit e =
    let it = found (is_of doc) _ edits edit fit e in
    it.holds doc (document_of-itself docs edit doc h place it.passes)

-- an edit leaves the key of a document
edited-key : (edits : List DocumentEdit) (doc : Doc) → (edited edits doc).key ≡ doc.key
edited-key edits doc = by (find (is_of doc) edits)
  where
    by : (o : Option DocumentEdit) → (option_map_or (λ edit. record doc { text = Rattle.gq_edit.specs.Edits.edited_text edit doc }) o doc).key ≡ doc.key
    by None = refl
    by (Some edit) = refl

-- so documents stay in order
pub IsInOrder-after_edit : (edits : List DocumentEdit) (docs : List Doc) → IsInOrder docs → IsInOrder (after_edit edits docs)
unfolding IsStrictlySortedBy
IsInOrder-after_edit edits [] h = tt
IsInOrder-after_edit edits (doc ∷ docs) h = (above docs h.0, IsInOrder-after_edit edits docs h.1)
  where
    above : (rest : List Doc) → AllByRecursion (λ d. slice_cmp nat_cmp doc.key d.key ≡ Less) rest → AllByRecursion (λ d. slice_cmp nat_cmp (edited edits doc).key d.key ≡ Less) (after_edit edits rest)
    above [] g = tt
    above (d ∷ rest) g = (rw (edited-key edits doc, edited-key edits d) g.0, above rest g.1)
