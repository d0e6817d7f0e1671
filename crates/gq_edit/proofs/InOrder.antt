-- When edits are in the order of their keys, and fit their documents.
use Rattle.std.proofs.Common.{◌≡◌, ℕ, true, List, [], ◌∷◌, Option, Some, None, Contains, find, refl, sym, ◌∙◌, subst}
use Rattle.std.specs.Cmp.Lexicographic.{slice_cmp}
use Rattle.std.specs.List.{AllByRecursion, filter_map, cons_option}
use Rattle.std.specs.List.Sorted.{IsStrictlySortedBy}
use Rattle.std.specs.declared.cmp.Ordering.TheVariants.{Less}
use Rattle.std.specs.Ordering.{nat_cmp}
use Rattle.gq_project.specs.declared.document.Doc.{Doc}
use Rattle.gq_project.specs.Documents.{IsInOrder}
use Rattle.gq_edit.specs.declared.edit.DocumentEdit.{DocumentEdit}
use Rattle.gq_edit.specs.Replacements.{FitText}
use Rattle.gq_edit.specs.Edits.{AreInOrder, FitDocuments, is_of, document_of, is_moved}
use Rattle.std.proofs.lemmas.List.Elements.{recursion_from_All, All-contains_itself}
use Rattle.gq_edit.proofs.Fitting.{document_of-itself}

-- the key comes before those of all the edits
abbrev pub IsBefore : List ℕ → List DocumentEdit → Type 0
IsBefore key edits = AllByRecursion (λ edit. slice_cmp nat_cmp key edit.key ≡ Less) edits

pub AreInOrder-nil : AreInOrder []
unfolding IsStrictlySortedBy
AreInOrder-nil = tt

pub AreInOrder-cons : (edit : DocumentEdit) (edits : List DocumentEdit) → IsBefore edit.key edits → AreInOrder edits → AreInOrder (edit ∷ edits)
unfolding IsStrictlySortedBy
AreInOrder-cons edit edits h g = (h, g)

-- what makes at most one edit of each document, under its key, makes edits in order of documents in order
module _ (f : Doc → Option DocumentEdit) (keeps : (doc : Doc) (edit : DocumentEdit) → f doc ≡ Some edit → edit.key ≡ doc.key) where
  IsBefore-filter_map : (key : List ℕ) (docs : List Doc) → AllByRecursion (λ doc. slice_cmp nat_cmp key doc.key ≡ Less) docs → IsBefore key (filter_map f docs)
  IsBefore-filter_map key [] h = tt
  IsBefore-filter_map key (doc ∷ docs) h = by (f doc) refl (IsBefore-filter_map key docs h.1)
    where
      by : (o : Option DocumentEdit) → f doc ≡ o → IsBefore key (filter_map f docs) → IsBefore key (cons_option o (filter_map f docs))
      by None e rest = rest
      by (Some edit) e rest = (rw (keeps doc edit e) h.0, rest)

  pub AreInOrder-filter_map : (docs : List Doc) → IsInOrder docs → AreInOrder (filter_map f docs)
  unfolding IsStrictlySortedBy
  AreInOrder-filter_map [] h = tt
  AreInOrder-filter_map (doc ∷ docs) h = by (f doc) refl (AreInOrder-filter_map docs h.1)
    where
      by : (o : Option DocumentEdit) → f doc ≡ o → AreInOrder (filter_map f docs) → AreInOrder (cons_option o (filter_map f docs))
      by None e rest = rest
      by (Some edit) e rest = (rw (keeps doc edit e) (IsBefore-filter_map doc.key docs h.0), rest)

-- where each edit is of its document and fits it, the edits fit the project, and none is moved
module _ (f : Doc → Option DocumentEdit) (docs : List Doc) (h : IsInOrder docs)
    (is : (doc : Doc) (edit : DocumentEdit) → f doc ≡ Some edit → is_of doc edit ≡ true) where
  edit_of : (doc : Doc) (edit : DocumentEdit) → Contains docs doc → f doc ≡ Some edit → document_of docs edit ≡ Some doc
  edit_of doc edit place e = document_of-itself docs edit doc h place (is doc edit e)

  all_contained : AllByRecursion (Contains docs) docs
  all_contained = recursion_from_All (Contains docs) docs (All-contains_itself docs)

  fit_from : (fits : (doc : Doc) (edit : DocumentEdit) → f doc ≡ Some edit → FitText doc.text edit.replacements) (rest : List Doc) → AllByRecursion (Contains docs) rest → FitDocuments docs (filter_map f rest)
  fit_from fits [] g = tt
  fit_from fits (doc ∷ rest) g = by (f doc) refl (fit_from fits rest g.1)
    where
      by : (o : Option DocumentEdit) → f doc ≡ o → FitDocuments docs (filter_map f rest) → FitDocuments docs (cons_option o (filter_map f rest))
      by None e left = left
      by (Some edit) e left = (
        λ x named. let both : Some doc ≡ Some x = sym (edit_of doc edit g.0 e) ∙ named in
            let same : doc ≡ x = cc in
            subst (λ (d : Doc). FitText d.text edit.replacements) same (fits doc edit e),
        left,
      )

  pub FitDocuments-filter_map : ((doc : Doc) (edit : DocumentEdit) → f doc ≡ Some edit → FitText doc.text edit.replacements) → FitDocuments docs (filter_map f docs)
  FitDocuments-filter_map fits = fit_from fits docs all_contained

  stand_from : (rest : List Doc) → AllByRecursion (Contains docs) rest → find (is_moved docs) (filter_map f rest) ≡ None
  stand_from [] g = refl
  stand_from (doc ∷ rest) g = by (f doc) refl (stand_from rest g.1)
    where
      by : (o : Option DocumentEdit) → f doc ≡ o → find (is_moved docs) (filter_map f rest) ≡ None → find (is_moved docs) (cons_option o (filter_map f rest)) ≡ None
      by None e left = left
      by (Some edit) e left = rw (edit_of doc edit g.0 e) left

  pub none_moved-filter_map : find (is_moved docs) (filter_map f docs) ≡ None
  none_moved-filter_map = stand_from docs all_contained
