-- Edits of documents in order, each of its own document: each is made there, and nowhere else.
use Rattle.std.proofs.Common.{◌≡◌, ◌≢◌, ℕ, Bool, true, false, ◌&&◌, if◌then◌else◌, List, [], ◌∷◌, ◌++◌, Option, Some, None, find, map, Contains, refl, sym, ap, subst, ◌∙◌, append_assoc}
use Rattle.std.specs.Option.{option_map_or, option_or, option_eq, ForSome}
use Rattle.std.specs.Str.{bytes_eq}
use Rattle.std.specs.Cmp.{int_eq_equiv}
use Rattle.std.specs.Cmp.Lexicographic.{slice_cmp, bytes_decides, nat_list_cmp_total, options_equiv}
use Rattle.std.specs.List.{AllByRecursion}
use Rattle.std.specs.List.Sorted.{IsStrictlySortedBy}
use Rattle.std.specs.declared.cmp.Ordering.TheVariants.{Less}
use Rattle.std.specs.Ordering.{nat_cmp, int_eq, is_lt}
use Rattle.std.proofs.lemmas.Cmp.{tied_itself}
use Rattle.std.proofs.lemmas.Bool.{false_from_ne_true, both_ways}
use Rattle.std.proofs.lemmas.List.Folds.{find-append}
use Rattle.std.proofs.lemmas.List.Elements.{recursion_from_All, All-contains_itself}
use Rattle.gq_text.specs.declared.replacement.Replacement.{Replacement}
use Rattle.gq_text.specs.Replaced.{replaced, replaced_from}
use Rattle.gq_project.specs.declared.document.Doc.{Doc}
use Rattle.gq_project.specs.Documents.{IsInOrder}
use Rattle.gq_edit.specs.declared.edit.DocumentEdit.{DocumentEdit}
use Rattle.gq_edit.specs.Replacements.{FitText}
use Rattle.gq_edit.specs.Edits.{AreInOrder, is_of, document_of, edited, after_edit, FitDocuments}
use Rattle.gq_edit.proofs.InOrder.{IsBefore, AreInOrder-nil, AreInOrder-cons}
use Rattle.gq_edit.proofs.Fitting.{document_of-itself}
use Rattle.gq_renamed.specs.Projects.{edit_if_any}

-- a document, and what is replaced in it
pub record Part : Type 0 where
  pub document : Doc
  pub replacements : List Replacement

abbrev pub documents_of : List Part → List Doc
documents_of parts = map (λ p. p.document) parts

abbrev pub edits_of : List Part → List DocumentEdit
edits_of [] = []
edits_of (p ∷ parts) = edit_if_any p.document p.replacements ++ edits_of parts

abbrev pub made_in : Part → Doc
made_in p = record p.document { text = replaced p.replacements p.document.text }

less_differs : (a b : List ℕ) → slice_cmp nat_cmp a b ≡ Less → a ≢ b
less_differs a b less same = both_ways (is_lt (slice_cmp nat_cmp a b)) (ap is_lt (ap (λ (c : List ℕ). slice_cmp nat_cmp a c) (sym same) ∙ tied_itself nat_list_cmp_total a)) (ap is_lt less)

-- an edit of a document with another key is not of this one
other_key : (doc : Doc) (edit : DocumentEdit) → doc.key ≢ edit.key → is_of doc edit ≡ false
other_key doc edit differs = ap (λ (b : Bool). b && option_eq int_eq doc.version edit.version) (false_from_ne_true _ (λ e. differs ((bytes_decides doc.key edit.key).0 e)))

-- no edit of these is of the document
abbrev NoneOf : Doc → List DocumentEdit → Type 0
NoneOf doc edits = find (is_of doc) edits ≡ None

none_of_own : (doc : Doc) (p : Part) → doc.key ≢ p.document.key → NoneOf doc (edit_if_any p.document p.replacements)
none_of_own doc p differs = by p.replacements
  where
    by : (rs : List Replacement) → NoneOf doc (edit_if_any p.document rs)
    by [] = refl
    by (r ∷ rs) = ap (λ (b : Bool). if b then Some (record { key = p.document.key; version = p.document.version; replacements = r ∷ rs }) else None) (other_key doc (record { key = p.document.key; version = p.document.version; replacements = r ∷ rs }) differs)

none_behind : (doc : Doc) (parts : List Part) → AllByRecursion (λ d. slice_cmp nat_cmp doc.key d.key ≡ Less) (documents_of parts) → NoneOf doc (edits_of parts)
none_behind doc [] h = refl
none_behind doc (p ∷ parts) h =
    find-append (is_of doc) (edit_if_any p.document p.replacements) (edits_of parts)
    ∙ ap (λ (o : Option DocumentEdit). option_or o (find (is_of doc) (edits_of parts))) (none_of_own doc p (less_differs doc.key p.document.key h.0))
    ∙ none_behind doc parts h.1

-- an edit is of its own document
pub of_itself : (doc : Doc) (rs : List Replacement) → is_of doc (record { key = doc.key; version = doc.version; replacements = rs }) ≡ true
of_itself doc rs =
    ap (λ (b : Bool). b && option_eq int_eq doc.version doc.version) ((bytes_decides doc.key doc.key).1 refl) ∙ (options_equiv int_eq_equiv).refl doc.version

abbrev edited_by : Option DocumentEdit → Doc → Doc
edited_by o doc = option_map_or (λ edit. record doc { text = replaced edit.replacements doc.text }) o doc

-- a document, where its own edit comes first
made_first : (doc : Doc) (rs : List Replacement) (rest : List DocumentEdit) → NoneOf doc rest → edited_by (find (is_of doc) (edit_if_any doc rs ++ rest)) doc ≡ record doc { text = replaced rs doc.text }
made_first doc [] rest none = ap (λ (o : Option DocumentEdit). edited_by o doc) none
made_first doc (r ∷ rs) rest none =
    let e : DocumentEdit = record { key = doc.key; version = doc.version; replacements = r ∷ rs } in
    ap (λ (b : Bool). edited_by (if b then Some e else find (is_of doc) rest) doc) (of_itself doc (r ∷ rs))

none_of_more : (p : Part) (front : List DocumentEdit) (docs : List Doc) → AllByRecursion (λ d. NoneOf d front) docs → AllByRecursion (λ d. slice_cmp nat_cmp p.document.key d.key ≡ Less) docs → AllByRecursion (λ d. NoneOf d (front ++ edit_if_any p.document p.replacements)) docs
none_of_more p front [] none less = tt
none_of_more p front (d ∷ docs) none less = (
  find-append (is_of d) front (edit_if_any p.document p.replacements)
      ∙ ap (λ (o : Option DocumentEdit). option_or o (find (is_of d) (edit_if_any p.document p.replacements))) none.0
      ∙ none_of_own d p (λ e. less_differs p.document.key d.key less.0 (sym e)),
  none_of_more p front docs none.1 less.1,
)

-- each document is edited by its own edit
made_each : (front : List DocumentEdit) (parts : List Part) → AllByRecursion (λ d. NoneOf d front) (documents_of parts) → IsInOrder (documents_of parts) → after_edit (front ++ edits_of parts) (documents_of parts) ≡ map made_in parts
unfolding IsStrictlySortedBy
made_each front [] none h = refl
made_each front (p ∷ parts) none h =
    let own : List DocumentEdit = edit_if_any p.document p.replacements in
    let rest : List DocumentEdit = edits_of parts in
    let behind = none_behind p.document parts h.0 in
    let skip : find (is_of p.document) (front ++ (own ++ rest)) ≡ find (is_of p.document) (own ++ rest) =
    find-append (is_of p.document) front (own ++ rest) ∙ ap (λ (o : Option DocumentEdit). option_or o (find (is_of p.document) (own ++ rest))) none.0 in
    let head : edited (front ++ (own ++ rest)) p.document ≡ made_in p =
    ap (λ (o : Option DocumentEdit). edited_by o p.document) skip ∙ made_first p.document p.replacements rest behind in
    let tail : after_edit (front ++ (own ++ rest)) (documents_of parts) ≡ map made_in parts =
    ap (λ (es : List DocumentEdit). after_edit es (documents_of parts)) (sym (append_assoc front own rest)) ∙ made_each (front ++ own) parts (none_of_more p front (documents_of parts) none.1 h.0) h.1 in
    ap (λ (d : Doc). d ∷ after_edit (front ++ (own ++ rest)) (documents_of parts)) head ∙ ap (λ (ds : List Doc). made_in p ∷ ds) tail

none_in_nothing : (docs : List Doc) → AllByRecursion (λ d. NoneOf d []) docs
none_in_nothing [] = tt
none_in_nothing (d ∷ docs) = (refl, none_in_nothing docs)

pub after_parts : (parts : List Part) → IsInOrder (documents_of parts) → after_edit (edits_of parts) (documents_of parts) ≡ map made_in parts
after_parts parts h = made_each [] parts (none_in_nothing (documents_of parts)) h

-- the edits are in order
before_each : (key : List ℕ) (parts : List Part) → AllByRecursion (λ d. slice_cmp nat_cmp key d.key ≡ Less) (documents_of parts) → IsBefore key (edits_of parts)
before_each key [] h = tt
before_each key (p ∷ parts) h = by p.replacements (before_each key parts h.1)
  where
    by : (rs : List Replacement) → IsBefore key (edits_of parts) → IsBefore key (edit_if_any p.document rs ++ edits_of parts)
    by [] rest = rest
    by (r ∷ rs) rest = (h.0, rest)

pub order_parts : (parts : List Part) → IsInOrder (documents_of parts) → AreInOrder (edits_of parts)
unfolding IsStrictlySortedBy
order_parts [] h = AreInOrder-nil
order_parts (p ∷ parts) h = by p.replacements (before_each p.document.key parts h.0) (order_parts parts h.1)
  where
    by : (rs : List Replacement) → IsBefore p.document.key (edits_of parts) → AreInOrder (edits_of parts) → AreInOrder (edit_if_any p.document rs ++ edits_of parts)
    by [] before rest = rest
    by (r ∷ rs) before rest = AreInOrder-cons (record { key = p.document.key; version = p.document.version; replacements = r ∷ rs }) (edits_of parts) before rest

-- what holds of the replacements of each part
pub all_edits : (P : List Replacement → Type 0) (parts : List Part) → AllByRecursion (λ p. P p.replacements) parts → AllByRecursion (λ edit. P edit.replacements) (edits_of parts)
all_edits P [] h = tt
all_edits P (p ∷ parts) h = by p.replacements h.0 (all_edits P parts h.1)
  where
    by : (rs : List Replacement) → P rs → AllByRecursion (λ edit. P edit.replacements) (edits_of parts) → AllByRecursion (λ edit. P edit.replacements) (edit_if_any p.document rs ++ edits_of parts)
    by [] k rest = rest
    by (r ∷ rs) k rest = (k, rest)

-- they fit where each part does
fit_each : (docs : List Doc) (parts : List Part) → IsInOrder docs → AllByRecursion (Contains docs) (documents_of parts) → AllByRecursion (λ p. FitText p.document.text p.replacements) parts → FitDocuments docs (edits_of parts)
fit_each docs [] h contained fit = tt
fit_each docs (p ∷ parts) h contained fit = by p.replacements fit.0 (fit_each docs parts h contained.1 fit.1)
  where
    by : (rs : List Replacement) → FitText p.document.text rs → FitDocuments docs (edits_of parts) → FitDocuments docs (edit_if_any p.document rs ++ edits_of parts)
    by [] k rest = rest
    by (r ∷ rs) k rest =
        let e : DocumentEdit = record { key = p.document.key; version = p.document.version; replacements = r ∷ rs } in (
          λ x named. let both : Some p.document ≡ Some x = sym (document_of-itself docs e p.document h contained.0 (of_itself p.document (r ∷ rs))) ∙ named in
              let same : p.document ≡ x = cc in
              subst (λ (d : Doc). FitText d.text (r ∷ rs)) same k,
          rest,
        )

pub fit_parts : (parts : List Part) → IsInOrder (documents_of parts) → AllByRecursion (λ p. FitText p.document.text p.replacements) parts → FitDocuments (documents_of parts) (edits_of parts)
fit_parts parts h fit = fit_each (documents_of parts) parts h (recursion_from_All (Contains (documents_of parts)) (documents_of parts) (All-contains_itself (documents_of parts))) fit
