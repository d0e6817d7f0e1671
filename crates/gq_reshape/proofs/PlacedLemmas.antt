-- The edit of replacements in documents in order: each document gets its own replacements.
use Rattle.std.proofs.Common.{◌≡◌, ℕ, suc, Bool, true, false, List, [], ◌∷◌, ◌++◌, Option, Some, None, Contains, refl, sym, ap, subst, ◌∙◌, map, find, is_none}
use Rattle.std.specs.List.{AllByRecursion}
use Rattle.std.specs.Prelude.{All}
use Rattle.std.proofs.lemmas.List.Elements.{Contains-append_cases, Contains-append_left, Contains-append_right}
use Rattle.gq_text.specs.declared.replacement.Replacement.{Replacement}
use Rattle.gq_project.specs.declared.document.Doc.{Doc}
use Rattle.gq_project.specs.Documents.{IsInOrder}
use Rattle.gq_types.proofs.Gathered.{nothing_in, cases_cons, first, later, only}
use Rattle.gq_edit.specs.declared.edit.DocumentEdit.{DocumentEdit}
use Rattle.gq_edit.specs.Replacements.{FitText}
use Rattle.gq_edit.specs.Edits.{AreInOrder, FitDocuments, after_edit, document_of, is_moved}
use Rattle.gq_edit.proofs.Fitting.{document_of-itself}
use Rattle.gq_renamed.specs.Projects.{edit_if_any}
use Rattle.gq_renamed.proofs.EditedParts.{Part, documents_of, edits_of, of_itself, made_in, after_parts, order_parts, fit_parts}
use Rattle.gq_reshape.specs.declared.placed.PlacedReplacement.{PlacedReplacement}
use Rattle.gq_reshape.specs.Placed.{edits_from, replacements_in}
use Rattle.gq_reshape.specs.Helping.Fitting.{AllFit}

-- each document with its replacements
abbrev pub parts_from : List PlacedReplacement → ℕ → List Doc → List Part
parts_from placed file [] = []
parts_from placed file (document ∷ documents) = record { document = document; replacements = replacements_in placed file } ∷ parts_from placed (suc file) documents

pub documents_are : (placed : List PlacedReplacement) (file : ℕ) (documents : List Doc) → documents_of (parts_from placed file documents) ≡ documents
documents_are placed file [] = refl
documents_are placed file (document ∷ documents) = ap (λ (ds : List Doc). document ∷ ds) (documents_are placed (suc file) documents)

pub edits_are : (placed : List PlacedReplacement) (file : ℕ) (documents : List Doc) → edits_of (parts_from placed file documents) ≡ edits_from placed file documents
edits_are placed file [] = refl
edits_are placed file (document ∷ documents) = ap (λ (es : List DocumentEdit). edit_if_any document (replacements_in placed file) ++ es) (edits_are placed (suc file) documents)

parts_fit : (placed : List PlacedReplacement) (file : ℕ) (documents : List Doc) → AllFit placed file documents → AllByRecursion (λ p. FitText p.document.text p.replacements) (parts_from placed file documents)
parts_fit placed file [] h = tt
parts_fit placed file (document ∷ documents) h = (h.0.1, parts_fit placed (suc file) documents h.1)

-- the document of an edit of parts
pub record OfPart (parts : List Part) (edit : DocumentEdit) : Type 0 where
  pub part : Part
  pub stands : Contains parts part
  pub is : edit ≡ record { key = part.document.key; version = part.document.version; replacements = part.replacements }

of_own : (p : Part) (parts : List Part) (edit : DocumentEdit) → Contains (edit_if_any p.document p.replacements) edit → OfPart (p ∷ parts) edit
of_own p parts edit = by p.replacements refl
  where
    by : (rs : List Replacement) → p.replacements ≡ rs → Contains (edit_if_any p.document rs) edit → OfPart (p ∷ parts) edit
    by [] e stands = nothing_in edit stands
    by (r ∷ rs) e stands = record {
      part = p;
      stands = first p p parts refl;
      is = only _ edit stands ∙ ap (λ (xs : List Replacement). let d : DocumentEdit = record { key = p.document.key; version = p.document.version; replacements = xs } in d) (sym e);
    }

pub of_part : (parts : List Part) (edit : DocumentEdit) → Contains (edits_of parts) edit → OfPart parts edit
of_part [] edit stands = nothing_in edit stands
of_part (p ∷ parts) edit stands =
    Rattle.std.proofs.Common.⊎_elim
    (λ own. of_own p parts edit own)
    (λ rest. let q = of_part parts edit rest in record { part = q.part; stands = later p q.part parts q.stands; is = q.is })
    (Contains-append_cases (edit_if_any p.document p.replacements) (edits_of parts) edit stands)

-- a part in which something is replaced has an edit
pub edit_of_part : (parts : List Part) (p : Part) (r : Replacement) (rs : List Replacement) → Contains parts p → p.replacements ≡ r ∷ rs → Contains (edits_of parts) (record { key = p.document.key; version = p.document.version; replacements = p.replacements })
edit_of_part [] p r rs stands e = nothing_in p stands
edit_of_part (q ∷ parts) p r rs stands e =
    Rattle.std.proofs.Common.⊎_elim
    (λ same. Contains-append_left (edit_if_any q.document q.replacements) (edits_of parts) _ (own same))
    (λ rest. Contains-append_right (edit_if_any q.document q.replacements) (edits_of parts) _ (edit_of_part parts p r rs rest e))
    (cases_cons q p parts stands)
  where
    own : q ≡ p → Contains (edit_if_any q.document q.replacements) (record { key = p.document.key; version = p.document.version; replacements = p.replacements })
    own same =
        let E : Part → Type 0 = λ x. Contains (edit_if_any x.document x.replacements) (record { key = p.document.key; version = p.document.version; replacements = p.replacements }) in
        let R : List Replacement → Type 0 = λ xs. Contains (edit_if_any p.document xs) (record { key = p.document.key; version = p.document.version; replacements = p.replacements }) in
        subst E (sym same) (subst R (sym e) (first _ _ [] (ap (λ (xs : List Replacement). let d : DocumentEdit = record { key = p.document.key; version = p.document.version; replacements = xs } in d) (sym e))))

document_stands : (parts : List Part) (p : Part) → Contains parts p → Contains (documents_of parts) p.document
document_stands parts p stands = Rattle.gq_types.proofs.Gathered.to_map (λ p. p.document) parts p stands

pub its_document : (parts : List Part) (p : Part) → IsInOrder (documents_of parts) → Contains parts p → document_of (documents_of parts) (record { key = p.document.key; version = p.document.version; replacements = p.replacements }) ≡ Some p.document
its_document parts p in_order stands = document_of-itself (documents_of parts) (record { key = p.document.key; version = p.document.version; replacements = p.replacements }) p.document in_order (document_stands parts p stands) (of_itself p.document p.replacements)

-- none of the edits is moved
not_moved : (parts : List Part) → IsInOrder (documents_of parts) → (edit : DocumentEdit) → Contains (edits_of parts) edit → is_moved (documents_of parts) edit ≡ false
not_moved parts in_order edit stands =
    let q = of_part parts edit stands in
    ap (is_moved (documents_of parts)) q.is ∙ ap is_none (its_document parts q.part in_order q.stands)

nothing_found : {X : Type 0} (p : X → Bool) (xs : List X) → ((x : X) → Contains xs x → p x ≡ false) → find p xs ≡ None
nothing_found p [] h = refl
nothing_found {X} p (x ∷ xs) h = ap (λ (b : Bool). Rattle.std.specs.Prelude.cond b (Some x) (find p xs)) (h x (first x x xs refl)) ∙ nothing_found p xs (λ y c. h y (later x y xs c))

-- the edit of replacements in documents in order
module _ (placed : List PlacedReplacement) (documents : List Doc) (in_order : IsInOrder documents) where
  Parts : List Part
  Parts = parts_from placed 0 documents

  sorted : IsInOrder (documents_of Parts)
  unfolding Parts
  sorted = subst IsInOrder (sym (documents_are placed 0 documents)) in_order

  pub edits_in_order : AreInOrder (edits_from placed 0 documents)
  unfolding Parts
  edits_in_order = subst AreInOrder (edits_are placed 0 documents) (order_parts Parts sorted)

  pub edits_fit : AllFit placed 0 documents → FitDocuments documents (edits_from placed 0 documents)
  unfolding Parts
  edits_fit h =
      let F : List DocumentEdit → Type 0 = λ es. FitDocuments documents es in
      let G : List Doc → Type 0 = λ ds. FitDocuments ds (edits_of Parts) in
      subst F (edits_are placed 0 documents) (subst G (documents_are placed 0 documents) (fit_parts Parts sorted (parts_fit placed 0 documents h)))

  pub edits_there : find (is_moved documents) (edits_from placed 0 documents) ≡ None
  unfolding Parts
  edits_there =
      let F : List DocumentEdit → Type 0 = λ es. find (is_moved documents) es ≡ None in
      let G : List Doc → Type 0 = λ ds. find (is_moved ds) (edits_of Parts) ≡ None in
      subst F (edits_are placed 0 documents) (subst G (documents_are placed 0 documents) (nothing_found (is_moved (documents_of Parts)) (edits_of Parts) (not_moved Parts sorted)))

  -- the documents after it
  pub made_after : after_edit (edits_from placed 0 documents) documents ≡ map made_in (parts_from placed 0 documents)
  unfolding Parts
  made_after =
      ap (λ (es : List DocumentEdit). after_edit es documents) (sym (edits_are placed 0 documents))
      ∙ ap (after_edit (edits_of Parts)) (sym (documents_are placed 0 documents))
      ∙ after_parts Parts sorted
