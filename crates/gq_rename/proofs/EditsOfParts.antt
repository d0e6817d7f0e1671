-- Edits of documents in order, each of its own document: what holds of each document and of what is replaced in it, and that none is moved.
use Rattle.std.proofs.Common.{◌≡◌, ℕ, List, [], ◌∷◌, ◌++◌, Option, Some, None, find, Contains, refl, sym, ap, subst, ◌∙◌}
use Rattle.std.specs.Prelude.{is_none, cond}
use Rattle.std.specs.List.{AllByRecursion}
use Rattle.std.specs.Option.{ForSome}
use Rattle.gq_text.specs.declared.replacement.Replacement.{Replacement}
use Rattle.gq_project.specs.declared.document.Doc.{Doc}
use Rattle.gq_project.specs.Documents.{IsInOrder}
use Rattle.gq_edit.specs.declared.edit.DocumentEdit.{DocumentEdit}
use Rattle.gq_edit.specs.Edits.{document_of, is_moved}
use Rattle.gq_edit.proofs.Fitting.{document_of-itself}
use Rattle.gq_renamed.specs.Projects.{edit_if_any}
use Rattle.gq_renamed.proofs.EditedParts.{Part, documents_of, edits_of, of_itself}

module _ (documents : List Doc) (in_order : IsInOrder documents) where
  edit_of : (p : Part) → Contains documents p.document → (rs : List Replacement) → let e : DocumentEdit = record { key = p.document.key; version = p.document.version; replacements = rs } in document_of documents e ≡ Some p.document
  edit_of p stands rs = document_of-itself documents (record { key = p.document.key; version = p.document.version; replacements = rs }) p.document in_order stands (of_itself p.document rs)

  -- what holds of each text and of its replacements
  pub of_each : (P : List ℕ → List Replacement → Type 0) (parts : List Part) → AllByRecursion (Contains documents) (documents_of parts) → AllByRecursion (λ p. P p.document.text p.replacements) parts → AllByRecursion (λ edit. ForSome (document_of documents edit) (λ document. P document.text edit.replacements)) (edits_of parts)
  of_each P [] stand h = tt
  of_each P (p ∷ parts) stand h = by p.replacements h.0 (of_each P parts stand.1 h.1)
    where
      by : (rs : List Replacement) → P p.document.text rs → AllByRecursion (λ edit. ForSome (document_of documents edit) (λ document. P document.text edit.replacements)) (edits_of parts) → AllByRecursion (λ edit. ForSome (document_of documents edit) (λ document. P document.text edit.replacements)) (edit_if_any p.document rs ++ edits_of parts)
      by [] k rest = rest
      by (r ∷ rs) k rest = (
        λ x named. let both : Some p.document ≡ Some x = sym (edit_of p stand.0 (r ∷ rs)) ∙ named in
            let same : p.document ≡ x = cc in
            subst (λ (d : Doc). P d.text (r ∷ rs)) same k,
        rest,
      )

  -- each document is there at the version that its edit names
  pub none_moved : (parts : List Part) → AllByRecursion (Contains documents) (documents_of parts) → find (is_moved documents) (edits_of parts) ≡ None
  none_moved [] stand = refl
  none_moved (p ∷ parts) stand = by p.replacements (none_moved parts stand.1)
    where
      by : (rs : List Replacement) → find (is_moved documents) (edits_of parts) ≡ None → find (is_moved documents) (edit_if_any p.document rs ++ edits_of parts) ≡ None
      by [] rest = rest
      by (r ∷ rs) rest =
          let e : DocumentEdit = record { key = p.document.key; version = p.document.version; replacements = r ∷ rs } in
          ap (λ (o : Option Doc). cond (is_none o) (Some e) (find (is_moved documents) (edits_of parts))) (edit_of p stand.0 (r ∷ rs)) ∙ rest
