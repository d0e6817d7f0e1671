-- Which edited text passes a limit.
use Rattle.std.proofs.Common.{◌≡◌, ℕ, zero, suc, ◌+◌, ◌<◌, ◌^◌, Bool, true, false, List, [], ◌∷◌, length, slice_get, Option, Some, None, Contains, refl, sym, ap, subst, ◌∙◌, map, find, arith, inl, inr, ⊎_elim}
use Rattle.std.specs.Prelude.{nat_lt}
use Rattle.std.specs.Option.{option_map_or}
use Rattle.std.proofs.lemmas.Bool.Decides.{nat_tests}
use Rattle.gq_text.specs.declared.place.Span.{Span}
use Rattle.gq_text.specs.declared.replacement.Replacement.{Replacement}
use Rattle.gq_text.specs.Replaced.{replaced}
use Rattle.gq_tree.specs.Plain.{Def}
use Rattle.gq_project.specs.declared.document.Doc.{Doc}
use Rattle.gq_project.specs.Documents.{IsInOrder}
use Rattle.gq_parse.specs.Derives.{Derives}
use Rattle.gq_parse.specs.Limits.{PassesLimitAt}
use Rattle.gq_tree.specs.Readings.{ParsedOf}
use Rattle.gq_parse.specs.Parsed.{AreParsed}
use Rattle.gq_parse.specs.Parsed as readings
use Rattle.gq_types.proofs.Gathered.{nothing_in, cases_cons, found, from_map, to_map, first, later}
use Rattle.gq_edit.specs.declared.edit.DocumentEdit.{DocumentEdit}
use Rattle.gq_edit.specs.Edits.{document_of, edited_text, is_too_large}
use Rattle.gq_renamed.specs.Projects.{AreTrees, none, more}
use Rattle.gq_renamed.proofs.EditedParts.{Part, documents_of, edits_of, made_in}
use Rattle.gq_rename.specs.Rename.{IsTooLarge}
use Rattle.gq_reshape.specs.declared.placed.PlacedReplacement.{PlacedReplacement}
use Rattle.gq_reshape.specs.Placed.{edits_from, replacements_in}
use Rattle.gq_reshape.proofs.PlacedLemmas.{parts_from, documents_are, edits_are, of_part, edit_of_part, its_document}
use Rattle.gq_reshape.specs.Helping.Limits.{PassesSomeLimit, OnePasses, NonePasses}

-- as many readings as documents, each of its own
pub as_many : {documents : List Doc} {rs : List ParsedOf} → AreParsed documents rs → length documents ≡ length rs
as_many readings.none = refl
as_many (readings.more h hs) = ap suc (as_many hs)

-- a document that passes none
pub none_of_these : (documents : List Doc) (d : Doc) → NonePasses documents → Contains documents d → PassesSomeLimit d.text → ⊥
none_of_these [] d n stands passes = nothing_in d stands
none_of_these (x ∷ xs) d n stands passes =
    ⊎_elim (λ same. n.0 (subst (λ (y : Doc). PassesSomeLimit y.text) (sym same) passes)) (λ rest. none_of_these xs d n.1 rest passes) (cases_cons x d xs stands)

pub tree_of_each : {documents : List Doc} {trees : List (List (Def Span))} → AreTrees documents trees → (d : Doc) → Contains documents d → (tree : List (Def Span)) × Derives d.text tree
tree_of_each none d stands = nothing_in d stands
tree_of_each (more {document = document} {documents = documents} {tree = tree} derives others) d stands =
    ⊎_elim (λ same. (tree, subst (λ (x : Doc). Derives x.text tree) same derives)) (λ rest. tree_of_each others d rest) (cases_cons document d documents stands)

module _ (no_tree : (text : List ℕ) (place : ℕ) (tree : List (Def Span)) → PassesLimitAt text place → Derives text tree → ⊥) (parts : List Part) (in_order : IsInOrder (documents_of parts)) (trees : List (List (Def Span))) (are : AreTrees (documents_of parts) trees) where
  -- an edited document that passes a limit
  pub too_large : OnePasses (map made_in parts) → IsTooLarge (documents_of parts) (edits_of parts)
  too_large one =
      let q = from_map made_in parts one.document one.stands in
      by q.0 q.1 q.0.replacements refl (subst (λ (d : Doc). PassesSomeLimit d.text) (sym q.2) one.passes)
    where
      by : (p : Part) → Contains parts p → (rs : List Replacement) → p.replacements ≡ rs → PassesSomeLimit (made_in p).text → IsTooLarge (documents_of parts) (edits_of parts)
      by p stands [] e passes =
          let t = tree_of_each are p.document (to_map (λ p. p.document) parts p stands) in
          let same : (made_in p).text ≡ p.document.text = ap (λ (rs : List Replacement). replaced rs p.document.text) e in
          absurd (no_tree p.document.text passes.0 t.0 (subst (λ (text : List ℕ). PassesLimitAt text passes.0) same passes.1) t.1)
      by p stands (r ∷ rs) e passes = record {
        edit = record { key = p.document.key; version = p.document.version; replacements = p.replacements };
        stands = edit_of_part parts p r rs stands e;
        document = p.document;
        of = its_document parts p in_order stands;
        passes = inr passes;
      }

  -- no edited document does, and none has too many bytes
  pub not_too_large : NonePasses (map made_in parts) → find (is_too_large (documents_of parts)) (edits_of parts) ≡ None → IsTooLarge (documents_of parts) (edits_of parts) → ⊥
  not_too_large fine small large =
      let q = of_part parts large.edit large.stands in
      let there : document_of (documents_of parts) large.edit ≡ Some q.part.document = ap (document_of (documents_of parts)) q.is ∙ its_document parts q.part in_order q.stands in
      let same : q.part.document ≡ large.document = (let e = sym there ∙ large.of in cc) in
      let text : edited_text large.edit large.document ≡ (made_in q.part).text =
      ap (λ (e : DocumentEdit). replaced e.replacements large.document.text) q.is ∙ ap (λ (d : Doc). replaced q.part.replacements d.text) (sym same) in
      ⊎_elim
      (λ long. not_found (is_too_large (documents_of parts)) (edits_of parts) large.edit small large.stands
      (ap (λ (o : Option Doc). option_map_or (λ document. nat_lt (2 ^ 22) (length (edited_text large.edit document))) o false) large.of ∙ (let t : nat_lt (2 ^ 22) (length (edited_text large.edit large.document)) ≡ true = grind (arith, nat_tests) in t)))
      (λ passes. none_of_these (map made_in parts) (made_in q.part) fine (to_map made_in parts q.part q.stands) (subst PassesSomeLimit text passes))
      large.passes
    where
      not_found : {X : Type 0} (p : X → Bool) (xs : List X) (x : X) → find p xs ≡ None → Contains xs x → p x ≡ true → ⊥
      not_found p [] x e stands passes = nothing_in x stands
      not_found {X} p (y ∷ ys) x e stands passes = by (p y) refl e (λ f d. not_found p ys x f d passes)
        where
          by : (b : Bool) → p y ≡ b → Rattle.std.specs.Prelude.cond b (Some y) (find p ys) ≡ None → (find p ys ≡ None → Contains ys x → ⊥) → ⊥
          by true t f later = absurd (cc)
          by false t f later = ⊎_elim (λ same. let g : true ≡ false = sym passes ∙ ap p (sym same) ∙ t in cc) (λ d. later f d) (cases_cons y x ys stands)

-- the first edited text of more than 4 MiB
pub first_too_large : (documents : List Doc) (edits : List DocumentEdit) (edit : DocumentEdit) → find (is_too_large documents) edits ≡ Some edit → IsTooLarge documents edits
first_too_large documents edits edit e = by (document_of documents edit) refl ((found (is_too_large documents) edits edit e).1)
  where
    by : (o : Option Doc) → document_of documents edit ≡ o → option_map_or (λ document. nat_lt (2 ^ 22) (length (edited_text edit document))) o false ≡ true → IsTooLarge documents edits
    by None of t = absurd (cc)
    by (Some document) of t =
        let more : 2 ^ 22 < length (edited_text edit document) = grind (arith, nat_tests) in
        record { edit = edit; stands = (found (is_too_large documents) edits edit e).0; document = document; of = of; passes = inl more }

-- each document stands with its replacements
part_there : (placed : List PlacedReplacement) (file : ℕ) (documents : List Doc) (k : ℕ) (d : Doc) → slice_get documents k ≡ Some d →
    Contains (parts_from placed file documents) (record { document = d; replacements = replacements_in placed (file + k) })
part_there placed file [] k d e = cc
part_there placed file (x ∷ documents) zero d e =
    let part : Doc → ℕ → Part = λ y n. record { document = y; replacements = replacements_in placed n } in
    let same : x ≡ d = cc in
    let number : file ≡ file + 0 = omega arith in
    first (part x file) (part d (file + 0)) (parts_from placed (suc file) documents) (ap (λ (y : Doc). part y file) same ∙ ap (part d) number)
part_there placed file (x ∷ documents) (suc k) d e =
    let number : suc file + k ≡ file + suc k = omega arith in
    let C : ℕ → Type 0 = λ n. Contains (parts_from placed (suc file) documents) (record { document = d; replacements = replacements_in placed n }) in
    later _ _ (parts_from placed (suc file) documents) (subst C number (part_there placed (suc file) documents k d e))

-- the text of a document in which something is replaced, where it passes a limit
pub text_too_large : (placed : List PlacedReplacement) (documents : List Doc) → IsInOrder documents → (k : ℕ) (d : Doc) → slice_get documents k ≡ Some d → (r : Replacement) (rs : List Replacement) →
    replacements_in placed k ≡ r ∷ rs → PassesSomeLimit (replaced (r ∷ rs) d.text) → IsTooLarge documents (edits_from placed 0 documents)
text_too_large placed documents in_order k d at r rs e passes =
    let number : 0 + k ≡ k = omega arith in
    let parts : List Part = parts_from placed 0 documents in
    let p : Part = record { document = d; replacements = replacements_in placed (0 + k) } in
    let stands : Contains parts p = part_there placed 0 documents k d at in
    let some : p.replacements ≡ r ∷ rs = ap (replacements_in placed) number ∙ e in
    let sorted : IsInOrder (documents_of parts) = subst IsInOrder (sym (documents_are placed 0 documents)) in_order in
    let edit : DocumentEdit = record { key = d.key; version = d.version; replacements = p.replacements } in
    let own : document_of (documents_of parts) edit ≡ Some d = its_document parts p sorted stands in
    let C : List DocumentEdit → Type 0 = λ es. Contains es edit in
    let F : List Doc → Type 0 = λ ds. document_of ds edit ≡ Some d in
    record {
      edit = edit;
      stands = subst C (edits_are placed 0 documents) (edit_of_part parts p r rs stands some);
      document = d;
      of = subst F (documents_are placed 0 documents) own;
      passes = inr (subst (λ (xs : List Replacement). PassesSomeLimit (replaced xs d.text)) (sym some) passes);
    }
