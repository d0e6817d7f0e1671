-- The edits of a rename are of documents of the project, and the edited texts have trees.
use Rattle.std.proofs.Common.{◌≡◌, ℕ, ◌^◌, ◌<◌, Bool, true, false, List, [], ◌∷◌, length, Option, Some, None, Contains, refl, sym, ap, subst, ◌∙◌, arith, inl, ⊎_elim}
use Rattle.std.specs.Prelude.{find, is_none, nat_lt, All}
use Rattle.std.specs.List.{AllByRecursion}
use Rattle.std.specs.Option.{option_map_or}
use Rattle.std.specs.Str.{IsUtf8}
use Rattle.std.proofs.lemmas.Bool.Decides.{nat_tests}
use Rattle.std.proofs.lemmas.List.Elements.{All-contains, All-from_recursion, recursion_from_All, All-contains_itself}
use Rattle.gq_text.specs.declared.place.Span.{Span}
use Rattle.gq_text.specs.declared.replacement.Replacement.{Replacement}
use Rattle.gq_text.specs.Replaced.{replaced}
use Rattle.gq_lex.specs.declared.token.Kind.TheVariants as kind
use Rattle.gq_lex.specs.Tokens.{IsToken}
use Rattle.gq_tree.specs.Plain.{Def}
use Rattle.gq_project.specs.declared.document.Doc.{Doc}
use Rattle.gq_project.specs.Documents.{IsInOrder}
use Rattle.gq_parse.specs.Derives.{Derives}
use Rattle.gq_parse.specs.Limits.{PassesLimitAt}
use Rattle.gq_types.proofs.Gathered.{nothing_in, cases_cons, found}
use Rattle.gq_edit.specs.declared.edit.DocumentEdit.{DocumentEdit}
use Rattle.gq_edit.specs.Edits.{is_of, document_of, edited_text, is_moved, is_too_large}
use Rattle.gq_edit.proofs.Fitting.{document_of-itself}
use Rattle.gq_renamed.specs.Renamings.{Renaming, MayName}
use Rattle.gq_renamed.specs.Rewritten.{rename_replacements, Rewrites, RenamedTextsRead}
use Rattle.gq_renamed.specs.Projects.{AreTrees, none, more, number_behind, edit_if_any, rename_edits}
use Rattle.gq_renamed.proofs.EditedParts.{of_itself}
use Rattle.gq_rename.specs.Rename.{IsTooLarge}
use Rattle.gq_rename.proofs.Below.{all_append}

-- an edit of a document, whose edited text has a tree
pub record EditOf (documents : List Doc) (edit : DocumentEdit) : Type 0 where
  pub document : Doc
  pub stands : Contains documents document
  pub is : is_of document edit ≡ true
  pub tree : List (Def Span)
  pub derives : Derives (edited_text edit document) tree

module _ (texts_read : RenamedTextsRead) (rule : ℕ → Renaming) (new : List ℕ) (is_name : IsToken kind.Name new []) (may : (n : ℕ) → MayName (rule n) new) (all : List Doc) where
  edits_of : (k : ℕ) {documents : List Doc} {trees : List (List (Def Span))} → AreTrees documents trees → AllByRecursion (λ document. Contains all document) documents → AllByRecursion (EditOf all) (rename_edits rule k new documents trees)
  edits_of k none stand = tt
  edits_of k (more {document = document} {documents = documents} {tree = tree} {trees = trees} derives others) stand =
      all_append (EditOf all) (edit_if_any document (rename_replacements rule k new tree)) (rename_edits rule (number_behind tree k) new documents trees)
      (by (rename_replacements rule k new tree) refl)
      (edits_of (number_behind tree k) others stand.1)
    where
      by : (rs : List Replacement) → rename_replacements rule k new tree ≡ rs → AllByRecursion (EditOf all) (edit_if_any document rs)
      by [] e = tt
      by (r ∷ rs) e =
          let w : Rewrites rule k new document.text tree = texts_read rule k new document.text tree derives is_name may in
          let D : List Replacement → Type 0 = λ xs. Derives (replaced xs document.text) w.tree in
          let one : EditOf all (record { key = document.key; version = document.version; replacements = r ∷ rs }) = record { document = document; stands = stand.0; is = of_itself document (r ∷ rs); tree = w.tree; derives = subst D e w.derives } in
          (one, tt)

all_of_itself : (documents : List Doc) → AllByRecursion (λ document. Contains documents document) documents
all_of_itself documents = recursion_from_All (Contains documents) documents (All-contains_itself documents)

-- the edits of a rename
pub rename_edits_of : RenamedTextsRead → (rule : ℕ → Renaming) (new : List ℕ) (documents : List Doc) (trees : List (List (Def Span))) → IsToken kind.Name new [] → ((n : ℕ) → MayName (rule n) new) → AreTrees documents trees → AllByRecursion (EditOf documents) (rename_edits rule 0 new documents trees)
rename_edits_of texts_read rule new documents trees is_name may are = edits_of texts_read rule new is_name may documents 0 are (all_of_itself documents)

nothing_found : {X : Type 0} (p : X → Bool) (xs : List X) → AllByRecursion (λ x. p x ≡ false) xs → find p xs ≡ None
nothing_found p [] h = refl
nothing_found {X} p (x ∷ xs) h = ap (λ (b : Bool). Rattle.std.specs.Prelude.cond b (Some x) (find p xs)) h.0 ∙ nothing_found p xs h.1

-- none of them is moved
pub none_moved : (documents : List Doc) (edits : List DocumentEdit) → IsInOrder documents → AllByRecursion (EditOf documents) edits → find (is_moved documents) edits ≡ None
none_moved documents edits in_order h = nothing_found (is_moved documents) edits (stay edits h)
  where
    stay : (es : List DocumentEdit) → AllByRecursion (EditOf documents) es → AllByRecursion (λ e. is_moved documents e ≡ false) es
    stay [] h = tt
    stay (e ∷ es) h = (ap is_none (document_of-itself documents e h.0.document in_order h.0.stands h.0.is), stay es h.1)

-- the tree of an edited text
edited_tree : (documents : List Doc) (edits : List DocumentEdit) → IsInOrder documents → AllByRecursion (EditOf documents) edits → (edit : DocumentEdit) (document : Doc) → Contains edits edit → document_of documents edit ≡ Some document → (tree : List (Def Span)) × Derives (edited_text edit document) tree
edited_tree documents edits in_order h edit document stands of =
    let one = All-contains (EditOf documents) edits edit (All-from_recursion (EditOf documents) edits h) stands in
    let there = document_of-itself documents edit one.document in_order one.stands one.is in
    let same : one.document ≡ document = (let e = sym there ∙ of in cc) in
    let D : Doc → Type 0 = λ d. Derives (edited_text edit d) one.tree in
    (one.tree, subst D same one.derives)

not_found : {X : Type 0} (p : X → Bool) (xs : List X) (x : X) → find p xs ≡ None → Contains xs x → p x ≡ true → ⊥
not_found p [] x e stands passes = nothing_in x stands
not_found {X} p (y ∷ ys) x e stands passes = by (p y) refl e (λ f d. not_found p ys x f d passes)
  where
    by : (b : Bool) → p y ≡ b → Rattle.std.specs.Prelude.cond b (Some y) (find p ys) ≡ None → (find p ys ≡ None → Contains ys x → ⊥) → ⊥
    by true t f later = absurd (cc)
    by false t f later =
        ⊎_elim
        (λ same. let g : true ≡ false = sym passes ∙ ap p (sym same) ∙ t in cc)
        (λ d. later f d)
        (cases_cons y x ys stands)

-- the first edit that is too large
pub too_large : (documents : List Doc) (edits : List DocumentEdit) (edit : DocumentEdit) → find (is_too_large documents) edits ≡ Some edit → IsTooLarge documents edits
too_large documents edits edit e = by (document_of documents edit) refl ((found (is_too_large documents) edits edit e).1)
  where
    by : (o : Option Doc) → document_of documents edit ≡ o → option_map_or (λ document. nat_lt (2 ^ 22) (length (edited_text edit document))) o false ≡ true → IsTooLarge documents edits
    by None of t = absurd (cc)
    by (Some document) of t =
        let more : 2 ^ 22 < length (edited_text edit document) = grind (arith, nat_tests) in
        record { edit = edit; stands = (found (is_too_large documents) edits edit e).0; document = document; of = of; passes = inl more }

-- no edited text passes a limit, where none is found to have too many bytes
pub not_too_large : ((text : List ℕ) (place : ℕ) (tree : List (Def Span)) → PassesLimitAt text place → Derives text tree → ⊥) → (documents : List Doc) (edits : List DocumentEdit) → IsInOrder documents → AllByRecursion (EditOf documents) edits → find (is_too_large documents) edits ≡ None → IsTooLarge documents edits → ⊥
not_too_large no_tree documents edits in_order h none_found large =
    ⊎_elim
    (λ long. not_found (is_too_large documents) edits large.edit none_found large.stands
    (ap (λ (o : Option Doc). option_map_or (λ document. nat_lt (2 ^ 22) (length (edited_text large.edit document))) o false) large.of ∙ (let t : nat_lt (2 ^ 22) (length (edited_text large.edit large.document)) ≡ true = grind (arith, nat_tests) in t)))
    (λ passes. let w = edited_tree documents edits in_order h large.edit large.document large.stands large.of in no_tree (edited_text large.edit large.document) passes.0 w.0 passes.1 w.1)
    large.passes
