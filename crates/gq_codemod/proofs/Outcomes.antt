-- What a rename comes to.
use Rattle.std.proofs.Common.{◌≡◌, ◌⊎◌, inl, inr, ℕ, ◌≤◌, ◌^◌, List, [], ◌∷◌, All, length, Result, Ok, Err, IfOk, IfErr, sym, subst}
use Rattle.std.specs.List.{AllByRecursion}
use Rattle.std.proofs.lemmas.List.Elements.{All-head, All-tail}
use Rattle.gq_project.specs.declared.document.Doc.{Doc}
use Rattle.gq_rules.specs.declared.valid.Invalid.{Invalid}
use Rattle.gq_edit.specs.declared.edit.DocumentEdit.{DocumentEdit}
use Rattle.gq_edit.specs.Edits.{after_edit}
use Rattle.gq_edit.specs.Workspace.{AreTexts}
use Rattle.gq_rules.specs.Validity.{IsValid}
use Rattle.gq_rename.specs.declared.refusal.Refusal.TheVariants.{NoMemory}
use Rattle.gq_rename.specs.Rename.{IsRenameAnswer}
use Rattle.gq_rename.specs.Responses.{KeepsResponses}
use Rattle.gq_codemod.specs.Renames.{IsRenamed}

-- documents of at most 4 MiB
pub texts_are : (documents : List Doc) → All (λ doc. length doc.text ≤ 2 ^ 22) documents → AreTexts documents
texts_are [] h = tt
texts_are (d ∷ ds) h = (All-head (λ (doc : Doc). length doc.text ≤ 2 ^ 22) d ds h, texts_are ds (All-tail (λ (doc : Doc). length doc.text ≤ 2 ^ 22) d ds h))

-- a project that was judged has the same texts
pub texts_of_valid : (judged : Result (List Doc) Invalid) (project : List Doc) → All (λ doc. length doc.text ≤ 2 ^ 22) project → IfOk judged (λ v. v ≡ project) → IfOk judged (λ v. All (λ doc. length doc.text ≤ 2 ^ 22) v)
texts_of_valid (Ok v) project all same = subst (All (λ doc. length doc.text ≤ 2 ^ 22)) (sym same) all
texts_of_valid (Err e) project all same = tt

pub texts_of_invalid : (judged : Result (List Doc) Invalid) (project : List Doc) → All (λ doc. length doc.text ≤ 2 ^ 22) project → IfErr judged (λ i. i.project ≡ project) → IfErr judged (λ i. All (λ doc. length doc.text ≤ 2 ^ 22) i.project)
texts_of_invalid (Ok v) project all back = tt
texts_of_invalid (Err e) project all back = subst (All (λ doc. length doc.text ≤ 2 ^ 22)) (sym back) all

-- an edit is no want of memory
pub is_renamed : (documents : List Doc) (key : List ℕ) (offset offset' : ℕ) (new : List ℕ) (edits : List DocumentEdit) → offset ≡ offset' → ∥ IsValid documents ∥₁
    → (Ok edits ≡ Err NoMemory) ⊎ IsRenameAnswer documents key offset new (Ok edits) → ∥ IsValid (after_edit edits documents) ∥₁ → KeepsResponses documents key offset new edits → IsRenamed documents key offset' new edits
is_renamed documents key offset offset' new edits is valid (inl same) stays responses = absurd (cc)
is_renamed documents key offset offset' new edits is valid (inr answer) stays responses =
    subst (λ n. IsRenamed documents key n new edits) is (record { valid = valid; exact = answer; stays_valid = stays; responses = responses })
