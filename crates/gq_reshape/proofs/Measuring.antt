-- What is known to pass its check is refused for too many bytes alone.
use Rattle.std.proofs.Common.{◌≡◌, ℕ, List, None, Result, Ok, Err, sym, subst, find}
use Rattle.gq_text.specs.declared.place.Span.{Span}
use Rattle.gq_tree.specs.Plain.{Def}
use Rattle.gq_tree.specs.Readings.{ParsedOf}
use Rattle.gq_project.specs.declared.document.Doc.{Doc}
use Rattle.gq_project.specs.Documents.{IsInOrder}
use Rattle.gq_parse.specs.Derives.{Derives}
use Rattle.gq_parse.specs.Limits.{PassesLimitAt}
use Rattle.gq_edit.specs.declared.edit.DocumentEdit.{DocumentEdit}
use Rattle.std.specs.Prelude.{IfOk}
use Rattle.gq_edit.specs.Edits.{FitDocuments, after_edit, is_too_large}
use Rattle.gq_renamed.specs.Projects.{AreTrees, none, more}
use Rattle.gq_renamed.proofs.EditedParts.{Part, documents_of}
use Rattle.gq_renamed.proofs.EditedParts as parts
use Rattle.gq_rename.specs.declared.refusal.Refusal.{Refusal}
use Rattle.gq_rename.specs.declared.refusal.Refusal.TheVariants.{ProjectInvalid, NothingHere, BadName, SameName, NameTaken, DirectiveInWay, NoPossibleType, NotSiblings, NotRedundant, TooLarge, SelfCheck, NoMemory}
use Rattle.gq_rename.specs.Asks.{trees_of}
use Rattle.gq_rename.specs.Checked.{IsMeasured}
use Rattle.gq_rename.specs.Rename.{IsTooLarge}
use Rattle.gq_reshape.specs.Cuts.{Cut, edits_of, PassesCheck}
use Rattle.gq_reshape.specs.Helping.Judged.{IsJudged}
use Rattle.gq_reshape.specs.Helping.Limits.{NonePasses}
use Rattle.gq_reshape.proofs.LimitLemmas.{not_too_large, first_too_large}
use Rattle.gq_reshape.proofs.PlacedLemmas.{parts_from, documents_are, edits_are, made_after}

-- a text with a tree passes no limit of tokens and nesting
abbrev pub NoTree : Type 0
NoTree = (text : List ℕ) (place : ℕ) (tree : List (Def Span)) → PassesLimitAt text place → Derives text tree → ⊥

none_pass : NoTree → {documents : List Doc} {trees : List (List (Def Span))} → AreTrees documents trees → NonePasses documents
none_pass no_tree none = tt
none_pass no_tree (more {document} {tree = tree} h hs) = (λ p. no_tree document.text p.0 tree p.1 h, none_pass no_tree hs)

module _ (no_tree : NoTree) (documents : List Doc) (in_order : IsInOrder documents) (trees : List (List (Def Span))) (are : AreTrees documents trees) (cut : Cut) where
  abbrev Parts : List Part
  Parts = parts_from cut.replacements 0 documents

  Documents : documents_of Parts ≡ documents
  Documents = documents_are cut.replacements 0 documents

  Edits : parts.edits_of Parts ≡ edits_of cut documents
  Edits = edits_are cut.replacements 0 documents

  -- no edited text has too many tokens, nests too deep, or has too many bytes
  pub none_too_large : NonePasses (after_edit (edits_of cut documents) documents) → find (is_too_large documents) (edits_of cut documents) ≡ None → IsTooLarge documents (edits_of cut documents) → ⊥
  none_too_large fine small =
      let F : List DocumentEdit → Type 0 = λ es. find (is_too_large documents) es ≡ None in
      let G : List Doc → Type 0 = λ ds. find (is_too_large ds) (parts.edits_of Parts) ≡ None in
      let here : find (is_too_large (documents_of Parts)) (parts.edits_of Parts) ≡ None = subst G (sym Documents) (subst F (sym Edits) small) in
      let sorted : IsInOrder (documents_of Parts) = subst IsInOrder (sym Documents) in_order in
      let T : List Doc → Type 0 = λ ds. AreTrees ds trees in
      let D : List Doc → Type 0 = λ ds. IsTooLarge ds (parts.edits_of Parts) → ⊥ in
      let E : List DocumentEdit → Type 0 = λ es. IsTooLarge documents es → ⊥ in
      subst E Edits (subst D Documents (not_too_large no_tree Parts sorted trees (subst T (sym Documents) are) (subst NonePasses (made_after cut.replacements documents in_order) fine) here))

module _ (no_tree : NoTree) (documents : List Doc) (in_order : IsInOrder documents) (before : List ParsedOf) (are : AreTrees documents (trees_of before)) (cut : Cut) (passes : PassesCheck documents (trees_of before) cut) where
  pub measured_judges : (result : Result (List DocumentEdit) Refusal) → IsMeasured documents (edits_of cut documents) result → IsJudged documents before cut result
  measured_judges (Ok made) h = (h.0, none_too_large no_tree documents in_order (trees_of before) are cut (none_pass no_tree passes.0.are_trees) h.1, passes)
  measured_judges (Err ProjectInvalid) h = h
  measured_judges (Err NothingHere) h = h
  measured_judges (Err BadName) h = h
  measured_judges (Err SameName) h = h
  measured_judges (Err NameTaken) h = h
  measured_judges (Err DirectiveInWay) h = h
  measured_judges (Err NoPossibleType) h = h
  measured_judges (Err NotSiblings) h = h
  measured_judges (Err NotRedundant) h = h
  measured_judges (Err TooLarge) h = first_too_large documents (edits_of cut documents) h.0 h.1
  measured_judges (Err SelfCheck) h = absurd h
  measured_judges (Err NoMemory) h = tt

pub measured_fits : (documents : List Doc) (edits : List DocumentEdit) (result : Result (List DocumentEdit) Refusal) → IsMeasured documents edits result → FitDocuments documents edits → IfOk result (FitDocuments documents)
measured_fits documents edits (Ok made) h fit = subst (FitDocuments documents) (sym h.0) fit
measured_fits documents edits (Err why) h fit = tt
