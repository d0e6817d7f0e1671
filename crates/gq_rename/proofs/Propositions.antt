-- What is said of an edit has one proof at most, so it follows from what is only known to be there.
use Rattle.std.proofs.Common.{ℕ, List, [], ◌∷◌}
use Rattle.std.proofs.Math.Bridge.{le_prop}
use Rattle.std.specs.List.{AllByRecursion-prop}
use Rattle.gq_text.specs.declared.replacement.Replacement.{Replacement}
use Rattle.gq_project.specs.declared.document.Doc.{Doc}
use Rattle.gq_edit.specs.declared.edit.DocumentEdit.{DocumentEdit}
use Rattle.gq_edit.specs.Edits.{FitDocuments}
use Rattle.gq_edit.specs.Replacements.{FitText}

FitText-prop : (text : List ℕ) (rs : List Replacement) → IsProp (FitText text rs)
FitText-prop text [] = hlevel
FitText-prop text (r ∷ rs) = let rest = FitText-prop text rs in hlevel (le_prop, rest)

-- the spans fit the texts
pub FitDocuments-prop : (documents : List Doc) (edits : List DocumentEdit) → IsProp (FitDocuments documents edits)
FitDocuments-prop documents edits = AllByRecursion-prop _ (λ edit. hlevel FitText-prop) edits
