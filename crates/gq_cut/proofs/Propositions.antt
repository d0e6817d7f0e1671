-- What is said of places and of edits has one proof at most, so it follows from what is only known to be there.
use Rattle.std.proofs.Common.{ℕ, ◌+◌, List, [], ◌∷◌}
use Rattle.std.proofs.Math.Bridge.{le_prop}
use Rattle.std.proofs.Math.Logic.{∥∥₁_elim}
use Rattle.std.proofs.lemmas.Map.Keys.{IsStrictlySortedBy-prop}
use Rattle.gq_text.specs.declared.replacement.Replacement.{Replacement}
use Rattle.gq_project.specs.declared.document.Doc.{Doc}
use Rattle.gq_edit.specs.declared.edit.DocumentEdit.{DocumentEdit}
use Rattle.gq_edit.specs.Replacements.{AreDisjoint, AreDisjointFrom}
use Rattle.gq_edit.specs.Edits.{AreInOrder}
use Rattle.gq_index.specs.declared.occurrence.Occurrence.{Occurrence}
use Rattle.gq_cut.specs.Helping.Runs.{run, behind, replacements_at, AreApart}

-- what follows from two things that are there
pub from_both : {A B P : Type 0} → ∥ A ∥₁ → ∥ B ∥₁ → IsProp P → (A → B → P) → P
from_both a b one f = ∥∥₁_elim a one (λ x. ∥∥₁_elim b one (λ y. f x y))

AreDisjointFrom-prop : (from : ℕ) (rs : List Replacement) → IsProp (AreDisjointFrom from rs)
AreDisjointFrom-prop from [] = hlevel
AreDisjointFrom-prop from (r ∷ rs) = let rest = AreDisjointFrom-prop r.span.end rs in hlevel (le_prop, rest)

pub AreApart-prop : (new : List ℕ) (file : ℕ) (documents : List Doc) (os : List Occurrence) → IsProp (AreApart new file documents os)
AreApart-prop new file [] os = hlevel
AreApart-prop new file (document ∷ documents) os =
    let here : IsProp (AreDisjoint (replacements_at new (run file os))) = AreDisjointFrom-prop 0 (replacements_at new (run file os)) in
    let rest = AreApart-prop new (file + 1) documents (behind file os) in
    hlevel (here, rest)

pub AreInOrder-prop : (edits : List DocumentEdit) → IsProp (AreInOrder edits)
AreInOrder-prop edits = IsStrictlySortedBy-prop _ edits
