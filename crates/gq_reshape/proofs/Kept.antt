-- From the law on edits to what is answered.
use Rattle.std.proofs.Common.{◌≡◌, ◌⊎◌, List, Result, Ok, Err, IfOk, ⊎_elim}
use Rattle.gq_project.specs.declared.document.Doc.{Doc}
use Rattle.gq_project.specs.Documents.{IsInOrder}
use Rattle.gq_edit.specs.declared.edit.DocumentEdit.{DocumentEdit}
use Rattle.gq_rules.specs.Validity.{IsValid}
use Rattle.gq_rename.specs.declared.refusal.Refusal.{Refusal}
use Rattle.gq_rename.specs.declared.refusal.Refusal.TheVariants.{NoMemory}
use Rattle.gq_reshape.specs.Asks.{RangeAsk}
use Rattle.gq_reshape.specs.Responses.{KeepsResponses, EditsKeepResponses}

pub answers_keep : (IsAnswer : List Doc → RangeAsk → Result (List DocumentEdit) Refusal → Type 0) → EditsKeepResponses IsAnswer → (documents : List Doc) (ask : RangeAsk) → IsInOrder documents → ∥ IsValid documents ∥₁ → (result : Result (List DocumentEdit) Refusal) →
    (result ≡ Err NoMemory) ⊎ IsAnswer documents ask result → IfOk result (KeepsResponses documents)
answers_keep IsAnswer law documents ask in_order valid (Err why) a = tt
answers_keep IsAnswer law documents ask in_order valid (Ok edits) a = ⊎_elim (λ none. absurd (cc)) (λ answer. law documents ask in_order valid edits answer) a
