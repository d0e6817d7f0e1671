-- An operation is found where it first stands.
use Rattle.std.proofs.Common.{◌≡◌, ℕ, suc, ◌+◌, ◌<◌, ◌≤◌, Bool, true, false, cond, List, length, get_or, drop, Option, Some, None, refl, sym, ap, ◌∙◌, add-one, drop-cons}
use Rattle.std.proofs.Math.ListN.{drop_of_length-le}
use Rattle.std.specs.Prelude.{find}
use Rattle.gq_document.specs.declared.definitions.OperationEntry.{OperationEntry}
use Rattle.gq_document.specs.Definitions.{OperationOf, operation_view, operations_view}
use Rattle.gq_meaning.specs.Values.{Text}
use Rattle.gq_executor.specs.Operations.{is_called}

abbrev pub found_in : List OperationEntry → Text → Option OperationOf
found_in os name = find (is_called name) (operations_view os)

next : (os : List OperationEntry) (i : ℕ) (o : OperationEntry) (name : Text) → i < length os → o ≡ get_or os i o → found_in (drop i os) name ≡ cond (is_called name (operation_view o)) (Some (operation_view o)) (found_in (drop (i + 1) os) name)
next os i o name l q =
    ap (λ z. found_in z name) (drop-cons os i o l) ∙ ap (λ z. cond (is_called name (operation_view z)) (Some (operation_view z)) (found_in (drop (suc i) os) name)) (sym q)
    ∙ ap (λ z. cond (is_called name (operation_view o)) (Some (operation_view o)) (found_in (drop z os) name)) (sym (add-one i))

pub here : (os : List OperationEntry) (i : ℕ) (o : OperationEntry) (name : Text) (b : Bool) → i < length os → o ≡ get_or os i o → b ≡ is_called name (operation_view o) → b ≡ true → found_in os name ≡ found_in (drop i os) name → Some (operation_view o) ≡ found_in os name
here os i o name b l q t h w = sym (w ∙ next os i o name l q ∙ ap (λ z. cond z (Some (operation_view o)) (found_in (drop (i + 1) os) name)) (sym t ∙ h))

pub later : (os : List OperationEntry) (i : ℕ) (o : OperationEntry) (name : Text) (b : Bool) → i < length os → o ≡ get_or os i o → b ≡ is_called name (operation_view o) → b ≡ false → found_in os name ≡ found_in (drop i os) name → found_in os name ≡ found_in (drop (i + 1) os) name
later os i o name b l q t h w = w ∙ next os i o name l q ∙ ap (λ z. cond z (Some (operation_view o)) (found_in (drop (i + 1) os) name)) (sym t ∙ h)

pub nowhere : (os : List OperationEntry) (i : ℕ) (name : Text) → length os ≤ i → found_in os name ≡ found_in (drop i os) name → None ≡ found_in os name
nowhere os i name l w = sym (w ∙ ap (λ z. found_in z name) (drop_of_length-le os l))
