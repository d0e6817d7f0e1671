-- The faults of operations and of type conditions that come from one definition.
use Rattle.std.proofs.Common.{ℕ, List, refl, ap}
use Rattle.gq_text.specs.declared.place.Span.{Span}
use Rattle.gq_tree.specs.Plain.{NameOf}
use Rattle.gq_types.specs.Entries.{EntryOf}
use Rattle.gq_document.specs.Definitions.{OperationOf, FragmentOf}
use Rattle.gq_fragments.specs.TypeConditions as conditions
use Rattle.gq_fragments.specs.TypeConditions.{IsTypeCondition}
use Rattle.gq_fragments.specs.FragmentSpreadTypeExistence.{IsUnknownCondition}
use Rattle.gq_fragments.specs.FragmentsOnCompositeTypes.{IsConditionNotComposite}
use Rattle.gq_fragments.specs.SubscriptionOperation.{IsSubscription}
use Rattle.gq_fragments.specs.RootOperationTypes.{HasNoRootType}
use Rattle.gq_rules.specs.Files.{in_file}
use Rattle.gq_by_file.proofs.OneFile.Comes.{ComesFrom, from_operation, from_fragment, weaken, executable, AreLocal, selected_comes}
use Rattle.gq_by_file.proofs.OneFile.Numbers.{operation_to}

condition_comes : (es : List EntryOf) (os : List OperationOf) (gs : List FragmentOf) {file : ℕ} {name : NameOf Span} → IsTypeCondition (executable es os gs) file name →
    ComesFrom os gs (λ ps hs m. IsTypeCondition (executable es ps hs) m name) file
condition_comes es os gs (conditions.of_fragment c) = from_fragment c refl (λ m ps hs d. conditions.of_fragment d)
condition_comes es os gs (conditions.of_inline_fragment {name = name} c is) =
    weaken (λ ps hs m. IsTypeCondition (executable es ps hs) m name) refl (λ ps hs m d. conditions.of_inline_fragment d is) (selected_comes es c)

pub unknown_conditions_are : AreLocal IsUnknownCondition
unknown_conditions_are es os gs f h = weaken (λ ps hs m. IsUnknownCondition (executable es ps hs) (in_file m f)) (ap (λ z. z.file) h.is)
    (λ ps hs m d. record { file = m; name = h.name; is_condition = d; is_unknown = h.is_unknown; is = ap (in_file m) h.is })
    (condition_comes es os gs h.is_condition)

pub not_composite_are : AreLocal IsConditionNotComposite
not_composite_are es os gs f h = weaken (λ ps hs m. IsConditionNotComposite (executable es ps hs) (in_file m f)) (ap (λ z. z.file) h.is)
    (λ ps hs m d. record { file = m; name = h.name; is_condition = d; kind = h.kind; is_known = h.is_known; is_not_composite = h.is_not_composite; is = ap (in_file m) h.is })
    (condition_comes es os gs h.is_condition)

pub subscriptions_are : AreLocal IsSubscription
subscriptions_are es os gs f h = from_operation h.stands (ap (λ z. z.file) h.is)
    (λ m ps hs d. record { operation = operation_to m h.operation; stands = d; is_subscription = h.is_subscription; is = ap (in_file m) h.is })

pub no_roots_are : AreLocal HasNoRootType
no_roots_are es os gs f h = from_operation h.stands (ap (λ z. z.file) h.is)
    (λ m ps hs d. record { operation = operation_to m h.operation; stands = d; is_mutation = h.is_mutation; has_no_root = h.has_no_root; is = ap (in_file m) h.is })
