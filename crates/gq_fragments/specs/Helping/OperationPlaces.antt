-- What is told of operations, in the order of the rules, computed.
use Rattle.std.specs.Prelude.{Bool, true, false, List, [], ◌∷◌, ◌++◌, map, flat_map, length, nat_lt, is_none, if◌then◌else◌}
use Rattle.gq_tree.specs.declared.tree.OperationKind.{OperationKind}
use Rattle.gq_tree.specs.declared.tree.OperationKind.TheVariants.{Query, Mutation, Subscription}
use Rattle.gq_names.specs.Repeats.{repeated_after}
use Rattle.gq_fault.specs.declared.code.Code.TheVariants.{SubscriptionOperation, NoRootType, OperationNameNotUnique, AnonymousOperationNotAlone}
use Rattle.gq_fault.specs.declared.fault.Fault.{Fault}
use Rattle.gq_types.specs.Entries.{Text, EntryOf}
use Rattle.gq_types.specs.Roots.{root_of}
use Rattle.gq_document.specs.Definitions.{OperationOf}
use Rattle.gq_document.specs.Executable.{ExecutableOf}
use Rattle.gq_fault.specs.FaultPlaces.{fault_over, fault_at}
use Rattle.gq_fragments.specs.OperationPlace.{first_token, operation_place}
use Rattle.gq_fragments.specs.OperationNameUniqueness.{OperationName, operation_names}

abbrev pub is_subscription : OperationKind → Bool
is_subscription Query = false
is_subscription Mutation = false
is_subscription Subscription = true

abbrev pub is_mutation : OperationKind → Bool
is_mutation Query = false
is_mutation Mutation = true
is_mutation Subscription = false

abbrev pub subscription_at : OperationOf → List Fault
subscription_at o = if is_subscription o.kind then fault_over o.file SubscriptionOperation (operation_place o) ∷ [] else []

abbrev pub subscriptions : List OperationOf → List Fault
subscriptions os = flat_map subscription_at os

abbrev pub mutation_at : OperationOf → List Fault
mutation_at o = if is_mutation o.kind then fault_over o.file NoRootType (operation_place o) ∷ [] else []

abbrev pub mutations : List OperationOf → List Fault
mutations os = flat_map mutation_at os

abbrev pub without_root : List EntryOf → List OperationOf → List Fault
without_root es os = if is_none (root_of es Mutation) then mutations os else []

abbrev pub name_texts : List OperationName → List Text
name_texts names = map (λ n. n.name.text) names

abbrev pub repeated_names_among : (before : List Text) → List OperationName → List Fault
repeated_names_among before names = map (λ n. fault_at n.file OperationNameNotUnique n.name) (repeated_after (λ n. n.name.text) before names)

abbrev pub repeated_names : (before : List Text) → List OperationOf → List Fault
repeated_names before os = repeated_names_among before (operation_names os)

abbrev pub anonymous_at : OperationOf → List Fault
anonymous_at o = if is_none o.name then fault_over o.file AnonymousOperationNotAlone (first_token o) ∷ [] else []

abbrev pub anonymous : List OperationOf → List Fault
anonymous os = flat_map anonymous_at os

abbrev pub not_alone : List OperationOf → List Fault
not_alone os = if nat_lt (length os) 2 then [] else anonymous os

abbrev pub operation_faults : ExecutableOf → List Fault
operation_faults x = subscriptions x.operations ++ (without_root x.entries x.operations ++ (repeated_names [] x.operations ++ not_alone x.operations))
