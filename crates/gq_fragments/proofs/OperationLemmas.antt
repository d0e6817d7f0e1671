-- What is told of operations is what the rules demand.
use Rattle.std.proofs.Common.{◌≡◌, ◌≢◌, ℕ, zero, suc, ◌<◌, Bool, true, false, if◌then◌else◌, nat_lt, length, is_none, [], ◌++◌, None, ◌↔◌, Contains, refl, sym, ap, subst, inl, inr, arith}
use Rattle.std.proofs.lemmas.Bool.{ltb-true, ltb-false}
use Rattle.std.proofs.lemmas.List.Elements.{Contains-append_left, Contains-append_right, Contains-append_cases}
use Rattle.gq_tree.specs.declared.tree.OperationKind.{OperationKind}
use Rattle.gq_tree.specs.declared.tree.OperationKind.TheVariants.{Query, Mutation, Subscription}
use Rattle.gq_names.specs.Repeats.{repeated}
use Rattle.gq_names.proofs.RepeatLemmas.{contains_none, repeated_is}
use Rattle.gq_fault.specs.declared.code.Code.TheVariants.{SubscriptionOperation, NoRootType, OperationNameNotUnique, AnonymousOperationNotAlone}
use Rattle.gq_fault.specs.declared.fault.Fault.{Fault}
use Rattle.gq_types.specs.Roots.{root_of}
use Rattle.gq_types.proofs.Gathered.{from_flat, to_flat, from_if, to_if, from_map_as as from_map, to_map_as as to_map}
use Rattle.gq_document.specs.Executable.{ExecutableOf}
use Rattle.gq_fault.specs.FaultPlaces.{fault_over, fault_at}
use Rattle.gq_fragments.specs.OperationPlace.{first_token, operation_place}
use Rattle.gq_fragments.specs.SubscriptionOperation.{IsSubscription}
use Rattle.gq_fragments.specs.RootOperationTypes.{HasNoRootType}
use Rattle.gq_fragments.specs.OperationNameUniqueness.{OperationName, operation_names, IsRepeatedOperationName}
use Rattle.gq_fragments.specs.LoneAnonymousOperation.{IsNotAlone}
use Rattle.gq_fragments.specs.OperationFaults.{IsOperationFault}
use Rattle.gq_fragments.specs.OperationFaults as fault
use Rattle.gq_fragments.specs.Helping.OperationPlaces.{is_subscription, is_mutation, subscription_at, subscriptions, mutation_at, mutations, without_root, repeated_names, anonymous_at, anonymous, not_alone, operation_faults}
use Rattle.gq_fragments.proofs.FoundLemmas.{found_none, at_number, number_of, inside_of, contained}

of_subscription : (k : OperationKind) → is_subscription k ≡ true → k ≡ Subscription
of_subscription Query h = absurd (cc)
of_subscription Mutation h = absurd (cc)
of_subscription Subscription h = refl

of_mutation : (k : OperationKind) → is_mutation k ≡ true → k ≡ Mutation
of_mutation Query h = absurd (cc)
of_mutation Mutation h = refl
of_mutation Subscription h = absurd (cc)

module _ (x : ExecutableOf) (item : Fault) where
  -- subscriptions
  subscription_is : Contains (subscriptions x.operations) item → IsSubscription x item
  subscription_is found =
      let one = from_flat subscription_at x.operations item found in
      let told = from_if (is_subscription one.0.kind) (fault_over one.0.file SubscriptionOperation (operation_place one.0)) item one.2 in
      record { operation = one.0; stands = one.1; is_subscription = of_subscription one.0.kind told.0; is = told.1 }

  to_subscription : IsSubscription x item → Contains (subscriptions x.operations) item
  to_subscription w =
      to_flat subscription_at x.operations w.operation item w.stands
      (to_if (is_subscription w.operation.kind) (fault_over w.operation.file SubscriptionOperation (operation_place w.operation)) item (ap is_subscription w.is_subscription) w.is)

  -- mutations without a root type
  mutation_is : root_of x.entries Mutation ≡ None → Contains (mutations x.operations) item → HasNoRootType x item
  mutation_is absent found =
      let one = from_flat mutation_at x.operations item found in
      let told = from_if (is_mutation one.0.kind) (fault_over one.0.file NoRootType (operation_place one.0)) item one.2 in
      record { operation = one.0; stands = one.1; is_mutation = of_mutation one.0.kind told.0; has_no_root = absent; is = told.1 }

  no_root_is : (b : Bool) → is_none (root_of x.entries Mutation) ≡ b → Contains (if b then mutations x.operations else []) item → HasNoRootType x item
  no_root_is true absent found = mutation_is (found_none (root_of x.entries Mutation) absent) found
  no_root_is false absent found = absurd (contains_none item found)

  to_no_root : HasNoRootType x item → Contains (without_root x.entries x.operations) item
  to_no_root w =
      let told = to_if (is_mutation w.operation.kind) (fault_over w.operation.file NoRootType (operation_place w.operation)) item (ap is_mutation w.is_mutation) w.is in
      let all = to_flat mutation_at x.operations w.operation item w.stands told in
      subst (λ b. Contains (if b then mutations x.operations else []) item) (sym (ap is_none w.has_no_root)) all

  -- names that an earlier operation has
  repeated_name_is : Contains (repeated_names [] x.operations) item → IsRepeatedOperationName x item
  repeated_name_is found =
      let one = from_map (λ n. fault_at n.file OperationNameNotUnique n.name) (repeated (λ n. n.name.text) (operation_names x.operations)) item found in
      record { later = one.0; is_repeated = (repeated_is (λ (n : OperationName). n.name.text) (operation_names x.operations) one.0).0 one.1; is = one.2 }

  to_repeated_name : IsRepeatedOperationName x item → Contains (repeated_names [] x.operations) item
  to_repeated_name w =
      to_map (λ n. fault_at n.file OperationNameNotUnique n.name) (repeated (λ n. n.name.text) (operation_names x.operations)) w.later item
      ((repeated_is (λ (n : OperationName). n.name.text) (operation_names x.operations) w.later).1 w.is_repeated) w.is

  -- anonymous operations beside others
  anonymous_is : 1 < length x.operations → Contains (anonymous x.operations) item → IsNotAlone x item
  anonymous_is several found =
      let one = from_flat anonymous_at x.operations item found in
      let told = from_if (is_none one.0.name) (fault_over one.0.file AnonymousOperationNotAlone (first_token one.0)) item one.2 in
      let number = number_of x.operations one.0 one.1 in
      let another = other_number number.0 in
      record {
        number = number.0;
        operation = one.0;
        stands = number.1;
        is_anonymous = found_none one.0.name told.0;
        other_number = another.0;
        other = (at_number x.operations another.0 (another.1 several)).0;
        other_stands = (at_number x.operations another.0 (another.1 several)).1;
        is_another = another.2;
        is = told.1;
      }
    where
      other_number : (n : ℕ) → (k : ℕ) × (1 < length x.operations → k < length x.operations) × (n ≢ k)
      other_number zero = (1, λ several. several, λ same. omega (arith, same))
      other_number (suc n) = (0, λ several. omega (arith, several), λ same. omega (arith, same))

  not_alone_is : (b : Bool) → nat_lt (length x.operations) 2 ≡ b → Contains (if b then [] else anonymous x.operations) item → IsNotAlone x item
  not_alone_is true few found = absurd (contains_none item found)
  not_alone_is false few found = anonymous_is (let many = ltb-false (length x.operations) 2 few in omega (arith, many)) found

  to_not_alone : IsNotAlone x item → Contains (not_alone x.operations) item
  to_not_alone w = by_count (nat_lt (length x.operations) 2) refl
    where
      all : Contains (anonymous x.operations) item
      all =
          to_flat anonymous_at x.operations w.operation item (contained x.operations w.number w.operation w.stands)
          (to_if (is_none w.operation.name) (fault_over w.operation.file AnonymousOperationNotAlone (first_token w.operation)) item (ap is_none w.is_anonymous) w.is)

      by_count : (b : Bool) → nat_lt (length x.operations) 2 ≡ b → Contains (if b then [] else anonymous x.operations) item
      by_count true few =
          let inside = inside_of x.operations w.number w.operation w.stands in
          let other_inside = inside_of x.operations w.other_number w.other w.other_stands in
          let count = ltb-true (length x.operations) 2 few in
          absurd (w.is_another (omega (arith, inside, other_inside, count)))
      by_count false few = all

  -- all rules
  fault_is : Contains (operation_faults x) item → IsOperationFault x item
  fault_is found =
      let os = x.operations in
      elim (Contains-append_cases (subscriptions os) (without_root x.entries os ++ (repeated_names [] os ++ not_alone os)) item found) [
        | inl a ↦ fault.subscription (subscription_is a)
        | inr b ↦ elim (Contains-append_cases (without_root x.entries os) (repeated_names [] os ++ not_alone os) item b) [
          | inl a ↦ fault.no_root_type (no_root_is (is_none (root_of x.entries Mutation)) refl a)
          | inr b ↦ elim (Contains-append_cases (repeated_names [] os) (not_alone os) item b) [
            | inl a ↦ fault.repeated_operation_name (repeated_name_is a)
            | inr b ↦ fault.not_alone (not_alone_is (nat_lt (length os) 2) refl b)
          ]
        ]
      ]

  to_faults : IsOperationFault x item → Contains (operation_faults x) item
  to_faults (fault.subscription w) = Contains-append_left (subscriptions x.operations) (without_root x.entries x.operations ++ (repeated_names [] x.operations ++ not_alone x.operations)) item (to_subscription w)
  to_faults (fault.no_root_type w) =
      Contains-append_right (subscriptions x.operations) (without_root x.entries x.operations ++ (repeated_names [] x.operations ++ not_alone x.operations)) item
      (Contains-append_left (without_root x.entries x.operations) (repeated_names [] x.operations ++ not_alone x.operations) item (to_no_root w))
  to_faults (fault.repeated_operation_name w) =
      Contains-append_right (subscriptions x.operations) (without_root x.entries x.operations ++ (repeated_names [] x.operations ++ not_alone x.operations)) item
      (Contains-append_right (without_root x.entries x.operations) (repeated_names [] x.operations ++ not_alone x.operations) item
      (Contains-append_left (repeated_names [] x.operations) (not_alone x.operations) item (to_repeated_name w)))
  to_faults (fault.not_alone w) =
      Contains-append_right (subscriptions x.operations) (without_root x.entries x.operations ++ (repeated_names [] x.operations ++ not_alone x.operations)) item
      (Contains-append_right (without_root x.entries x.operations) (repeated_names [] x.operations ++ not_alone x.operations) item
      (Contains-append_right (repeated_names [] x.operations) (not_alone x.operations) item (to_not_alone w)))

  pub operation_faults_are : Contains (operation_faults x) item ↔ IsOperationFault x item
  operation_faults_are = (fault_is, to_faults)
