-- The faults of operations where a spread is inlined: none that was not there.
use Rattle.std.proofs.Common.{◌≡◌, ℕ, Bool, true, List, [], ◌∷◌, Some, Contains, map, slice_get, refl, sym, ap, ◌∙◌, subst}
use Rattle.std.specs.Prelude.{filter, if◌then◌else◌}
use Rattle.std.proofs.lemmas.Option.{slice_get-map}
use Rattle.std.proofs.lemmas.List.Folds.{flat_map-map}
use Rattle.gq_fault.specs.declared.fault.Fault.{Fault}
use Rattle.gq_fault.specs.FaultPlaces.{fault_at, fault_over}
use Rattle.gq_fault.specs.declared.code.Code.TheVariants.{SubscriptionOperation, NoRootType, OperationNameNotUnique, AnonymousOperationNotAlone}
use Rattle.gq_names.specs.Repeats.{IsRepeated}
use Rattle.gq_types.proofs.Gathered.{first, later, mapped}
use Rattle.gq_document.specs.Definitions.{OperationOf}
use Rattle.gq_document.specs.Executable.{ExecutableOf}
use Rattle.gq_fragments.specs.OperationPlace.{first_token, operation_place}
use Rattle.gq_fragments.specs.OperationNameUniqueness.{names_in, operation_names}
use Rattle.gq_fragments.specs.OperationFaults.{IsOperationFault, subscription, no_root_type, repeated_operation_name, not_alone}
use Rattle.gq_laws.specs.Rewriting.Edits.{SpreadAt}
use Rattle.gq_laws.proofs.RewrittenValid.InlinedProject.{inlined_operation, operation_stays, inlined_executable}
use Rattle.gq_laws.proofs.RewrittenValid.InlinedFacts.{CanBeInlined, was_operation}

all_pass : {A : Type 0} (stays : A → Bool) (xs : List A) → ((x : A) → Contains xs x → stays x ≡ true) → filter stays xs ≡ xs
all_pass stays [] all = refl
all_pass stays (x ∷ xs) all =
    ap (λ z. if z then x ∷ filter stays xs else filter stays xs) (all x (first x x xs refl)) ∙ ap (λ z. x ∷ z) (all_pass stays xs (λ w c. all w (later x w xs c)))

module _ (s : SpreadAt) (x : ExecutableOf) (k : CanBeInlined s x) (none : (f : Fault) → IsOperationFault x f → ⊥) where
  abbrev y : ExecutableOf
  y = inlined_executable s x

  operations_are : y.operations ≡ map (inlined_operation s) x.operations
  operations_are = ap (map (inlined_operation s)) (all_pass (operation_stays s) x.operations k.all_stay)

  names_are : operation_names y.operations ≡ operation_names x.operations
  names_are = ap operation_names operations_are ∙ flat_map-map (λ o. names_in o.file o.name) (inlined_operation s) x.operations

  at_number : (number : ℕ) (p : OperationOf) → slice_get y.operations number ≡ Some p → (o : OperationOf) × (slice_get x.operations number ≡ Some o) × (inlined_operation s o ≡ p)
  at_number number p e =
      mapped (inlined_operation s) (slice_get x.operations number) p (sym (slice_get-map (inlined_operation s) x.operations number) ∙ ap (λ z. slice_get z number) (sym operations_are) ∙ e)

  pub no_operation_fault : (f : Fault) → IsOperationFault y f → ⊥
  no_operation_fault f (subscription h) =
      let w = was_operation s x h.operation h.stands in
      none (fault_over w.was.file SubscriptionOperation (operation_place w.was))
      (subscription (record { operation = w.was; stands = w.stood; is_subscription = sym (ap (λ z. z.kind) w.is) ∙ h.is_subscription; is = refl }))
  no_operation_fault f (no_root_type h) =
      let w = was_operation s x h.operation h.stands in
      none (fault_over w.was.file NoRootType (operation_place w.was))
      (no_root_type (record { operation = w.was; stands = w.stood; is_mutation = sym (ap (λ z. z.kind) w.is) ∙ h.is_mutation; has_no_root = h.has_no_root; is = refl }))
  no_operation_fault f (repeated_operation_name h) =
      none (fault_at h.later.file OperationNameNotUnique h.later.name)
      (repeated_operation_name (record { later = h.later; is_repeated = subst (λ z. IsRepeated (λ n. n.name.text) z h.later) names_are h.is_repeated; is = refl }))
  no_operation_fault f (not_alone h) =
      let o = at_number h.number h.operation h.stands in
      let p = at_number h.other_number h.other h.other_stands in
      none (fault_over o.0.file AnonymousOperationNotAlone (first_token o.0)) (not_alone (record {
        number = h.number;
        operation = o.0;
        stands = o.1;
        is_anonymous = ap (λ z. z.name) o.2 ∙ h.is_anonymous;
        other_number = h.other_number;
        other = p.0;
        other_stands = p.1;
        is_another = h.is_another;
        is = refl;
      }))
