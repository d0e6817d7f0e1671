-- What is wrong with the fields of two parts of a project is what is wrong with the fields of all.
use Rattle.std.proofs.Common.{◌≡◌, ◌↔◌, ◌⊎◌, ⊎_elim, inl, inr, List, ◌++◌, Contains, flat_map, sym, subst}
use Rattle.std.proofs.lemmas.List.Elements.{Contains-append_left, Contains-append_right, Contains-append_cases}
use Rattle.gq_fault.specs.declared.fault.Fault.{Fault}
use Rattle.gq_fault.specs.Adds.{AddsExactly}
use Rattle.gq_fault.proofs.PutLemmas.{puts_as}
use Rattle.gq_types.proofs.Gathered.{from_flat, to_flat}
use Rattle.gq_document.specs.Executable.{ExecutableOf}
use Rattle.gq_fields.specs.FieldFaults.{IsFieldFault}
use Rattle.gq_fields.specs.Helping.FieldFaultsPlaces.{operation_faults, fragment_faults, operations_faults, fragments_faults, field_faults}
use Rattle.gq_fields.proofs.FieldFaultLemmas.{field_faults_are}
use Rattle.gq_rules.specs.Helping.Halves.{joined}

-- what is gathered from two lists is gathered from one behind the other
module _ {X : Type 0} (g : X → List Fault) (xs ys : List X) (f : Fault) where
  from_left : Contains (flat_map g xs) f → Contains (flat_map g (xs ++ ys)) f
  from_left c = let x = from_flat g xs f c in to_flat g (xs ++ ys) x.0 f (Contains-append_left xs ys x.0 x.1) x.2

  from_right : Contains (flat_map g ys) f → Contains (flat_map g (xs ++ ys)) f
  from_right c = let y = from_flat g ys f c in to_flat g (xs ++ ys) y.0 f (Contains-append_right xs ys y.0 y.1) y.2

  from_both : Contains (flat_map g (xs ++ ys)) f → Contains (flat_map g xs) f ⊎ Contains (flat_map g ys) f
  from_both c =
      let z = from_flat g (xs ++ ys) f c in
      elim (Contains-append_cases xs ys z.0 z.1) [
        | inl a ↦ inl (to_flat g xs z.0 f a z.2)
        | inr b ↦ inr (to_flat g ys z.0 f b z.2)
      ]

module _ (a : ExecutableOf) (f : Fault) where
  of_operations : Contains (operations_faults a.entries a.operations) f → Contains (field_faults a) f
  of_operations = Contains-append_left (operations_faults a.entries a.operations) (fragments_faults a.entries a.fragments) f

  of_fragments : Contains (fragments_faults a.entries a.fragments) f → Contains (field_faults a) f
  of_fragments = Contains-append_right (operations_faults a.entries a.operations) (fragments_faults a.entries a.fragments) f

-- all of the first, and of the other over the same types
module _ (a b : ExecutableOf) (same : b.entries ≡ a.entries) (f : Fault) where
  abbrev all : ExecutableOf
  all = joined a b

  from_first : Contains (field_faults a) f → Contains (field_faults all) f
  from_first c = elim (Contains-append_cases (operations_faults a.entries a.operations) (fragments_faults a.entries a.fragments) f c) [
    | inl o ↦ of_operations all f (from_left (operation_faults a.entries) a.operations b.operations f o)
    | inr g ↦ of_fragments all f (from_left (fragment_faults a.entries) a.fragments b.fragments f g)
  ]

  from_other : Contains (field_faults b) f → Contains (field_faults all) f
  from_other c = elim (Contains-append_cases (operations_faults b.entries b.operations) (fragments_faults b.entries b.fragments) f c) [
    | inl o ↦ of_operations all f (from_right (operation_faults a.entries) a.operations b.operations f (subst (λ es. Contains (operations_faults es b.operations) f) same o))
    | inr g ↦ of_fragments all f (from_right (fragment_faults a.entries) a.fragments b.fragments f (subst (λ es. Contains (fragments_faults es b.fragments) f) same g))
  ]

  to_both : Contains (field_faults all) f → Contains (field_faults a) f ⊎ Contains (field_faults b) f
  to_both c = elim (Contains-append_cases (operations_faults a.entries (a.operations ++ b.operations)) (fragments_faults a.entries (a.fragments ++ b.fragments)) f c) [
    | inl o ↦ elim (from_both (operation_faults a.entries) a.operations b.operations f o) [
      | inl l ↦ inl (of_operations a f l)
      | inr r ↦ inr (of_operations b f (subst (λ es. Contains (operations_faults es b.operations) f) (sym same) r))
    ]
    | inr g ↦ elim (from_both (fragment_faults a.entries) a.fragments b.fragments f g) [
      | inl l ↦ inl (of_fragments a f l)
      | inr r ↦ inr (of_fragments b f (subst (λ es. Contains (fragments_faults es b.fragments) f) (sym same) r))
    ]
  ]

  are_of_both : (IsFieldFault a f ⊎ IsFieldFault b f) ↔ IsFieldFault all f
  are_of_both = (
    ⊎_elim (λ w. (field_faults_are all f).0 (from_first ((field_faults_are a f).1 w))) (λ w. (field_faults_are all f).0 (from_other ((field_faults_are b f).1 w))),
    λ w. ⊎_elim (λ c. inl ((field_faults_are a f).0 c)) (λ c. inr ((field_faults_are b f).0 c)) (to_both ((field_faults_are all f).1 w)),
  )

-- so what was found in both is what is wrong in all
pub puts_all : (x a b : ExecutableOf) (old new : List Fault) → x ≡ joined a b → b.entries ≡ a.entries
    → AddsExactly (λ f. IsFieldFault a f ⊎ IsFieldFault b f) old new → AddsExactly (IsFieldFault x) old new
puts_all x a b old new all same p =
    subst (λ y. AddsExactly (IsFieldFault y) old new) (sym all)
    (puts_as (λ f. IsFieldFault a f ⊎ IsFieldFault b f) (IsFieldFault (joined a b)) old new (λ f. are_of_both a b same f) p)
