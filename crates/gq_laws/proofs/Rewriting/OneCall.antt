-- Where no two fields are told that do not merge, two that meet and whose parents can coincide are one call (section 5.3.2).
use Rattle.std.proofs.Common.{◌≡◌, inl, inr, Bool, true, false, refl, sym}
use Rattle.gq_fault.specs.declared.fault.Fault.{Fault}
use Rattle.gq_document.specs.Executable.{ExecutableOf}
use Rattle.gq_document.specs.FieldSets.{FieldAt}
use Rattle.gq_merging.specs.FieldsMerge.{can_coincide, Meet, IsSameCall, in_call, IsNoLater, fault_of, IsMergingFault, of_names}
use Rattle.gq_merging.specs.Helping.Comparisons.{is_no_later}
use Rattle.gq_merging.specs.declared.purpose.Purpose.TheVariants.{Names}
use Rattle.gq_merging.proofs.EarliestLemmas.{no_later, no_later_other}
use Rattle.gq_merging.proofs.EquivalenceLemmas.{arguments_back}
use Rattle.gq_laws.proofs.Rewriting.Identical.{IsOrNot, same_call_or}

call_back : (a b : FieldAt) → IsSameCall a b → IsSameCall b a
call_back a b same = record { one_name = sym same.one_name; same_arguments = arguments_back a.arguments b.arguments same.same_arguments }

module _ (x : ExecutableOf) (merge : (fault : Fault) → IsMergingFault x fault → ⊥) where
  never_differ : (a b : FieldAt) → Meet x Names a b → can_coincide x.entries a.parent b.parent ≡ true → IsNoLater a b → (IsSameCall a b → ⊥) → ⊥
  never_differ a b met c l other = merge (fault_of b) (of_names (record {
    first = a;
    later = b;
    meet = met;
    differ = in_call c other;
    is_no_later = l;
    is = refl;
  }))

  pub one_call : (a b : FieldAt) → Meet x Names a b → Meet x Names b a → can_coincide x.entries a.parent b.parent ≡ true → can_coincide x.entries b.parent a.parent ≡ true → IsSameCall a b
  one_call a b met met' c c' = by_test (same_call_or a b)
    where
      by_order : (t : Bool) → is_no_later a b ≡ t → (IsSameCall a b → ⊥) → ⊥
      by_order true e other = never_differ a b met c (no_later a b e) other
      by_order false e other = never_differ b a met' c' (no_later_other a b e) (λ same. other (call_back b a same))

      by_test : IsOrNot (IsSameCall a b) → IsSameCall a b
      by_test (inl same) = same
      by_test (inr other) = absurd (by_order (is_no_later a b) refl other)
