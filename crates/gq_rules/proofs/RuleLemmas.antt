-- What was found group by group is what all rules tell.
use Rattle.std.proofs.Common.{◌≡◌, ◌↔◌, ◌⊎◌, ⊎_elim, inl, inr, List, [], ◌++◌, ◌∙◌, ap}
use Rattle.gq_fields.specs.FieldFaults.{IsFieldFault}
use Rattle.gq_fault.specs.declared.fault.Fault.{Fault}
use Rattle.gq_fault.specs.Adds.{AddsExactly}
use Rattle.gq_fault.proofs.PutLemmas.{puts_both, puts_as}
use Rattle.gq_document.specs.Executable.{ExecutableOf}
use Rattle.gq_merging.specs.FieldsMerge.{IsMergingFault}
use Rattle.gq_rules.specs.RuleFaults.{IsRuleFault, of_operations, of_fields, of_fragments, of_spreads, of_variables, of_merging}
use Rattle.gq_rules.specs.Helping.RuleGroups.{IsDefinitionFault, IsDefinitionOrMergingFault, IsReachFault, IsOtherFault}

-- what was found apart, behind others
puts_found : (Is : Fault → Type 0) (old found new : List Fault) → AddsExactly Is [] found → new ≡ old ++ found → AddsExactly Is old new
puts_found Is old found new p e = record { added = p.added; is = e ∙ ap (λ xs. old ++ xs) p.is; exactly = p.exactly }

pub puts_then_found : (A B : Fault → Type 0) (old middle found new : List Fault) →
    AddsExactly A old middle → AddsExactly B [] found → new ≡ middle ++ found → AddsExactly (λ fault. A fault ⊎ B fault) old new
puts_then_found A B old middle found new a b e = puts_both A B old middle new a (puts_found B middle found new b e)

module _ (x : ExecutableOf) where
  told_are : (fault : Fault) → (IsDefinitionOrMergingFault x fault ⊎ IsOtherFault x fault) ↔ IsRuleFault x fault
  told_are fault = (
    ⊎_elim (⊎_elim (⊎_elim of_operations of_fragments) of_merging) (⊎_elim of_fields (⊎_elim of_spreads of_variables)),
    back,
  )
    where
      back : IsRuleFault x fault → IsDefinitionOrMergingFault x fault ⊎ IsOtherFault x fault
      back (of_operations f) = inl (inl (inl f))
      back (of_fragments f) = inl (inl (inr f))
      back (of_merging f) = inl (inr f)
      back (of_fields f) = inr (inl f)
      back (of_spreads f) = inr (inr (inl f))
      back (of_variables f) = inr (inr (inr f))

  -- two halves that were found apart
  pub puts_rules : (definitions others new : List Fault) → AddsExactly (IsDefinitionOrMergingFault x) [] definitions → AddsExactly (IsOtherFault x) [] others →
      new ≡ definitions ++ others → AddsExactly (IsRuleFault x) [] new
  puts_rules definitions others new d o e = puts_as _ (IsRuleFault x) [] new told_are
      (puts_then_found (IsDefinitionOrMergingFault x) (IsOtherFault x) [] definitions others new d o e)

  -- one group behind the other
  pub puts_groups : (old a b c new : List Fault) → AddsExactly (IsDefinitionFault x) old a → AddsExactly (IsMergingFault x) a b → AddsExactly (IsFieldFault x) b c →
      AddsExactly (IsReachFault x) c new → AddsExactly (IsRuleFault x) old new
  puts_groups old a b c new p q r s = puts_as _ (IsRuleFault x) old new told_are
      (puts_both (IsDefinitionOrMergingFault x) (IsOtherFault x) old b new (puts_both (IsDefinitionFault x) (IsMergingFault x) old a b p q)
      (puts_both (IsFieldFault x) (IsReachFault x) b c new r s))
