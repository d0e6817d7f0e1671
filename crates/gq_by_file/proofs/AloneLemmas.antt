-- What rests on one file is told by four groups of rules.
use Rattle.std.proofs.Common.{◌≡◌, ◌↔◌, ⊎_elim, inl, inr, true, false, List, [], ◌∷◌, Contains, filter, refl, sym, ap, ◌∙◌, subst}
use Rattle.std.proofs.lemmas.List.{append-nil}
use Rattle.gq_tree.specs.Readings.{ParsedOf, in_document}
use Rattle.gq_fault.specs.declared.fault.Fault.{Fault}
use Rattle.gq_fault.specs.Adds.{AddsExactly}
use Rattle.gq_types.specs.Entries.{EntryOf}
use Rattle.gq_types.proofs.Gathered.{from_filter, to_filter}
use Rattle.gq_document.specs.Definitions.{OperationOf, FragmentOf, operation_in, fragment_in, operations_of, fragments_of}
use Rattle.gq_document.specs.Executable.{ExecutableOf}
use Rattle.gq_fragments.specs.ConditionFaults.{IsConditionFault}
use Rattle.gq_fragments.specs.ConditionFaults as conditions
use Rattle.gq_fragments.specs.FragmentFaults.{IsFragmentFault}
use Rattle.gq_fragments.specs.FragmentFaults as fragments
use Rattle.gq_variables.specs.VariableDefinitionFaults.{IsDefinitionFaultOfOperation, IsVariableDefinitionFault}
use Rattle.gq_variables.specs.VariableDefinitionFaults as definitions
use Rattle.gq_variables.specs.VariableFaults.{IsFaultOfOperation, IsVariableFault}
use Rattle.gq_variables.specs.VariableFaults as variables
use Rattle.gq_spreads.specs.SpreadFaults.{IsSpreadFault, fragment_not_used, unknown_fragment, fragment_cycle}
use Rattle.gq_merging.specs.FieldsMerge.{IsMergingFault, of_shapes, of_names}
use Rattle.gq_rules.specs.RuleFaults.{IsRuleFault, of_operations, of_fields, of_fragments, of_spreads, of_variables, of_merging}
use Rattle.gq_rules.specs.RestsOnFile.{rests_on_file}
use Rattle.gq_rules.specs.Files.{alone, IsLocalFault}
use Rattle.gq_by_file.specs.Helping.Alone.{IsToldAlone}

-- no fault with such a code has the code of another
no_other : {f g : Fault} {A : Type 0} → rests_on_file f.code ≡ true → f ≡ g → rests_on_file g.code ≡ false → A
no_other {f} {g} rests is rests_not = let e : rests_on_file f.code ≡ rests_on_file g.code = ap (λ (z : Fault). rests_on_file z.code) is in absurd (cc)

module _ (x : ExecutableOf) (f : Fault) where
  not_of_spreads : {A : Type 0} → rests_on_file f.code ≡ true → IsSpreadFault x f → A
  not_of_spreads rests (fragment_not_used h) = no_other rests h.is refl
  not_of_spreads rests (unknown_fragment h) = no_other rests h.is refl
  not_of_spreads rests (fragment_cycle h) = no_other rests h.is refl

  not_of_merging : {A : Type 0} → rests_on_file f.code ≡ true → IsMergingFault x f → A
  not_of_merging rests (of_shapes h) = no_other rests h.is refl
  not_of_merging rests (of_names h) = no_other rests h.is refl

  -- of fragments, those of type conditions
  fragment_told : rests_on_file f.code ≡ true → IsFragmentFault x f → IsConditionFault x f
  fragment_told rests (fragments.repeated_fragment_name h) = no_other rests h.is refl
  fragment_told rests (fragments.unknown_condition h) = conditions.unknown_condition h
  fragment_told rests (fragments.condition_not_composite h) = conditions.condition_not_composite h
  fragment_told rests (fragments.spread_not_possible h) = no_other rests h.is refl

  told_fragment : IsConditionFault x f → IsFragmentFault x f
  told_fragment (conditions.unknown_condition h) = fragments.unknown_condition h
  told_fragment (conditions.condition_not_composite h) = fragments.condition_not_composite h

  -- of variables, those of their definitions
  in_operation : (o : OperationOf) → rests_on_file f.code ≡ true → IsFaultOfOperation x o f → IsDefinitionFaultOfOperation x o f
  in_operation o rests (variables.not_unique h) = definitions.not_unique h
  in_operation o rests (variables.not_of_input_type h) = definitions.not_of_input_type h
  in_operation o rests (variables.not_defined h) = no_other rests h.is refl
  in_operation o rests (variables.not_used h) = no_other rests h.is refl
  in_operation o rests (variables.not_allowed h) = no_other rests h.is refl

  of_operation : (o : OperationOf) → IsDefinitionFaultOfOperation x o f → IsFaultOfOperation x o f
  of_operation o (definitions.not_unique h) = variables.not_unique h
  of_operation o (definitions.not_of_input_type h) = variables.not_of_input_type h

  variable_told : rests_on_file f.code ≡ true → IsVariableFault x f → IsVariableDefinitionFault x f
  variable_told rests w = record { operation = w.operation; stands = w.stands; fault = in_operation w.operation rests w.fault }

  told_variable : IsVariableDefinitionFault x f → IsVariableFault x f
  told_variable w = record { operation = w.operation; stands = w.stands; fault = of_operation w.operation w.fault }

  rule_told : rests_on_file f.code ≡ true → IsRuleFault x f → IsToldAlone x f
  rule_told rests (of_operations h) = inl (inl (inl h))
  rule_told rests (of_fragments h) = inl (inl (inr (fragment_told rests h)))
  rule_told rests (of_fields h) = inl (inr h)
  rule_told rests (of_variables h) = inr (variable_told rests h)
  rule_told rests (of_spreads h) = not_of_spreads rests h
  rule_told rests (of_merging h) = not_of_merging rests h

  told_rule : IsToldAlone x f → IsRuleFault x f
  told_rule h = ⊎_elim (⊎_elim (⊎_elim of_operations (λ c. of_fragments (told_fragment c))) of_fields) (λ v. of_variables (told_variable v)) h

-- those of the faults that are told that rest on the file
own_are : (x : ExecutableOf) (all own : List Fault) → AddsExactly (IsToldAlone x) [] all → own ≡ filter (λ (z : Fault). rests_on_file z.code) all →
    (f : Fault) → Contains own f ↔ IsLocalFault x f
own_are x all own adds is f = (
  λ c. let t = from_filter (λ (z : Fault). rests_on_file z.code) all f (subst (λ fs. Contains fs f) is c) in (t.1, told_rule x f ((adds.exactly f).0 (subst (λ fs. Contains fs f) adds.is t.0))),
  λ h. subst (λ fs. Contains fs f) (sym is) (to_filter (λ (z : Fault). rests_on_file z.code) all f (subst (λ fs. Contains fs f) (sym adds.is) ((adds.exactly f).1 (rule_told x f h.0 h.1))) h.0),
)

-- the definitions of one document
alone_is : (es : List EntryOf) (r : ParsedOf) (os : List OperationOf) (gs : List FragmentOf) → os ≡ operations_of (r ∷ []) → gs ≡ fragments_of (r ∷ []) →
    record { entries = es; operations = os; fragments = gs } ≡ alone es 0 r
alone_is es r os gs o g =
    ap (λ (xs : List OperationOf). record { entries = es; operations = xs; fragments = gs }) (o ∙ append-nil (in_document operation_in 0 r))
    ∙ ap (λ (xs : List FragmentOf). record { entries = es; operations = in_document operation_in 0 r; fragments = xs }) (g ∙ append-nil (in_document fragment_in 0 r))

pub of_one : (es : List EntryOf) (r : ParsedOf) (os : List OperationOf) (gs : List FragmentOf) (all own : List Fault) → os ≡ operations_of (r ∷ []) → gs ≡ fragments_of (r ∷ []) →
    AddsExactly (IsToldAlone (record { entries = es; operations = os; fragments = gs })) [] all → own ≡ filter (λ (z : Fault). rests_on_file z.code) all →
    (f : Fault) → Contains own f ↔ IsLocalFault (alone es 0 r) f
of_one es r os gs all own o g adds is f =
    subst (λ (x : ExecutableOf). Contains own f ↔ IsLocalFault x f) (alone_is es r os gs o g) (own_are (record { entries = es; operations = os; fragments = gs }) all own adds is f)
