-- Which faults rest on names alone: those of four rules, and what rests on several files otherwise rests on spreads.
use Rattle.std.proofs.Common.{◌≡◌, ◌⊎◌, ⊎_elim, inl, inr, ℕ, Bool, true, false, List, Option, refl, ap}
use Rattle.gq_text.specs.declared.place.Span.{Span}
use Rattle.gq_tree.specs.declared.type_system.DirectiveLocation.{DirectiveLocation}
use Rattle.gq_tree.specs.Plain.{NameOf, Val, DirectiveOf, InputOf}
use Rattle.gq_fault.specs.declared.code.Code.{Code}
use Rattle.gq_fault.specs.declared.code.Code.TheVariants.{Syntax, OverLimit, SubscriptionOperation, NoRootType, DefinedTwice, BadExtension, ReservedName, UnknownType, WrongKindOfType, EmptyOrRepeated, BadImplementation, EndlessInput, NoQueryRoot, BadDirectiveOrDefault, MixedFile, OperationNameNotUnique, AnonymousOperationNotAlone, UnknownField, FieldsDoNotMerge, WrongSelections, UnknownArgument, ArgumentNotUnique, ArgumentMissing, FragmentNameNotUnique, UnknownTypeCondition, ConditionNotComposite, FragmentNotUsed, UnknownFragment, FragmentCycle, SpreadNotPossible, WrongValue, UnknownInputField, InputFieldNotUnique, InputFieldMissing, UnknownDirective, DirectiveInWrongPlace, DirectiveRepeated, VariableNotUnique, VariableNotOfInputType, VariableNotDefined, VariableNotUsed, VariableNotAllowedHere}
use Rattle.gq_fault.specs.declared.fault.Fault.{Fault}
use Rattle.gq_types.specs.Entries.{Text, EntryOf}
use Rattle.gq_document.specs.Definitions.{OperationOf}
use Rattle.gq_document.specs.Executable.{ExecutableOf}
use Rattle.gq_values.specs.Literals.{Expected}
use Rattle.gq_values.specs.LiteralFaults.{IsFaultOf, wrong_value, unknown_field, field_not_unique, field_missing}
use Rattle.gq_values.specs.ArgumentFaults.{IsArgumentFault, unknown_argument, argument_not_unique, argument_missing, fault_in_value}
use Rattle.gq_values.specs.DirectiveFaults.{IsDirectiveFault, unknown_directive, directive_in_wrong_place, directive_repeated, fault_in_arguments}
use Rattle.gq_fields.specs.FieldFaults.{IsFieldFault}
use Rattle.gq_fields.specs.FieldFaults as fields
use Rattle.gq_fragments.specs.OperationFaults.{IsOperationFault}
use Rattle.gq_fragments.specs.OperationFaults as operations
use Rattle.gq_fragments.specs.FragmentFaults.{IsFragmentFault}
use Rattle.gq_fragments.specs.FragmentFaults as fragments
use Rattle.gq_spreads.specs.SpreadFaults.{IsSpreadFault}
use Rattle.gq_spreads.specs.SpreadFaults as spreads
use Rattle.gq_variables.specs.VariableFaults.{IsFaultOfOperation}
use Rattle.gq_variables.specs.VariableFaults as variables
use Rattle.gq_merging.specs.FieldsMerge.{IsMergingFault}
use Rattle.gq_merging.specs.FieldsMerge as merging
use Rattle.gq_rules.specs.RuleFaults.{IsRuleFault, of_operations, of_fields, of_fragments, of_spreads, of_variables, of_merging}
use Rattle.gq_rules.specs.RestsOnFile.{rests_on_file}
use Rattle.gq_rules.specs.Files.{IsFaultAcross}
use Rattle.gq_by_file.specs.Closed.RestsOnNames.{rests_on_names, IsFaultByNames, IsFaultBySpreads}
use Rattle.gq_by_file.specs.Closed.Laws.{FaultsAcrossAreByNamesOrSpreads, FaultsByNamesAreByRules, IsDemandedByNames, repeated_operation_name, not_alone, repeated_fragment_name, not_used}

-- what rests on names rests on no one file
pub names_rest_on_no_file : (c : Code) → rests_on_names c ≡ true → rests_on_file c ≡ false
names_rest_on_no_file Syntax e = absurd (cc)
names_rest_on_no_file OverLimit e = absurd (cc)
names_rest_on_no_file SubscriptionOperation e = absurd (cc)
names_rest_on_no_file NoRootType e = absurd (cc)
names_rest_on_no_file DefinedTwice e = absurd (cc)
names_rest_on_no_file BadExtension e = absurd (cc)
names_rest_on_no_file ReservedName e = absurd (cc)
names_rest_on_no_file UnknownType e = absurd (cc)
names_rest_on_no_file WrongKindOfType e = absurd (cc)
names_rest_on_no_file EmptyOrRepeated e = absurd (cc)
names_rest_on_no_file BadImplementation e = absurd (cc)
names_rest_on_no_file EndlessInput e = absurd (cc)
names_rest_on_no_file NoQueryRoot e = absurd (cc)
names_rest_on_no_file BadDirectiveOrDefault e = absurd (cc)
names_rest_on_no_file MixedFile e = absurd (cc)
names_rest_on_no_file OperationNameNotUnique e = refl
names_rest_on_no_file AnonymousOperationNotAlone e = refl
names_rest_on_no_file UnknownField e = absurd (cc)
names_rest_on_no_file FieldsDoNotMerge e = absurd (cc)
names_rest_on_no_file WrongSelections e = absurd (cc)
names_rest_on_no_file UnknownArgument e = absurd (cc)
names_rest_on_no_file ArgumentNotUnique e = absurd (cc)
names_rest_on_no_file ArgumentMissing e = absurd (cc)
names_rest_on_no_file FragmentNameNotUnique e = refl
names_rest_on_no_file UnknownTypeCondition e = absurd (cc)
names_rest_on_no_file ConditionNotComposite e = absurd (cc)
names_rest_on_no_file FragmentNotUsed e = refl
names_rest_on_no_file UnknownFragment e = absurd (cc)
names_rest_on_no_file FragmentCycle e = absurd (cc)
names_rest_on_no_file SpreadNotPossible e = absurd (cc)
names_rest_on_no_file WrongValue e = absurd (cc)
names_rest_on_no_file UnknownInputField e = absurd (cc)
names_rest_on_no_file InputFieldNotUnique e = absurd (cc)
names_rest_on_no_file InputFieldMissing e = absurd (cc)
names_rest_on_no_file UnknownDirective e = absurd (cc)
names_rest_on_no_file DirectiveInWrongPlace e = absurd (cc)
names_rest_on_no_file DirectiveRepeated e = absurd (cc)
names_rest_on_no_file VariableNotUnique e = absurd (cc)
names_rest_on_no_file VariableNotOfInputType e = absurd (cc)
names_rest_on_no_file VariableNotDefined e = absurd (cc)
names_rest_on_no_file VariableNotUsed e = absurd (cc)
names_rest_on_no_file VariableNotAllowedHere e = absurd (cc)

pub by_names_or_spreads : FaultsAcrossAreByNamesOrSpreads
by_names_or_spreads x f = (λ h. by h (rests_on_names f.code) refl, λ h. ⊎_elim (λ n. (names_rest_on_no_file f.code n.0, n.1)) (λ s. (s.0, s.2)) h)
  where
    by : IsFaultAcross x f → (b : Bool) → rests_on_names f.code ≡ b → IsFaultByNames x f ⊎ IsFaultBySpreads x f
    by h true e = inl (e, h.1)
    by h false e = inr (h.0, e, h.1)

-- the faults of fields rest on their file
module _ {es : List EntryOf} {n : ℕ} {f : Fault} where
  of_part : {reading : Expected} {value : Val Span} → IsFaultOf es n reading value f → rests_on_file f.code ≡ true
  of_part (wrong_value a b e) = ap (λ (z : Fault). rests_on_file z.code) e
  of_part (unknown_field a b c d g e) = ap (λ (z : Fault). rests_on_file z.code) e
  of_part (field_not_unique a b e) = ap (λ (z : Fault). rests_on_file z.code) e
  of_part (field_missing a b c d g h e) = ap (λ (z : Fault). rests_on_file z.code) e

  of_argument : {definitions : Option (List (InputOf Span))} {name : NameOf Span} {arguments : List (Val Span)} → IsArgumentFault es n definitions name arguments f → rests_on_file f.code ≡ true
  of_argument (unknown_argument a b c e) = ap (λ (z : Fault). rests_on_file z.code) e
  of_argument (argument_not_unique a e) = ap (λ (z : Fault). rests_on_file z.code) e
  of_argument (argument_missing a b c d e) = ap (λ (z : Fault). rests_on_file z.code) e
  of_argument (fault_in_value a b h) = of_part h.fault

  of_directive : {location : DirectiveLocation} {before : List Text} {directives : List (DirectiveOf Span)} → IsDirectiveFault es n location before directives f → rests_on_file f.code ≡ true
  of_directive (unknown_directive a b e) = ap (λ (z : Fault). rests_on_file z.code) e
  of_directive (directive_in_wrong_place a b c e) = ap (λ (z : Fault). rests_on_file z.code) e
  of_directive (directive_repeated a b c e) = ap (λ (z : Fault). rests_on_file z.code) e
  of_directive (fault_in_arguments a h) = of_argument h

pub field_rests : (x : ExecutableOf) (f : Fault) → IsFieldFault x f → rests_on_file f.code ≡ true
field_rests x f (fields.unknown_field h) = ap (λ (z : Fault). rests_on_file z.code) h.is
field_rests x f (fields.wrong_selections h) = ap (λ (z : Fault). rests_on_file z.code) h.is
field_rests x f (fields.wrong_argument h) = of_argument h.fault
field_rests x f (fields.wrong_directive h) = of_directive h.fault
field_rests x f (fields.wrong_default h) = of_part h.fault.fault

-- no fault with a code of names has the code of another rule
no_other : {f g : Fault} {A : Type 0} → rests_on_names f.code ≡ true → f ≡ g → rests_on_names g.code ≡ false → A
no_other {f} {g} rests is rests_not = let e : rests_on_names f.code ≡ rests_on_names g.code = ap (λ z. rests_on_names z.code) is in absurd (cc)

module _ (x : ExecutableOf) (f : Fault) where
  module _ (rests : rests_on_names f.code ≡ true) where
    in_operations : IsOperationFault x f → IsDemandedByNames x f
    in_operations (operations.subscription h) = no_other rests h.is refl
    in_operations (operations.no_root_type h) = no_other rests h.is refl
    in_operations (operations.repeated_operation_name h) = repeated_operation_name h
    in_operations (operations.not_alone h) = not_alone h

    in_fragments : IsFragmentFault x f → IsDemandedByNames x f
    in_fragments (fragments.repeated_fragment_name h) = repeated_fragment_name h
    in_fragments (fragments.unknown_condition h) = no_other rests h.is refl
    in_fragments (fragments.condition_not_composite h) = no_other rests h.is refl
    in_fragments (fragments.spread_not_possible h) = no_other rests h.is refl

    in_spreads : IsSpreadFault x f → IsDemandedByNames x f
    in_spreads (spreads.fragment_not_used h) = not_used h
    in_spreads (spreads.unknown_fragment h) = no_other rests h.is refl
    in_spreads (spreads.fragment_cycle h) = no_other rests h.is refl

    in_variables : {o : OperationOf} → IsFaultOfOperation x o f → IsDemandedByNames x f
    in_variables (variables.not_unique h) = no_other rests h.is refl
    in_variables (variables.not_of_input_type h) = no_other rests h.is refl
    in_variables (variables.not_defined h) = no_other rests h.is refl
    in_variables (variables.not_used h) = no_other rests h.is refl
    in_variables (variables.not_allowed h) = no_other rests h.is refl

    in_merging : IsMergingFault x f → IsDemandedByNames x f
    in_merging (merging.of_shapes h) = no_other rests h.is refl
    in_merging (merging.of_names h) = no_other rests h.is refl

    in_rules : IsRuleFault x f → IsDemandedByNames x f
    in_rules (of_operations h) = in_operations h
    in_rules (of_fields h) = let file : rests_on_file f.code ≡ true = field_rests x f h in let none : rests_on_file f.code ≡ false = names_rest_on_no_file f.code rests in absurd (cc)
    in_rules (of_fragments h) = in_fragments h
    in_rules (of_spreads h) = in_spreads h
    in_rules (of_variables h) = in_variables h.fault
    in_rules (of_merging h) = in_merging h

  from_rules : IsDemandedByNames x f → IsFaultByNames x f
  from_rules (repeated_operation_name h) = (ap (λ (z : Fault). rests_on_names z.code) h.is, of_operations (operations.repeated_operation_name h))
  from_rules (not_alone h) = (ap (λ (z : Fault). rests_on_names z.code) h.is, of_operations (operations.not_alone h))
  from_rules (repeated_fragment_name h) = (ap (λ (z : Fault). rests_on_names z.code) h.is, of_fragments (fragments.repeated_fragment_name h))
  from_rules (not_used h) = (ap (λ (z : Fault). rests_on_names z.code) h.is, of_spreads (spreads.fragment_not_used h))

pub by_rules : FaultsByNamesAreByRules
by_rules x f = (λ h. in_rules x f h.0 h.1, λ h. from_rules x f h)
