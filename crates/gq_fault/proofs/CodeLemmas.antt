-- A code is told by its number.
use Rattle.std.proofs.Common.{◌≡◌, ℕ, ◌-◌, ◌==◌, true, List, [], ◌∷◌, get_or, refl, sym, ◌∙◌, ap, eqb-true}
use Rattle.gq_fault.specs.declared.code.Code.{Code}
use Rattle.gq_fault.specs.declared.code.Code.TheVariants.{Syntax, OverLimit, SubscriptionOperation, NoRootType, DefinedTwice, BadExtension, ReservedName, UnknownType, WrongKindOfType, EmptyOrRepeated, BadImplementation, EndlessInput, NoQueryRoot, BadDirectiveOrDefault, MixedFile, OperationNameNotUnique, AnonymousOperationNotAlone, UnknownField, FieldsDoNotMerge, WrongSelections, UnknownArgument, ArgumentNotUnique, ArgumentMissing, FragmentNameNotUnique, UnknownTypeCondition, ConditionNotComposite, FragmentNotUsed, UnknownFragment, FragmentCycle, SpreadNotPossible, WrongValue, UnknownInputField, InputFieldNotUnique, InputFieldMissing, UnknownDirective, DirectiveInWrongPlace, DirectiveRepeated, VariableNotUnique, VariableNotOfInputType, VariableNotDefined, VariableNotUsed, VariableNotAllowedHere}
use Rattle.gq_fault.specs.Codes.{number_of}

all_codes : List Code
all_codes = Syntax ∷ OverLimit ∷ SubscriptionOperation ∷ NoRootType ∷ DefinedTwice ∷ BadExtension ∷ ReservedName ∷ UnknownType ∷ WrongKindOfType ∷ EmptyOrRepeated ∷ BadImplementation ∷ EndlessInput ∷ NoQueryRoot ∷ BadDirectiveOrDefault ∷ MixedFile ∷ OperationNameNotUnique ∷ AnonymousOperationNotAlone ∷ UnknownField ∷ FieldsDoNotMerge ∷ WrongSelections ∷ UnknownArgument ∷ ArgumentNotUnique ∷ ArgumentMissing ∷ FragmentNameNotUnique ∷ UnknownTypeCondition ∷ ConditionNotComposite ∷ FragmentNotUsed ∷ UnknownFragment ∷ FragmentCycle ∷ SpreadNotPossible ∷ WrongValue ∷ UnknownInputField ∷ InputFieldNotUnique ∷ InputFieldMissing ∷ UnknownDirective ∷ DirectiveInWrongPlace ∷ DirectiveRepeated ∷ VariableNotUnique ∷ VariableNotOfInputType ∷ VariableNotDefined ∷ VariableNotUsed ∷ VariableNotAllowedHere ∷ []

-- the code of a number
code_of : ℕ → Code
code_of n = get_or all_codes (n - 1) Syntax

code_back : (code : Code) → code_of (number_of code) ≡ code
unfolding code_of all_codes
code_back Syntax = refl
code_back OverLimit = refl
code_back SubscriptionOperation = refl
code_back NoRootType = refl
code_back DefinedTwice = refl
code_back BadExtension = refl
code_back ReservedName = refl
code_back UnknownType = refl
code_back WrongKindOfType = refl
code_back EmptyOrRepeated = refl
code_back BadImplementation = refl
code_back EndlessInput = refl
code_back NoQueryRoot = refl
code_back BadDirectiveOrDefault = refl
code_back MixedFile = refl
code_back OperationNameNotUnique = refl
code_back AnonymousOperationNotAlone = refl
code_back UnknownField = refl
code_back FieldsDoNotMerge = refl
code_back WrongSelections = refl
code_back UnknownArgument = refl
code_back ArgumentNotUnique = refl
code_back ArgumentMissing = refl
code_back FragmentNameNotUnique = refl
code_back UnknownTypeCondition = refl
code_back ConditionNotComposite = refl
code_back FragmentNotUsed = refl
code_back UnknownFragment = refl
code_back FragmentCycle = refl
code_back SpreadNotPossible = refl
code_back WrongValue = refl
code_back UnknownInputField = refl
code_back InputFieldNotUnique = refl
code_back InputFieldMissing = refl
code_back UnknownDirective = refl
code_back DirectiveInWrongPlace = refl
code_back DirectiveRepeated = refl
code_back VariableNotUnique = refl
code_back VariableNotOfInputType = refl
code_back VariableNotDefined = refl
code_back VariableNotUsed = refl
code_back VariableNotAllowedHere = refl

-- equal numbers are equal codes
pub one_code : (a b : Code) → number_of a ≡ number_of b → a ≡ b
one_code a b same = sym (code_back a) ∙ ap code_of same ∙ code_back b

pub same_code : (a b : Code) → (number_of a == number_of b) ≡ true → a ≡ b
same_code a b h = one_code a b (eqb-true (number_of a) (number_of b) h)
