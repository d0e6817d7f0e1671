-- The codes of the rules: their order, and how each is written.
use Rattle.std.specs.Prelude.{ℕ, List, codes}
use Rattle.gq_fault.specs.declared.code.Code.{Code}
use Rattle.gq_fault.specs.declared.code.Code.TheVariants.{Syntax, OverLimit, SubscriptionOperation, NoRootType, DefinedTwice, BadExtension, ReservedName, UnknownType, WrongKindOfType, EmptyOrRepeated, BadImplementation, EndlessInput, NoQueryRoot, BadDirectiveOrDefault, MixedFile, OperationNameNotUnique, AnonymousOperationNotAlone, UnknownField, FieldsDoNotMerge, WrongSelections, UnknownArgument, ArgumentNotUnique, ArgumentMissing, FragmentNameNotUnique, UnknownTypeCondition, ConditionNotComposite, FragmentNotUsed, UnknownFragment, FragmentCycle, SpreadNotPossible, WrongValue, UnknownInputField, InputFieldNotUnique, InputFieldMissing, UnknownDirective, DirectiveInWrongPlace, DirectiveRepeated, VariableNotUnique, VariableNotOfInputType, VariableNotDefined, VariableNotUsed, VariableNotAllowedHere}

-- the place of a code among all codes, from 1: syntax and limits, the project, the type system, the operations
abbrev pub number_of : Code → ℕ
number_of Syntax = 1
number_of OverLimit = 2
number_of SubscriptionOperation = 3
number_of NoRootType = 4
number_of DefinedTwice = 5
number_of BadExtension = 6
number_of ReservedName = 7
number_of UnknownType = 8
number_of WrongKindOfType = 9
number_of EmptyOrRepeated = 10
number_of BadImplementation = 11
number_of EndlessInput = 12
number_of NoQueryRoot = 13
number_of BadDirectiveOrDefault = 14
number_of MixedFile = 15
number_of OperationNameNotUnique = 16
number_of AnonymousOperationNotAlone = 17
number_of UnknownField = 18
number_of FieldsDoNotMerge = 19
number_of WrongSelections = 20
number_of UnknownArgument = 21
number_of ArgumentNotUnique = 22
number_of ArgumentMissing = 23
number_of FragmentNameNotUnique = 24
number_of UnknownTypeCondition = 25
number_of ConditionNotComposite = 26
number_of FragmentNotUsed = 27
number_of UnknownFragment = 28
number_of FragmentCycle = 29
number_of SpreadNotPossible = 30
number_of WrongValue = 31
number_of UnknownInputField = 32
number_of InputFieldNotUnique = 33
number_of InputFieldMissing = 34
number_of UnknownDirective = 35
number_of DirectiveInWrongPlace = 36
number_of DirectiveRepeated = 37
number_of VariableNotUnique = 38
number_of VariableNotOfInputType = 39
number_of VariableNotDefined = 40
number_of VariableNotUsed = 41
number_of VariableNotAllowedHere = 42

-- the code as it is printed
abbrev pub text_of : Code → List ℕ
text_of Syntax = codes "T1"
text_of OverLimit = codes "T2"
text_of SubscriptionOperation = codes "P1"
text_of NoRootType = codes "P2"
text_of DefinedTwice = codes "S1"
text_of BadExtension = codes "S2"
text_of ReservedName = codes "S3"
text_of UnknownType = codes "S4"
text_of WrongKindOfType = codes "S5"
text_of EmptyOrRepeated = codes "S6"
text_of BadImplementation = codes "S7"
text_of EndlessInput = codes "S8"
text_of NoQueryRoot = codes "S9"
text_of BadDirectiveOrDefault = codes "S10"
text_of MixedFile = codes "V1"
text_of OperationNameNotUnique = codes "V2"
text_of AnonymousOperationNotAlone = codes "V3"
text_of UnknownField = codes "V4"
text_of FieldsDoNotMerge = codes "V5"
text_of WrongSelections = codes "V6"
text_of UnknownArgument = codes "V7"
text_of ArgumentNotUnique = codes "V8"
text_of ArgumentMissing = codes "V9"
text_of FragmentNameNotUnique = codes "V10"
text_of UnknownTypeCondition = codes "V11"
text_of ConditionNotComposite = codes "V12"
text_of FragmentNotUsed = codes "V13"
text_of UnknownFragment = codes "V14"
text_of FragmentCycle = codes "V15"
text_of SpreadNotPossible = codes "V16"
text_of WrongValue = codes "V17"
text_of UnknownInputField = codes "V18"
text_of InputFieldNotUnique = codes "V19"
text_of InputFieldMissing = codes "V20"
text_of UnknownDirective = codes "V21"
text_of DirectiveInWrongPlace = codes "V22"
text_of DirectiveRepeated = codes "V23"
text_of VariableNotUnique = codes "V24"
text_of VariableNotOfInputType = codes "V25"
text_of VariableNotDefined = codes "V26"
text_of VariableNotUsed = codes "V27"
text_of VariableNotAllowedHere = codes "V28"
