-- Which faults of rules rest on one file: over the same type system, no other file's operations and fragments bring them or
-- take them away. It is the code that tells; the codes come in the order of their numbers (gq_fault, specs/Codes).
use Rattle.std.specs.Prelude.{Bool, true, false}
use Rattle.gq_fault.specs.declared.code.Code.{Code}
use Rattle.gq_fault.specs.declared.code.Code.TheVariants.{Syntax, OverLimit, SubscriptionOperation, NoRootType, DefinedTwice, BadExtension, ReservedName, UnknownType, WrongKindOfType, EmptyOrRepeated, BadImplementation, EndlessInput, NoQueryRoot, BadDirectiveOrDefault, MixedFile, OperationNameNotUnique, AnonymousOperationNotAlone, UnknownField, FieldsDoNotMerge, WrongSelections, UnknownArgument, ArgumentNotUnique, ArgumentMissing, FragmentNameNotUnique, UnknownTypeCondition, ConditionNotComposite, FragmentNotUsed, UnknownFragment, FragmentCycle, SpreadNotPossible, WrongValue, UnknownInputField, InputFieldNotUnique, InputFieldMissing, UnknownDirective, DirectiveInWrongPlace, DirectiveRepeated, VariableNotUnique, VariableNotOfInputType, VariableNotDefined, VariableNotUsed, VariableNotAllowedHere}

abbrev pub rests_on_file : Code → Bool
-- T1 and T2: no rule over operations and fragments tells them
rests_on_file Syntax = false
rests_on_file OverLimit = false
-- P1 and P2
rests_on_file SubscriptionOperation = true
rests_on_file NoRootType = true
-- S1 to S10 and V1: no rule over operations and fragments tells them
rests_on_file DefinedTwice = false
rests_on_file BadExtension = false
rests_on_file ReservedName = false
rests_on_file UnknownType = false
rests_on_file WrongKindOfType = false
rests_on_file EmptyOrRepeated = false
rests_on_file BadImplementation = false
rests_on_file EndlessInput = false
rests_on_file NoQueryRoot = false
rests_on_file BadDirectiveOrDefault = false
rests_on_file MixedFile = false
-- V2 and V3: the other operations of the project
rests_on_file OperationNameNotUnique = false
rests_on_file AnonymousOperationNotAlone = false
-- V4
rests_on_file UnknownField = true
-- V5: the fragments that are spread
rests_on_file FieldsDoNotMerge = false
-- V6 to V9
rests_on_file WrongSelections = true
rests_on_file UnknownArgument = true
rests_on_file ArgumentNotUnique = true
rests_on_file ArgumentMissing = true
-- V10: the other fragments of the project
rests_on_file FragmentNameNotUnique = false
-- V11 and V12
rests_on_file UnknownTypeCondition = true
rests_on_file ConditionNotComposite = true
-- V13 to V16: the spreads and the fragments of the project. Of V16 this is so for spreads of fragments; an inline fragment,
-- which has this code too, would rest on its file.
rests_on_file FragmentNotUsed = false
rests_on_file UnknownFragment = false
rests_on_file FragmentCycle = false
rests_on_file SpreadNotPossible = false
-- V17 to V25
rests_on_file WrongValue = true
rests_on_file UnknownInputField = true
rests_on_file InputFieldNotUnique = true
rests_on_file InputFieldMissing = true
rests_on_file UnknownDirective = true
rests_on_file DirectiveInWrongPlace = true
rests_on_file DirectiveRepeated = true
rests_on_file VariableNotUnique = true
rests_on_file VariableNotOfInputType = true
-- V26 to V28: the fragments that an operation reaches
rests_on_file VariableNotDefined = false
rests_on_file VariableNotUsed = false
rests_on_file VariableNotAllowedHere = false
