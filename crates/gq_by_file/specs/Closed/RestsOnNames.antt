-- Which faults of rules rest on the names of operations, fragments and spreads in all files, and on nothing else in them. It
-- is the code that tells; the codes come in the order of their numbers (gq_fault, specs/Codes).
use Rattle.std.specs.Prelude.{◌≡◌, Bool, true, false}
use Rattle.gq_fault.specs.declared.code.Code.{Code}
use Rattle.gq_fault.specs.declared.code.Code.TheVariants.{Syntax, OverLimit, SubscriptionOperation, NoRootType, DefinedTwice, BadExtension, ReservedName, UnknownType, WrongKindOfType, EmptyOrRepeated, BadImplementation, EndlessInput, NoQueryRoot, BadDirectiveOrDefault, MixedFile, OperationNameNotUnique, AnonymousOperationNotAlone, UnknownField, FieldsDoNotMerge, WrongSelections, UnknownArgument, ArgumentNotUnique, ArgumentMissing, FragmentNameNotUnique, UnknownTypeCondition, ConditionNotComposite, FragmentNotUsed, UnknownFragment, FragmentCycle, SpreadNotPossible, WrongValue, UnknownInputField, InputFieldNotUnique, InputFieldMissing, UnknownDirective, DirectiveInWrongPlace, DirectiveRepeated, VariableNotUnique, VariableNotOfInputType, VariableNotDefined, VariableNotUsed, VariableNotAllowedHere}
use Rattle.gq_fault.specs.declared.fault.Fault.{Fault}
use Rattle.gq_document.specs.Executable.{ExecutableOf}
use Rattle.gq_rules.specs.RuleFaults.{IsRuleFault}
use Rattle.gq_rules.specs.RestsOnFile.{rests_on_file}

abbrev pub rests_on_names : Code → Bool
rests_on_names Syntax = false
rests_on_names OverLimit = false
rests_on_names SubscriptionOperation = false
rests_on_names NoRootType = false
rests_on_names DefinedTwice = false
rests_on_names BadExtension = false
rests_on_names ReservedName = false
rests_on_names UnknownType = false
rests_on_names WrongKindOfType = false
rests_on_names EmptyOrRepeated = false
rests_on_names BadImplementation = false
rests_on_names EndlessInput = false
rests_on_names NoQueryRoot = false
rests_on_names BadDirectiveOrDefault = false
rests_on_names MixedFile = false
-- V2 and V3
rests_on_names OperationNameNotUnique = true
rests_on_names AnonymousOperationNotAlone = true
rests_on_names UnknownField = false
rests_on_names FieldsDoNotMerge = false
rests_on_names WrongSelections = false
rests_on_names UnknownArgument = false
rests_on_names ArgumentNotUnique = false
rests_on_names ArgumentMissing = false
-- V10
rests_on_names FragmentNameNotUnique = true
rests_on_names UnknownTypeCondition = false
rests_on_names ConditionNotComposite = false
-- V13
rests_on_names FragmentNotUsed = true
rests_on_names UnknownFragment = false
rests_on_names FragmentCycle = false
rests_on_names SpreadNotPossible = false
rests_on_names WrongValue = false
rests_on_names UnknownInputField = false
rests_on_names InputFieldNotUnique = false
rests_on_names InputFieldMissing = false
rests_on_names UnknownDirective = false
rests_on_names DirectiveInWrongPlace = false
rests_on_names DirectiveRepeated = false
rests_on_names VariableNotUnique = false
rests_on_names VariableNotOfInputType = false
rests_on_names VariableNotDefined = false
rests_on_names VariableNotUsed = false
rests_on_names VariableNotAllowedHere = false

abbrev pub IsFaultByNames : ExecutableOf → Fault → Type 0
IsFaultByNames x f = (rests_on_names f.code ≡ true) × IsRuleFault x f

-- what rests on several files otherwise, by what spreads lead to: V5, V14 to V16, V26 to V28
abbrev pub IsFaultBySpreads : ExecutableOf → Fault → Type 0
IsFaultBySpreads x f = (rests_on_file f.code ≡ false) × (rests_on_names f.code ≡ false) × IsRuleFault x f
