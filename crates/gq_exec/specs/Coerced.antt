-- The values of an operation's variables in a project (section 6.1.2).
use Rattle.std.specs.Prelude.{◌≡◌, List, [], Option, Some, None, option_and_then}
use Rattle.gq_project.specs.declared.document.Doc.{Doc}
use Rattle.gq_tree.specs.Readings.{ParsedOf}
use Rattle.gq_parse.specs.Parsed.{AreParsed}
use Rattle.gq_document.specs.Definitions.{OperationOf, FragmentOf}
use Rattle.gq_document.specs.Executable.{ExecutableOf}
use Rattle.gq_rules.specs.Project.{executable_of}
use Rattle.gq_meaning.specs.Values.{Text, Values}
use Rattle.gq_coerce.specs.Variables.{coerced_variables}
use Rattle.gq_executor.specs.Operations.{operation_of, AreRankable}
use Rattle.gq_exec.specs.declared.refusal.CoercionRefusal.{CoercionRefusal}
use Rattle.gq_exec.specs.declared.refusal.CoercionRefusal.TheVariants.{RequestError, NoMemory}

-- the values of its variables; none where there is no such operation, or one of raw does not fit
abbrev pub coerced_in : ExecutableOf → Option Text → Values → Option Values
coerced_in x name raw = option_and_then (λ o. coerced_variables x.entries o.variables raw) (operation_of x.operations name)

pub record AreCoercedTo (documents : List Doc) (name : Option Text) (raw : Values) (coerced : Option Values) : Type 0 where
  pub readings : List ParsedOf
  pub are_readings : AreParsed documents readings
  pub is : coerced ≡ coerced_in (executable_of readings) name raw

abbrev pub AreCoerced : List Doc → Option Text → Values → Values → Type 0
AreCoerced documents name raw values = AreCoercedTo documents name raw (Some values)

-- memory may be refused at any time
abbrev pub IsRefused : List Doc → Option Text → Values → CoercionRefusal → Type 0
IsRefused documents name raw RequestError = AreCoercedTo documents name raw None
IsRefused documents name raw NoMemory = Unit {0}

-- The fragments can be ranked by their spreads, with the operation that is meant above them.
abbrev pub ranked_in : List OperationOf → List FragmentOf → Option Text → Type 0
ranked_in operations fragments name = AreRankable (record { entries = []; operations = operations; fragments = fragments }) name
