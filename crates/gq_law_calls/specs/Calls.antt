-- The calls of resolvers that an operation of a project makes (sections 6.1 and 6.4.2).
use Rattle.std.specs.Prelude.{◌≡◌, ◌↔◌, List, [], Option, Some, None}
use Rattle.gq_tree.specs.Readings.{ParsedOf}
use Rattle.gq_document.specs.Definitions.{OperationOf}
use Rattle.gq_document.specs.Executable.{ExecutableOf}
use Rattle.gq_rules.specs.Project.{executable_of}
use Rattle.gq_table.specs.Rows.{RowOf}
use Rattle.gq_meaning.specs.Values.{Text, Values}
use Rattle.gq_meaning.specs.Results.{Call}
use Rattle.gq_meaning.specs.Selected.{set_of}
use Rattle.gq_meaning.specs.Response.{Calls}
use Rattle.gq_coerce.specs.Variables.{coerced_variables}
use Rattle.gq_collect.specs.Given.{given_in}
use Rattle.gq_executor.specs.Operations.{operation_of, fragments_in, root_name}

-- The calls of resolvers for an operation, in the order of its response; none where there is a request error (section 6).
pub data AreCalls (x : ExecutableOf) (rows : List RowOf) (name : Option Text) (raw : Values) : List Call → Type 0 where
  no_operation : operation_of x.operations name ≡ None → AreCalls x rows name raw []
  bad_variables : {o : OperationOf} → operation_of x.operations name ≡ Some o → coerced_variables x.entries o.variables raw ≡ None → AreCalls x rows name raw []
  executed : {o : OperationOf} {variables : Values} {calls : List Call} → operation_of x.operations name ≡ Some o → coerced_variables x.entries o.variables raw ≡ Some variables →
      Calls (given_in x.entries rows variables) (fragments_in x) (root_name x o) (set_of o.set) calls → AreCalls x rows name raw calls

-- Over every table and for all values of variables, each operation has in the second exactly the lists of calls that it has in the first.
abbrev pub CallsStay : List ParsedOf → List ParsedOf → Type 0
CallsStay before after = (rows : List RowOf) (name : Option Text) (raw : Values) (calls : List Call) →
    AreCalls (executable_of before) rows name raw calls ↔ AreCalls (executable_of after) rows name raw calls
