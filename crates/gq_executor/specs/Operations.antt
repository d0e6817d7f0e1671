-- The response to an operation of a project (sections 6.1 and 7.1).
use Rattle.std.specs.Prelude.{◌≡◌, Bool, false, List, [], ◌∷◌, Option, Some, None, map, find, unwrap_or}
use Rattle.std.specs.Option.{option_map_or}
use Rattle.std.specs.Str.{bytes_eq}
use Rattle.gq_types.specs.Roots.{root_of}
use Rattle.gq_document.specs.Definitions.{OperationOf}
use Rattle.gq_document.specs.Executable.{ExecutableOf}
use Rattle.gq_table.specs.Rows.{RowOf}
use Rattle.gq_meaning.specs.Values.{Text, Values}
use Rattle.gq_meaning.specs.Results.{Path}
use Rattle.gq_meaning.specs.Shown.{Data}
use Rattle.gq_meaning.specs.Selected.{Set, set_of}
use Rattle.gq_meaning.specs.Expand.{Definition}
use Rattle.gq_meaning.specs.Acyclic.{Rankable}
use Rattle.gq_meaning.specs.Response.{Given, Responds}
use Rattle.gq_response.specs.Responses.{ResponseOf, request_error, answered}
use Rattle.gq_coerce.specs.Variables.{coerced_variables}
use Rattle.gq_collect.specs.Given.{given_in}
use Rattle.gq_collect.specs.Fragments.{definition_of}

-- the operation of that name or, without one, the only operation (GetOperation, section 6.1)
abbrev pub is_called : Text → OperationOf → Bool
is_called name o = option_map_or (λ n. bytes_eq name n.text) o.name false

abbrev pub only_operation : List OperationOf → Option OperationOf
only_operation [] = None
only_operation (o ∷ []) = Some o
only_operation (o ∷ p ∷ os) = None

abbrev pub operation_of : List OperationOf → Option Text → Option OperationOf
operation_of os None = only_operation os
operation_of os (Some name) = find (is_called name) os

abbrev pub fragments_in : ExecutableOf → List Definition
fragments_in x = map definition_of x.fragments

-- the type of the root object
abbrev pub root_name : ExecutableOf → OperationOf → Text
root_name x o = unwrap_or (root_of x.entries o.kind) []

-- The response to an operation, where raw are the values that are given for its variables (ExecuteRequest, section 6.1).
pub data IsResponse (x : ExecutableOf) (rows : List RowOf) (name : Option Text) (raw : Values) : ResponseOf → Type 0 where
  no_operation : operation_of x.operations name ≡ None → IsResponse x rows name raw request_error
  bad_variables : {o : OperationOf} → operation_of x.operations name ≡ Some o → coerced_variables x.entries o.variables raw ≡ None → IsResponse x rows name raw request_error
  executed : {o : OperationOf} {variables : Values} {d : Data} {errors : List Path} → operation_of x.operations name ≡ Some o → coerced_variables x.entries o.variables raw ≡ Some variables →
      Responds (given_in x.entries rows variables) (fragments_in x) (root_name x o) (set_of o.set) d errors → IsResponse x rows name raw (answered d errors)

-- The fragments of a project can be ranked by their spreads, with the operation's set above them. That is so where no fragment
-- leads back to itself.
abbrev pub AreRankable : ExecutableOf → Option Text → Type 0
AreRankable x name = (o : OperationOf) → operation_of x.operations name ≡ Some o → Rankable (fragments_in x) (set_of o.set)

-- the response of one operation, where its variables have these values
abbrev pub IsAnsweredBy : Given → List Definition → (type_name : Text) → Set → ResponseOf → Type 0
IsAnsweredBy g ds type_name set request_error = ⊥
IsAnsweredBy g ds type_name set (answered d errors) = Responds g ds type_name set d errors

abbrev pub IsAnswered : ExecutableOf → List RowOf → OperationOf → Values → ResponseOf → Type 0
IsAnswered x rows o variables r = IsAnsweredBy (given_in x.entries rows variables) (fragments_in x) (root_name x o) (set_of o.set) r
