-- A request to a valid project is at fault, or its operation has a response.
use Rattle.std.proofs.Common.{◌≡◌, List, Option, Some, None, refl}
use Rattle.gq_document.specs.Definitions.{OperationOf}
use Rattle.gq_document.specs.Executable.{ExecutableOf}
use Rattle.gq_rules.specs.Project.{executable_of}
use Rattle.gq_table.specs.Rows.{RowOf}
use Rattle.gq_meaning.specs.Values.{Text, Values}
use Rattle.gq_meaning.specs.Selected.{set_of}
use Rattle.gq_coerce.specs.Variables.{coerced_variables}
use Rattle.gq_response.specs.Responses.{ResponseOf, request_error, answered}
use Rattle.gq_collect.specs.Given.{given_in}
use Rattle.gq_executor.specs.Operations.{operation_of, fragments_in, root_name, AreRankable, IsResponse, no_operation, bad_variables, executed}
use Rattle.gq_laws.specs.Rewriting.Validity.{FragmentsAreRanked}
use Rattle.gq_laws.proofs.Rewriting.Meant.{meant_among}
use Rattle.gq_laws.specs.Rewriting.Answerable.{RequestsHaveAResponse}
use Rattle.gq_laws.proofs.Rewriting.Existing.{responds}

-- the same of one executable
has_response : (x : ExecutableOf) (rows : List RowOf) (name : Option Text) (raw : Values) → AreRankable x name → (response : ResponseOf) × IsResponse x rows name raw response
has_response x rows name raw ranked = by_operation (operation_of x.operations name) refl
  where
    by_values : (o : OperationOf) → operation_of x.operations name ≡ Some o → (values : Option Values) → coerced_variables x.entries o.variables raw ≡ values → (response : ResponseOf) × IsResponse x rows name raw response
    by_values o e None c = (request_error, bad_variables e c)
    by_values o e (Some values) c =
        let r = responds (given_in x.entries rows values) (fragments_in x) (root_name x o) (set_of o.set) (ranked o e) in
        (answered r.0 r.1, executed e c r.2)

    by_operation : (o : Option OperationOf) → operation_of x.operations name ≡ o → (response : ResponseOf) × IsResponse x rows name raw response
    by_operation None e = (request_error, no_operation e)
    by_operation (Some o) e = by_values o e (coerced_variables x.entries o.variables raw) refl

pub requests_have : FragmentsAreRanked → RequestsHaveAResponse
requests_have ranked documents valid readings are rows name raw =
    let x = executable_of readings in
    has_response x rows name raw (λ o meant. ranked documents valid readings are o (meant_among x.operations name o meant))
