-- The operation that is meant is one of the project's.
use Rattle.std.proofs.Common.{◌≡◌, Bool, true, false, cond, List, [], ◌∷◌, Option, Some, None, Contains}
use Rattle.std.specs.Prelude.{find}
use Rattle.gq_types.proofs.Gathered.{first, later}
use Rattle.gq_document.specs.Definitions.{OperationOf}
use Rattle.gq_meaning.specs.Values.{Text}
use Rattle.gq_executor.specs.Operations.{is_called, operation_of}

same_operation : (o p : OperationOf) → ◌≡◌ {A = Option OperationOf} (Some o) (Some p) → o ≡ p
same_operation o p e = cc

found_among : (name : Text) (os : List OperationOf) (o : OperationOf) → find (is_called name) os ≡ Some o → Contains os o
found_among name [] o e = absurd (cc)
found_among name (p ∷ os) o e = by (is_called name p) e (found_among name os o)
  where
    by : (b : Bool) → cond b (Some p) (find (is_called name) os) ≡ Some o → (find (is_called name) os ≡ Some o → Contains os o) → Contains (p ∷ os) o
    by true f rest = first p o os (same_operation p o f)
    by false f rest = later p o os (rest f)

-- the operation that is meant is one of them
pub meant_among : (os : List OperationOf) (name : Option Text) (o : OperationOf) → operation_of os name ≡ Some o → Contains os o
meant_among [] None o e = absurd (cc)
meant_among (p ∷ []) None o e = first p o [] (same_operation p o e)
meant_among (p ∷ q ∷ os) None o e = absurd (cc)
meant_among os (Some name) o e = found_among name os o e
