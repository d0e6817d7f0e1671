-- Where operations go one to one, and the calls of each are calls of the other, so it is for their projects.
use Rattle.std.proofs.Common.{◌≡◌, List, Option, Some, None, sym, subst}
use Rattle.gq_document.specs.Definitions.{OperationOf}
use Rattle.gq_document.specs.Executable.{ExecutableOf}
use Rattle.gq_table.specs.Rows.{RowOf}
use Rattle.gq_meaning.specs.Values.{Text, Values}
use Rattle.gq_meaning.specs.Results.{Call}
use Rattle.gq_meaning.specs.Selected.{set_of}
use Rattle.gq_meaning.specs.Response.{Calls}
use Rattle.gq_coerce.specs.Variables.{coerced_variables}
use Rattle.gq_collect.specs.Given.{given_in}
use Rattle.gq_executor.specs.Operations.{operation_of, fragments_in, root_name}
use Rattle.gq_laws.proofs.Renaming.Answering.{BothFound, neither, both, none_found, some_found}
use Rattle.gq_law_calls.specs.Calls.{AreCalls, no_operation, bad_variables, executed}

found_itself : {A : Type 0} (R : A → A → Type 0) (a : Option A) → ((x : A) → R x x) → BothFound R a a
found_itself R None each = neither
found_itself R (Some x) each = both (each x)

-- equal values are found
pub found_equal : {A : Type 0} (R : A → A → Type 0) (a b : Option A) → b ≡ a → ((x : A) → R x x) → BothFound R a b
found_equal R a b e each = subst (λ z. BothFound R a z) (sym e) (found_itself R a each)

module _ (x y : ExecutableOf) (rows : List RowOf) where
  -- the calls of an operation are calls of another, where their variables have these values
  abbrev pub CallsGo : (o p : OperationOf) → (before after : Values) → Type 0
  CallsGo o p before after = (calls : List Call) → Calls (given_in x.entries rows before) (fragments_in x) (root_name x o) (set_of o.set) calls →
      Calls (given_in y.entries rows after) (fragments_in y) (root_name y p) (set_of p.set) calls

  -- their variables have values in both or in neither, and with these it is so
  abbrev pub OperationsGo : (raw raw_after : Values) → (o p : OperationOf) → Type 0
  OperationsGo raw raw_after o p = BothFound (CallsGo o p) (coerced_variables x.entries o.variables raw) (coerced_variables y.entries p.variables raw_after)

  pub calls_go : (raw raw_after : Values) (name : Option Text) → BothFound (OperationsGo raw raw_after) (operation_of x.operations name) (operation_of y.operations name) →
      (calls : List Call) → AreCalls x rows name raw calls → AreCalls y rows name raw_after calls
  calls_go raw raw_after name found calls (no_operation e) = no_operation (none_found found e)
  calls_go raw raw_after name found calls (bad_variables {o = o} e c) = let w = some_found found o e in bad_variables w.1 (none_found w.2 c)
  calls_go raw raw_after name found calls (executed {o = o} {variables = before} e c made) =
      let w = some_found found o e in
      let v = some_found w.2 before c in
      executed w.1 v.1 (v.2 calls made)
