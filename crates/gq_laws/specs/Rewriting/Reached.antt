-- What execution reaches in the operations of a valid project (section 6.3).
use Rattle.std.specs.Prelude.{◌≡◌, ℕ, false, List, Option, Some, Contains}
use Rattle.gq_document.specs.Definitions.{OperationOf}
use Rattle.gq_document.specs.Executable.{ExecutableOf}
use Rattle.gq_rules.specs.Project.{executable_of}
use Rattle.gq_table.specs.Rows.{RowOf}
use Rattle.gq_meaning.specs.Values.{Text, Values}
use Rattle.gq_meaning.specs.Results.{Answers, Path, object}
use Rattle.gq_meaning.specs.Selected.{set_of}
use Rattle.gq_meaning.specs.Response.{Given, Place, fails, root}
use Rattle.gq_meaning.specs.Rewritten.{place_at}
use Rattle.gq_collect.specs.Given.{given_in}
use Rattle.gq_executor.specs.Operations.{fragments_in, root_name}
use Rattle.gq_laws.specs.Rewriting.Promised.{OfValidProjects}

-- What stands at a path of the response to an operation: the result, and the fields that ask for it. Below a place that fails nothing is reached.
abbrev pub reached : ExecutableOf → List RowOf → Values → OperationOf → Path → Option Place
reached x rows values o path = place_at (given_in x.entries rows values) (fragments_in x) (Some (root (root_name x o) (set_of o.set))) path

-- the place does not fail, and the result there is an object of that type
pub record HasObject (g : Given) (q : Place) (type_name : Text) : Type 0 where
  pub fits : fails g q ≡ false
  pub number : ℕ
  pub items : Answers
  pub is : q.result ≡ Some (record { label = object type_name number; below = items })

-- It holds wherever execution goes in an operation of a valid project, over any table and for any values of variables.
abbrev pub AtReachedPlaces : (ExecutableOf → Given → Place → Type 0) → Type 0
AtReachedPlaces Holds =
    OfValidProjects (λ readings. (o : OperationOf) → Contains (executable_of readings).operations o → (rows : List RowOf) (values : Values) (path : Path) (q : Place) →
    reached (executable_of readings) rows values o path ≡ Some q → Holds (executable_of readings) (given_in (executable_of readings).entries rows values) q)
