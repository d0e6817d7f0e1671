-- Each operation that has a response has one list of calls.
use Rattle.std.proofs.Common.{◌≡◌, ◌↔◌, List, [], Option, Some, refl, sym, ap, ◌∙◌, subst}
use Rattle.gq_parse.proofs.OneReading.{OneTree}
use Rattle.gq_document.specs.Definitions.{OperationOf}
use Rattle.gq_document.specs.Executable.{ExecutableOf}
use Rattle.gq_rules.specs.Project.{executable_of}
use Rattle.gq_table.specs.Rows.{RowOf}
use Rattle.gq_meaning.specs.Values.{Text, Values}
use Rattle.gq_meaning.specs.Results.{Call}
use Rattle.gq_meaning.specs.Selected.{set_of}
use Rattle.gq_meaning.specs.Response.{Calls, error_at, call_at}
use Rattle.gq_meaning.proofs.Unique.{one_told}
use Rattle.gq_coerce.specs.Variables.{coerced_variables}
use Rattle.gq_collect.specs.Given.{given_in}
use Rattle.gq_response.specs.Responses.{ResponseOf}
use Rattle.gq_executor.specs.Operations.{operation_of, fragments_in, root_name, IsResponse}
use Rattle.gq_executor.specs.Operations as response
use Rattle.gq_laws.specs.Rewriting.Answerable.{RequestsHaveAResponse}
use Rattle.gq_laws.proofs.Rewriting.OneResponse.{some_same, none_some, same_executable}
use Rattle.gq_law_calls.specs.Calls.{AreCalls, no_operation, bad_variables, executed}
use Rattle.gq_law_calls.specs.Laws.{OneListOfCalls}
use Rattle.gq_law_calls.proofs.Told.{told_too}

module _ (x : ExecutableOf) (rows : List RowOf) (name : Option Text) (raw : Values) where
  -- The calls are told along the errors of a response.
  pub some_calls : {r : ResponseOf} → IsResponse x rows name raw r → (calls : List Call) × AreCalls x rows name raw calls
  some_calls (response.no_operation e) = ([], no_operation e)
  some_calls (response.bad_variables e c) = ([], bad_variables e c)
  some_calls (response.executed {variables = values} e c answered) =
      let g = given_in x.entries rows values in
      let told = told_too g (fragments_in x) (error_at g) call_at answered.errors_are in
      (told.0, executed e c told.1)

  abbrev coerced_at : OperationOf → Option Values
  coerced_at o = coerced_variables x.entries o.variables raw

  abbrev made_by : OperationOf → Values → List Call → Type 0
  made_by o v cs = Calls (given_in x.entries rows v) (fragments_in x) (root_name x o) (set_of o.set) cs

  one_operation : (o p : OperationOf) → operation_of x.operations name ≡ Some o → operation_of x.operations name ≡ Some p → o ≡ p
  one_operation o p e f = some_same o p (sym e ∙ f)

  one_in : (o p : OperationOf) (v w : Values) (cs ds : List Call) → o ≡ p → coerced_at o ≡ Some v → coerced_at p ≡ Some w → made_by o v cs → made_by p w ds → cs ≡ ds
  one_in o p v w cs ds q a b h k =
      let same : v ≡ w = some_same v w (sym a ∙ ap coerced_at q ∙ b) in
      let moved : made_by p w cs = subst (λ z. made_by z w cs) q (subst (λ z. made_by o z cs) same h) in
      one_told (given_in x.entries rows w) (fragments_in x) call_at moved k

  -- an operation has at most one list of calls
  pub one_list : (cs ds : List Call) → AreCalls x rows name raw cs → AreCalls x rows name raw ds → cs ≡ ds
  one_list cs ds (no_operation e) (no_operation f) = refl
  one_list cs ds (no_operation e) (bad_variables g b) = refl
  one_list cs ds (no_operation e) (executed {o = o} f b h) = absurd (none_some o (operation_of x.operations name) e f)
  one_list cs ds (bad_variables e a) (no_operation f) = refl
  one_list cs ds (bad_variables e a) (bad_variables f b) = refl
  one_list cs ds (bad_variables {o = o} e a) (executed {o = p} {variables = w} f b h) = absurd (none_some w (coerced_at p) (ap coerced_at (one_operation p o f e) ∙ a) b)
  one_list cs ds (executed {o = o} e a h) (no_operation f) = absurd (none_some o (operation_of x.operations name) f e)
  one_list cs ds (executed {o = o} {variables = v} e a h) (bad_variables {o = p} f b) = absurd (none_some v (coerced_at o) (ap coerced_at (one_operation o p e f) ∙ b) a)
  one_list cs ds (executed {o = o} {variables = v} e a h) (executed {o = p} {variables = w} f b k) = one_in o p v w cs ds (one_operation o p e f) a b h k

-- Where calls before are calls after, the calls after are those before: these are there, and after there is no other list.
pub both_ways : (x y : ExecutableOf) (rows : List RowOf) (name : Option Text) (raw raw_after : Values) {r : ResponseOf} → IsResponse x rows name raw r →
    ((calls : List Call) → AreCalls x rows name raw calls → AreCalls y rows name raw_after calls) → (calls : List Call) → AreCalls x rows name raw calls ↔ AreCalls y rows name raw_after calls
both_ways x y rows name raw raw_after answered there calls = (
  there calls,
  (λ h. let old = some_calls x rows name raw answered in
      subst (λ cs. AreCalls x rows name raw cs) (one_list y rows name raw_after old.0 calls (there old.0 old.1) h) old.1),
)

pub one_list_of_calls : OneTree → RequestsHaveAResponse → OneListOfCalls
one_list_of_calls one_tree have documents valid readings are rows name raw =
    let x = executable_of readings in
    let made = some_calls x rows name raw (have documents valid readings are rows name raw).1 in (
      made.0,
      made.1,
      (λ others read other h.
          one_list x rows name raw other made.0 (subst (λ z. AreCalls z rows name raw other) (same_executable one_tree documents others readings read are) h) made.1),
    )
