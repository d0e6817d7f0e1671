-- A variable that is given a new name, and values that are given under it, leave every list of calls as it is.
use Rattle.std.proofs.Common.{◌≡◌, ℕ, ◌+◌, List, [], Option, Some, subst, map, Contains, arith}
use Rattle.std.specs.Prelude.{◌↔◌, unwrap_or}
use Rattle.gq_text.specs.declared.place.Span.{Span}
use Rattle.gq_tree.specs.declared.tree.OperationKind.{OperationKind}
use Rattle.gq_tree.specs.Plain.{VariableOf}
use Rattle.gq_types.specs.Entries.{EntryOf}
use Rattle.gq_types.specs.Roots.{root_of}
use Rattle.gq_document.specs.Definitions.{OperationOf}
use Rattle.gq_index.specs.Occurrences.{DefinitionOf}
use Rattle.gq_index.specs.VariableGroups.{VariableGroup, IsOperationAt, fragments_among}
use Rattle.gq_cut.specs.Cut.{variable_in}
use Rattle.gq_table.specs.Rows.{RowOf}
use Rattle.gq_meaning.specs.Values.{Text, Values}
use Rattle.gq_meaning.specs.Results.{Call}
use Rattle.gq_meaning.specs.Selected.{set_of}
use Rattle.gq_meaning.specs.Response.{Calls}
use Rattle.gq_coerce.specs.Variables.{coerced_variables}
use Rattle.gq_collect.specs.Fragments.{definition_of}
use Rattle.gq_collect.specs.Given.{given_in}
use Rattle.gq_executor.specs.Operations.{operation_of, root_name}
use Rattle.gq_laws.specs.Renaming.GivenValues.{AreRenamedValues}
use Rattle.gq_laws.specs.Renaming.Helping.Alike.{TakesAlike, ArgumentsAlike, VariablesAlike}
use Rattle.gq_laws.specs.Renaming.Helping.Paired.{ArePaired, DefinesVariable, VariablesAreDefined}
use Rattle.gq_laws.proofs.Renaming.Answering.{found_weaker, found_operations, values_found, called_alike}
use Rattle.gq_laws.proofs.Renaming.OneByOne.{OperationsMatch, OperationsAt, operations_zip}
use Rattle.gq_laws.proofs.Renaming.OneName.{one_variable}
use Rattle.gq_laws.proofs.Renaming.PairedLemmas.{operations_among, executing}
use Rattle.gq_laws.proofs.Renaming.VariableKept.{given_values, given_fresh}
use Rattle.gq_law_calls.specs.Calls.{AreCalls}
use Rattle.gq_law_calls.proofs.Going.{CallsGo, OperationsGo, calls_go}
use Rattle.gq_law_calls.proofs.VariableSets.{alike_calls}

module _ (takes : TakesAlike) (arguments : ArgumentsAlike) (variables : VariablesAlike) (old new : Text) (definition : ℕ) (group : List ℕ) (ds ds_after : List DefinitionOf)
    (paired : ArePaired (variable_in group old) new 0 ds ds_after)
    (members : (n : ℕ) → Contains group n ↔ VariableGroup ds old definition n) (defined : VariablesAreDefined ds)
    (free : (n : ℕ) (o : OperationOf) → VariableGroup ds old definition n → IsOperationAt ds n o → (v : VariableOf Span) → Contains o.variables v → v.name.text ≡ new → ⊥) where
  new_undefined : (n : ℕ) (o : OperationOf) → VariableGroup ds old definition n → IsOperationAt ds n o → DefinesVariable o new → ⊥
  new_undefined n o h stands w = free n o h stands w.variable w.defined w.named

  pub variable_calls_go : (es : List EntryOf) (rows : List RowOf) (name : Option Text) (raw raw_after : Values) →
      ((n : ℕ) (o : OperationOf) → operation_of (operations_among ds) name ≡ Some o → IsOperationAt ds n o → VariableGroup ds old definition n → AreRenamedValues old new raw raw_after) →
      ((n : ℕ) (o : OperationOf) → operation_of (operations_among ds) name ≡ Some o → IsOperationAt ds n o → (VariableGroup ds old definition n → ⊥) → raw ≡ raw_after) →
      (calls : List Call) → AreCalls (executing es ds) rows name raw calls → AreCalls (executing es ds_after) rows name raw_after calls
  variable_calls_go es rows name raw raw_after inside outside =
      calls_go (executing es ds) (executing es ds_after) rows raw raw_after name
      (found_weaker (OperationsGo (executing es ds) (executing es ds_after) rows raw raw_after) (λ o p e f h. one o p e h)
      (found_operations (OperationsAt (variable_in group old) new 0 ds ds_after) (λ o p h. called_alike (variable_in group old (0 + h.number)) new o p h.same) name (operations_among ds)
      (operations_among ds_after) (operations_zip (variable_in group old) new paired)))
    where
      one : (o p : OperationOf) → operation_of (operations_among ds) name ≡ Some o → OperationsAt (variable_in group old) new 0 ds ds_after o p →
          OperationsGo (executing es ds) (executing es ds_after) rows raw raw_after o p
      one o p e h =
          let n = h.number in
          let same : OperationsMatch (variable_in group old n) new o p = subst (λ (k : ℕ). OperationsMatch (variable_in group old k) new o p) (omega arith) h.same in
          let given = given_values old new definition group ds members raw raw_after n (inside n o e h.stands) (outside n o e h.stands) in
          let fresh = given_fresh old new definition group ds members o n (λ g. free n o g h.stands) in
          found_weaker (CallsGo (executing es ds) (executing es ds_after) rows o p)
          (λ before after e f values calls made.
          subst (λ (kind : OperationKind). Calls (given_in es rows after) (map definition_of (fragments_among ds_after)) (unwrap_or (root_of es kind) []) (set_of p.set) calls) same.kind
          (alike_calls ds ds_after old new definition group paired members defined new_undefined n o h.stands takes arguments es rows before after values p.set same.set
          (root_name (executing es ds) o) calls made))
          (values_found (variable_in group old n) new (coerced_variables es o.variables raw) (coerced_variables es p.variables raw_after)
          (variables (variable_in group old n) new raw raw_after (one_variable group old n) given es o.variables p.variables same.variables fresh))
