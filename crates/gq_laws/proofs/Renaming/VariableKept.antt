-- A variable that is given a new name, and values that are given under it, leave every response as it is.
use Rattle.std.proofs.Common.{◌≡◌, ℕ, ◌+◌, Bool, true, false, List, [], Option, Some, refl, sym, ap, subst, ◌∙◌, map, Contains, arith}
use Rattle.std.specs.Prelude.{◌↔◌, ◌==◌, unwrap_or, if◌then◌else◌}
use Rattle.std.specs.List.{list_any}
use Rattle.std.specs.Str.{bytes_eq}
use Rattle.std.proofs.lemmas.Bool.Decides.{nat_tests}
use Rattle.gq_text.specs.declared.place.Span.{Span}
use Rattle.gq_tree.specs.declared.tree.OperationKind.{OperationKind}
use Rattle.gq_tree.specs.Plain.{NameOf, VariableOf}
use Rattle.gq_types.specs.Entries.{EntryOf}
use Rattle.gq_types.specs.Roots.{root_of}
use Rattle.gq_types.proofs.Gathered.{from_map, from_any, to_any}
use Rattle.gq_document.specs.Definitions.{OperationOf}
use Rattle.gq_index.specs.Occurrences.{DefinitionOf}
use Rattle.gq_index.specs.VariableGroups.{VariableGroup, IsOperationAt, fragments_among}
use Rattle.gq_renamed.specs.Renamings.{variable_called, nothing_renamed}
use Rattle.gq_cut.specs.Cut.{variable_in}
use Rattle.gq_table.specs.Rows.{RowOf}
use Rattle.gq_meaning.specs.Values.{Text, Values}
use Rattle.gq_meaning.specs.Selected.{set_of}
use Rattle.gq_meaning.specs.Response.{Responds}
use Rattle.gq_meaning.proofs.TextLemmas.{same_text, text_itself, text_same}
use Rattle.gq_coerce.specs.Variables.{coerced_variables}
use Rattle.gq_collect.specs.Fragments.{definition_of}
use Rattle.gq_collect.specs.Given.{given_in}
use Rattle.gq_response.specs.Responses.{ResponseOf}
use Rattle.gq_executor.specs.Operations.{operation_of, root_name, IsResponse}
use Rattle.gq_laws.specs.Renaming.GivenValues.{value_under, AreRenamedValues}
use Rattle.gq_laws.proofs.Renaming.OneName.{one_variable}
use Rattle.gq_laws.specs.Renaming.Helping.Alike.{AreFresh, ValuesAlike, VariablesAlike}
use Rattle.gq_laws.specs.Renaming.Helping.Paired.{ArePaired, DefinesVariable, VariablesAreDefined, VariableRenamesAnswerAlike}
use Rattle.gq_laws.proofs.Renaming.PairedLemmas.{operations_among, executing}
use Rattle.gq_laws.proofs.Renaming.OneByOne.{OperationsMatch, OperationsAt, operations_zip}
use Rattle.gq_laws.proofs.Renaming.Answering.{OperationsAlike, AnswersAlike, found_weaker, found_operations, responses_alike, values_found, called_alike}

-- the values that are given, where the variable is renamed, and where nothing is
values_renamed : (old new : Text) (raw raw_after : Values) → AreRenamedValues old new raw raw_after → ValuesAlike (variable_called old) new raw raw_after
values_renamed old new raw raw_after h v fresh = by (bytes_eq v old) refl
  where
    by : (b : Bool) → bytes_eq v old ≡ b → value_under (if b then new else v) raw_after ≡ value_under v raw
    by true e = h.renamed ∙ ap (λ (t : Text). value_under t raw) (sym (same_text v old e))
    by false e = h.others v (λ same. let t : false ≡ true = sym e ∙ text_same v old same in absurd (cc)) (λ same. fresh old (text_itself old) e same)

values_stay : (new : Text) (raw raw_after : Values) → raw ≡ raw_after → ValuesAlike nothing_renamed new raw raw_after
values_stay new raw raw_after same v fresh = ap (λ (values : Values). value_under v values) (sym same)

module _ (old new : Text) (definition : ℕ) (group : List ℕ) (ds : List DefinitionOf) (members : (n : ℕ) → Contains group n ↔ VariableGroup ds old definition n) where
  -- whether a definition is in the group, as the rule tests it
  pub is_member : (n : ℕ) → list_any (λ m. m == n) group ≡ true → VariableGroup ds old definition n
  is_member n e =
      let w = from_any (λ m. m == n) group e in
      let test : (w.0 == n) ≡ true = w.2 in
      let same : w.0 ≡ n = grind (arith, nat_tests) in
      (members n).0 (subst (λ (m : ℕ). Contains group m) same w.1)

  pub no_member : (n : ℕ) → list_any (λ m. m == n) group ≡ false → VariableGroup ds old definition n → ⊥
  no_member n e h =
      let itself : (n == n) ≡ true = grind (arith, nat_tests) in
      let t : false ≡ true = sym e ∙ to_any (λ m. m == n) group n ((members n).1 h) itself in
      absurd (cc)

  pub given_values : (raw raw_after : Values) (n : ℕ) → (VariableGroup ds old definition n → AreRenamedValues old new raw raw_after) → ((VariableGroup ds old definition n → ⊥) → raw ≡ raw_after) → ValuesAlike (variable_in group old n) new raw raw_after
  given_values raw raw_after n inside outside = by (list_any (λ m. m == n) group) refl
    where
      by : (b : Bool) → list_any (λ m. m == n) group ≡ b → ValuesAlike (if b then variable_called old else nothing_renamed) new raw raw_after
      by true e = values_renamed old new raw raw_after (inside (is_member n e))
      by false e = values_stay new raw raw_after (outside (no_member n e))

  pub given_fresh : (o : OperationOf) (n : ℕ) → (VariableGroup ds old definition n → (v : VariableOf Span) → Contains o.variables v → v.name.text ≡ new → ⊥) → AreFresh (variable_in group old n) new (map (λ v. v.name) o.variables)
  given_fresh o n free = by (list_any (λ m. m == n) group) refl
    where
      by : (b : Bool) → list_any (λ m. m == n) group ≡ b → AreFresh (if b then variable_called old else nothing_renamed) new (map (λ v. v.name) o.variables)
      by true e name c text called other same =
          let w = from_map (λ (v : VariableOf Span). v.name) o.variables name c in
          free (is_member n e) w.0 w.1 (ap (λ (x : NameOf Span). x.text) w.2 ∙ same)
      by false e name c text called other same = absurd (cc)

module _ (answers : VariableRenamesAnswerAlike) (variables : VariablesAlike) (old new : Text) (definition : ℕ) (group : List ℕ) (ds ds_after : List DefinitionOf) (paired : ArePaired (variable_in group old) new 0 ds ds_after)
    (members : (n : ℕ) → Contains group n ↔ VariableGroup ds old definition n) (defined : VariablesAreDefined ds)
    (free : (n : ℕ) (o : OperationOf) → VariableGroup ds old definition n → IsOperationAt ds n o → (v : VariableOf Span) → Contains o.variables v → v.name.text ≡ new → ⊥) where
  new_undefined : (n : ℕ) (o : OperationOf) → VariableGroup ds old definition n → IsOperationAt ds n o → DefinesVariable o new → ⊥
  new_undefined n o h stands w = free n o h stands w.variable w.defined w.named

  pub variable_kept : (es : List EntryOf) (rows : List RowOf) (name : Option Text) (raw raw_after : Values) →
      ((n : ℕ) (o : OperationOf) → operation_of (operations_among ds) name ≡ Some o → IsOperationAt ds n o → VariableGroup ds old definition n → AreRenamedValues old new raw raw_after) →
      ((n : ℕ) (o : OperationOf) → operation_of (operations_among ds) name ≡ Some o → IsOperationAt ds n o → (VariableGroup ds old definition n → ⊥) → raw ≡ raw_after) →
      (response : ResponseOf) → IsResponse (executing es ds) rows name raw response ↔ IsResponse (executing es ds_after) rows name raw_after response
  variable_kept es rows name raw raw_after inside outside =
      responses_alike (executing es ds) (executing es ds_after) rows raw raw_after name
      (found_weaker (OperationsAlike (executing es ds) (executing es ds_after) rows raw raw_after) (λ o p e f h. one o p e h)
      (found_operations (OperationsAt (variable_in group old) new 0 ds ds_after) (λ o p h. called_alike (variable_in group old (0 + h.number)) new o p h.same) name (operations_among ds) (operations_among ds_after) (operations_zip (variable_in group old) new paired)))
    where
      one : (o p : OperationOf) → operation_of (operations_among ds) name ≡ Some o → OperationsAt (variable_in group old) new 0 ds ds_after o p → OperationsAlike (executing es ds) (executing es ds_after) rows raw raw_after o p
      one o p e h =
          let n = h.number in
          let same : OperationsMatch (variable_in group old n) new o p = subst (λ (k : ℕ). OperationsMatch (variable_in group old k) new o p) (omega arith) h.same in
          let given = given_values old new definition group ds members raw raw_after n (inside n o e h.stands) (outside n o e h.stands) in
          let fresh = given_fresh old new definition group ds members o n (λ g. free n o g h.stands) in
          found_weaker (AnswersAlike (executing es ds) (executing es ds_after) rows o p)
          (λ before after e f values d errors.
          subst (λ (kind : OperationKind). Responds (given_in es rows before) (map definition_of (fragments_among ds)) (root_name (executing es ds) o) (set_of o.set) d errors ↔ Responds (given_in es rows after) (map definition_of (fragments_among ds_after)) (unwrap_or (root_of es kind) []) (set_of p.set) d errors)
          same.kind
          (answers ds ds_after old new definition group paired members defined new_undefined n o p h.stands h.stands_after es rows before after values (root_name (executing es ds) o) d errors))
          (values_found (variable_in group old n) new (coerced_variables es o.variables raw) (coerced_variables es p.variables raw_after) (variables (variable_in group old n) new raw raw_after (one_variable group old n) given es o.variables p.variables same.variables fresh))
