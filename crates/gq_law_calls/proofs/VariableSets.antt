-- Sets before and after the rename of a variable ask for the same calls.
use Rattle.std.proofs.Common.{◌≡◌, ℕ, List, refl, map, Contains}
use Rattle.std.specs.Prelude.{◌↔◌}
use Rattle.gq_text.specs.declared.place.Span.{Span}
use Rattle.gq_tree.specs.Plain.{Sels, erase_all}
use Rattle.gq_types.specs.Entries.{EntryOf}
use Rattle.gq_types.proofs.Gathered.{nothing_in}
use Rattle.gq_document.specs.Definitions.{OperationOf}
use Rattle.gq_index.specs.Occurrences.{DefinitionOf}
use Rattle.gq_index.specs.VariableGroups.{VariableGroup, IsOperationAt, fragments_among}
use Rattle.gq_renamed.specs.Renamings.{Renaming}
use Rattle.gq_renamed.specs.Renamed.{rename_selections}
use Rattle.gq_cut.specs.Cut.{variable_in}
use Rattle.gq_table.specs.Rows.{RowOf}
use Rattle.gq_meaning.specs.Values.{Text, Values}
use Rattle.gq_meaning.specs.Results.{Call}
use Rattle.gq_meaning.specs.Selected.{set_of}
use Rattle.gq_meaning.specs.Response.{Calls}
use Rattle.gq_collect.specs.Fragments.{definition_of}
use Rattle.gq_collect.specs.Given.{given_in}
use Rattle.gq_laws.specs.Renaming.Helping.Alike.{ValuesAlike, TakesAlike, ArgumentsAlike}
use Rattle.gq_laws.specs.Renaming.Helping.Paired.{ArePaired, DefinesVariable, VariablesAreDefined}
use Rattle.gq_meaning.proofs.AlikeLemmas.{alike_responses}
use Rattle.gq_laws.proofs.Renaming.AnswersAlike.{IsLed, DirectivesFresh, ArgumentsFresh, Led, operation_fresh, are_alike}

-- a rename of a variable, and an operation
module _ (ds ds_after : List DefinitionOf) (old new : Text) (definition : ℕ) (group : List ℕ) (paired : ArePaired (variable_in group old) new 0 ds ds_after)
    (members : (n : ℕ) → Contains group n ↔ VariableGroup ds old definition n) (defined : VariablesAreDefined ds)
    (free : (n : ℕ) (o : OperationOf) → VariableGroup ds old definition n → IsOperationAt ds n o → DefinesVariable o new → ⊥)
    (n : ℕ) (o : OperationOf) (stands : IsOperationAt ds n o) where
  abbrev r : Renaming
  r = variable_in group old n

  -- each fragment of that name is reached from the operation
  abbrev IsReached : Text → Type 0
  IsReached = Led ds ds_after old new definition group paired members defined free n o stands

  module _ (takes : TakesAlike) (arguments : ArgumentsAlike) (es : List EntryOf) (rows : List RowOf) (before after : Values) (values : ValuesAlike r new before after) where
    -- an operation makes the calls of the one in which the variable is renamed
    pub alike_calls : (s_after : Sels Span) → erase_all s_after ≡ rename_selections r new (erase_all o.set) → (type_name : Text) (calls : List Call) →
        Calls (given_in es rows before) (map definition_of (fragments_among ds)) type_name (set_of o.set) calls →
        Calls (given_in es rows after) (map definition_of (fragments_among ds_after)) type_name (set_of s_after) calls
    alike_calls s_after e type_name =
        (alike_responses (IsLed r new IsReached) (DirectivesFresh r new IsReached) (ArgumentsFresh r new IsReached)
        (given_in es rows before) (map definition_of (fragments_among ds)) (given_in es rows after) (map definition_of (fragments_among ds_after))
        (are_alike ds ds_after old new definition group paired members defined free n o stands takes arguments es rows before after values)
        (refl, λ n c. nothing_in n c) type_name (set_of o.set) (set_of s_after)
        (operation_fresh ds ds_after old new definition group paired members defined free n o stands s_after e)).1
