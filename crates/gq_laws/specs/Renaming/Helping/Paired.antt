-- The executable definitions before and after a change of names, one by one.
use Rattle.std.specs.Prelude.{◌≡◌, ◌↔◌, ℕ, suc, List, [], ◌∷◌, Contains, map}
use Rattle.gq_text.specs.declared.place.Span.{Span}
use Rattle.gq_tree.specs.Plain.{NameOf, VariableOf, no_place, place_def}
use Rattle.gq_types.specs.Entries.{EntryOf}
use Rattle.gq_document.specs.Definitions.{OperationOf, FragmentOf}
use Rattle.gq_document.specs.Reaches.{Reaches}
use Rattle.gq_index.specs.Occurrences.{DefinitionOf, spreads_in}
use Rattle.gq_index.specs.VariableGroups.{VariableGroup, IsOperationAt, IsFragmentAt, UsesVariable, fragments_among}
use Rattle.gq_renamed.specs.Renamings.{Renaming}
use Rattle.gq_renamed.specs.Renamed.{rename_def}
use Rattle.gq_cut.specs.Cut.{variable_in}
use Rattle.gq_table.specs.Rows.{RowOf}
use Rattle.gq_meaning.specs.Values.{Text, Values}
use Rattle.gq_meaning.specs.Results.{Path}
use Rattle.gq_meaning.specs.Shown.{Data}
use Rattle.gq_meaning.specs.Selected.{set_of}
use Rattle.gq_meaning.specs.Response.{Responds}
use Rattle.gq_collect.specs.Fragments.{definition_of}
use Rattle.gq_collect.specs.Given.{given_in}
use Rattle.gq_laws.specs.Renaming.Helping.Alike.{ValuesAlike}

-- places forgotten, each is the other with the names changed that its number says
pub data ArePaired (rule : ℕ → Renaming) (new : Text) : ℕ → List DefinitionOf → List DefinitionOf → Type 0 where
  none : {n : ℕ} → ArePaired rule new n [] []
  more : {n : ℕ} {d d_after : DefinitionOf} {ds ds_after : List DefinitionOf} → place_def no_place d_after.definition ≡ rename_def (rule n) new (place_def no_place d.definition) →
      ArePaired rule new (suc n) ds ds_after → ArePaired rule new n (d ∷ ds) (d_after ∷ ds_after)

-- an operation defines each variable that it or a fragment that it reaches uses (section 5.8.3)
pub record DefinesVariable (o : OperationOf) (text : Text) : Type 0 where
  pub variable : VariableOf Span
  pub defined : Contains o.variables variable
  pub named : variable.name.text ≡ text

abbrev pub VariablesAreDefined : List DefinitionOf → Type 0
VariablesAreDefined ds = (n : ℕ) (o : OperationOf) → IsOperationAt ds n o → (text : Text) →
    (UsesVariable ds text n → DefinesVariable o text)
    × ((k : ℕ) (f : FragmentOf) → IsFragmentAt ds k f → Reaches (fragments_among ds) o.set f → UsesVariable ds text k → DefinesVariable o text)

-- each spread names a fragment (section 5.5.2.1)
pub record IsFragmentCalled (ds : List DefinitionOf) (text : Text) : Type 0 where
  pub fragment : FragmentOf
  pub stands : Contains (fragments_among ds) fragment
  pub named : fragment.name.text ≡ text

abbrev pub SpreadsAreDefined : List DefinitionOf → Type 0
SpreadsAreDefined ds = (d : DefinitionOf) → Contains ds d → (name : NameOf Span) → Contains (spreads_in d.definition) name → IsFragmentCalled ds name.text

-- The operations of one number, one before and one after the rename of a variable, have the same data and errors from an object of
-- a type, where the values of their variables are alike.
abbrev pub VariableRenamesAnswerAlike : Type 0
VariableRenamesAnswerAlike =
    (ds ds_after : List DefinitionOf) (old new : Text) (definition : ℕ) (group : List ℕ) → ArePaired (variable_in group old) new 0 ds ds_after →
    ((n : ℕ) → Contains group n ↔ VariableGroup ds old definition n) → VariablesAreDefined ds →
    ((n : ℕ) (o : OperationOf) → VariableGroup ds old definition n → IsOperationAt ds n o → DefinesVariable o new → ⊥) →
    (n : ℕ) (o o_after : OperationOf) → IsOperationAt ds n o → IsOperationAt ds_after n o_after →
    (es : List EntryOf) (rows : List RowOf) (before after : Values) → ValuesAlike (variable_in group old n) new before after →
    (type_name : Text) (d : Data) (errors : List Path) →
    Responds (given_in es rows before) (map definition_of (fragments_among ds)) type_name (set_of o.set) d errors ↔ Responds (given_in es rows after) (map definition_of (fragments_among ds_after)) type_name (set_of o_after.set) d errors
