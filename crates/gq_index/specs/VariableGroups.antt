-- The group of a variable: the definitions in which its name means one variable. Operations share the fragments that they reach,
-- and each of them defines the variables of these (section 5.8.3).
use Rattle.std.specs.Prelude.{◌≡◌, ℕ, List, [], ◌∷◌, Some, Contains, slice_get}
use Rattle.std.specs.List.{flat_map}
use Rattle.gq_text.specs.declared.place.Span.{Span}
use Rattle.gq_tree.specs.Plain.{NameOf}
use Rattle.gq_types.specs.Entries.{Text}
use Rattle.gq_document.specs.Definitions.{OperationOf, FragmentOf, operation_in, fragment_in}
use Rattle.gq_document.specs.Reaches.{Reaches}
use Rattle.gq_index.specs.VariableNames.{used_variables}
use Rattle.gq_index.specs.Occurrences.{DefinitionOf, spreads_in}

-- the fragments among the definitions
abbrev pub fragments_among : List DefinitionOf → List FragmentOf
fragments_among ds = flat_map (λ d. fragment_in d.file d.definition) ds

-- the definition of that number is this operation
pub record IsOperationAt (ds : List DefinitionOf) (n : ℕ) (o : OperationOf) : Type 0 where
  pub definition : DefinitionOf
  pub at : slice_get ds n ≡ Some definition
  pub is : operation_in definition.file definition.definition ≡ o ∷ []

-- the definition of that number is this fragment
pub record IsFragmentAt (ds : List DefinitionOf) (n : ℕ) (f : FragmentOf) : Type 0 where
  pub definition : DefinitionOf
  pub at : slice_get ds n ≡ Some definition
  pub is : fragment_in definition.file definition.definition ≡ f ∷ []

-- the definition of the one number spreads the fragment of the other
pub record SpreadsFragment (ds : List DefinitionOf) (n k : ℕ) : Type 0 where
  pub definition : DefinitionOf
  pub fragment : FragmentOf
  pub name : NameOf Span
  pub at : slice_get ds n ≡ Some definition
  pub is_fragment : IsFragmentAt ds k fragment
  pub stands : Contains (spreads_in definition.definition) name
  pub names : name.text ≡ fragment.name.text

-- the definition of that number uses the variable
pub record UsesVariable (ds : List DefinitionOf) (text : Text) (n : ℕ) : Type 0 where
  pub definition : DefinitionOf
  pub at : slice_get ds n ≡ Some definition
  pub name : NameOf Span
  pub used : Contains (used_variables definition.definition) name
  pub same : text ≡ name.text

-- the operation of the one number reaches the fragment of the other, and this uses the variable
pub record ReachesUser (ds : List DefinitionOf) (text : Text) (o f : ℕ) : Type 0 where
  pub operation : OperationOf
  pub fragment : FragmentOf
  pub is_operation : IsOperationAt ds o operation
  pub is_fragment : IsFragmentAt ds f fragment
  pub reached : Reaches (fragments_among ds) operation.set fragment
  pub uses : UsesVariable ds text f

-- The least set that holds the definition and is closed two ways: with an operation it holds each fragment that this reaches
-- and that uses the variable, and with a fragment that uses the variable each operation that reaches it.
pub data VariableGroup (ds : List DefinitionOf) (text : Text) (definition : ℕ) : ℕ → Type 0 where
  itself : VariableGroup ds text definition definition
  with_operation : {o f : ℕ} → VariableGroup ds text definition o → ReachesUser ds text o f → VariableGroup ds text definition f
  with_fragment : {o f : ℕ} → VariableGroup ds text definition f → ReachesUser ds text o f → VariableGroup ds text definition o
