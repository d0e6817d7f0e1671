-- What a rename that is asked for is of, and what it would change.
use Rattle.std.specs.Prelude.{◌≡◌, ◌↔◌, ℕ, List, [], ◌∷◌, Contains, Option, Some, map, if◌then◌else◌}
use Rattle.std.specs.List.Sorted.{IsStrictlyIncreasing}
use Rattle.gq_text.specs.declared.place.Span.{Span}
use Rattle.gq_tree.specs.Plain.{Def, VariableOf}
use Rattle.gq_project.specs.declared.document.Doc.{Doc}
use Rattle.gq_project.specs.Documents.{has_key}
use Rattle.gq_parse.specs.Parsed.{AreParsed}
use Rattle.gq_tree.specs.Readings.{ParsedOf, definitions_read}
use Rattle.gq_document.specs.Definitions.{OperationOf, FragmentOf}
use Rattle.gq_index.specs.Occurrences.{DefinitionOf}
use Rattle.gq_index.specs.VariableGroups.{VariableGroup, IsOperationAt, fragments_among}
use Rattle.gq_renamed.specs.Names.{IsNameText, IsFragmentNameText}
use Rattle.gq_renamed.specs.Renamings.{Renaming, fragment_called}
use Rattle.gq_renamed.specs.Projects.{number_behind}
use Rattle.gq_cut.specs.Cut.{variable_in}
use Rattle.gq_mentions.specs.declared.target.Target.{Target}
use Rattle.gq_mentions.specs.declared.target.TargetKind.{TargetKind}
use Rattle.gq_mentions.specs.declared.target.TargetKind.TheVariants as kind
use Rattle.gq_mentions.specs.Mentions.{MentionOf}
use Rattle.gq_mentions.specs.Renameables.{renameables}
use Rattle.gq_mentions.specs.Targets.{target}

-- a rename that is asked for: the key of a document, an offset in its text, in bytes, and the new name
pub record RenameAsk : Type 0 where
  pub key : List ℕ
  pub offset : ℕ
  pub new : List ℕ

-- the trees of documents that are read so; a text without a tree has no definition
abbrev pub trees_of : List ParsedOf → List (List (Def Span))
trees_of readings = map definitions_read readings

-- What can be renamed in the document of that key. The executable definitions are numbered through all documents, the
-- first by the given number.
abbrev pub renameables_of : List ℕ → ℕ → List Doc → List (List (Def Span)) → List MentionOf
renameables_of key number [] trees = []
renameables_of key number (document ∷ documents) [] = []
renameables_of key number (document ∷ documents) (tree ∷ trees) = if has_key key document then renameables number tree else renameables_of key (number_behind tree number) documents trees

-- the target of an offset in the document of that key
abbrev pub target_of : List Doc → List ParsedOf → List ℕ → ℕ → Option Target
target_of documents readings key offset = target offset (renameables_of key 0 documents (trees_of readings))

-- the same of documents, however they are read
pub record IsTarget (documents : List Doc) (key : List ℕ) (offset : ℕ) (t : Target) : Type 0 where
  pub readings : List ParsedOf
  pub are_readings : AreParsed documents readings
  pub here : target_of documents readings key offset ≡ Some t

-- what the new name has to be (sections 2.1.9 and 2.8)
abbrev pub MayBeCalled : TargetKind → List ℕ → Type 0
MayBeCalled kind.Fragment new = IsFragmentNameText new
MayBeCalled kind.Variable new = IsNameText new

-- a fragment of the name is defined
pub record IsFragmentDefined (ds : List DefinitionOf) (new : List ℕ) : Type 0 where
  pub fragment : FragmentOf
  pub stands : Contains (fragments_among ds) fragment
  pub named : fragment.name.text ≡ new

-- an operation of the variable's group defines a variable of the name
pub record IsVariableDefined (ds : List DefinitionOf) (old : List ℕ) (definition : ℕ) (new : List ℕ) : Type 0 where
  pub number : ℕ
  pub in_group : VariableGroup ds old definition number
  pub operation : OperationOf
  pub is_operation : IsOperationAt ds number operation
  pub variable : VariableOf Span
  pub defined : Contains operation.variables variable
  pub named : variable.name.text ≡ new

-- the new name is taken, for a target of that kind, name and definition
abbrev pub IsTaken : List DefinitionOf → TargetKind → List ℕ → ℕ → List ℕ → Type 0
IsTaken ds kind.Fragment old definition new = IsFragmentDefined ds new
IsTaken ds kind.Variable old definition new = IsVariableDefined ds old definition new

-- the numbers of the definitions in the group of the variable, each once and ascending
pub record IsGroup (ds : List DefinitionOf) (old : List ℕ) (definition : ℕ) (group : List ℕ) : Type 0 where
  pub ascending : IsStrictlyIncreasing group
  pub members : (n : ℕ) → Contains group n ↔ VariableGroup ds old definition n

-- Which names change, by the number of the definition that they stand in: everywhere those of the fragment; in the
-- definitions of the group those of the variable.
pub data Changes (ds : List DefinitionOf) (old : List ℕ) (definition : ℕ) : TargetKind → (ℕ → Renaming) → Type 0 where
  fragments : Changes ds old definition kind.Fragment (λ n. fragment_called old)
  variables : {group : List ℕ} → IsGroup ds old definition group → Changes ds old definition kind.Variable (variable_in group old)
