-- The uses of variables in a definition, as an index has them and as the rules on variables have them (section 5.8).
use Rattle.std.specs.Prelude.{◌≡◌, ◌↔◌, List, [], ◌∷◌, Contains}
use Rattle.gq_text.specs.declared.place.Span.{Span}
use Rattle.gq_tree.specs.Plain.{NameOf}
use Rattle.gq_project.specs.declared.document.Doc.{Doc}
use Rattle.gq_types.specs.Entries.{EntryOf}
use Rattle.gq_document.specs.Definitions.{OperationOf, FragmentOf, operation_in, fragment_in}
use Rattle.gq_index.specs.VariableNames.{used_variables}
use Rattle.gq_index.specs.Occurrences.{DefinitionOf, AreExecutables}
use Rattle.gq_variables.specs.Uses.{UseOf, IsUsedInOperation, IsUsedInFragment}

-- a use of the name by the rules, over any type system
pub record UsedInOperation (es : List EntryOf) (o : OperationOf) (name : NameOf Span) : Type 0 where
  pub use_of : UseOf
  pub is : IsUsedInOperation es o use_of
  pub named : use_of.name ≡ name

pub record UsedInFragment (es : List EntryOf) (f : FragmentOf) (name : NameOf Span) : Type 0 where
  pub use_of : UseOf
  pub is : IsUsedInFragment es f use_of
  pub named : use_of.name ≡ name

-- of each executable definition of documents
pub record HasUsesOfTheRules (es : List EntryOf) (d : DefinitionOf) (name : NameOf Span) : Type 0 where
  pub of_operation : (o : OperationOf) → operation_in d.file d.definition ≡ o ∷ [] → Contains (used_variables d.definition) name ↔ UsedInOperation es o name
  pub of_fragment : (f : FragmentOf) → fragment_in d.file d.definition ≡ f ∷ [] → Contains (used_variables d.definition) name ↔ UsedInFragment es f name

abbrev pub UsesAreThoseOfTheRules : Type 0
UsesAreThoseOfTheRules = (documents : List Doc) (ds : List DefinitionOf) → AreExecutables documents ds → (d : DefinitionOf) → Contains ds d → (es : List EntryOf) (name : NameOf Span) → HasUsesOfTheRules es d name
