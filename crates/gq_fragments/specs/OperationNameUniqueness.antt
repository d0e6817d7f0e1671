-- Operation name uniqueness (section 5.2.1.1): each named operation has a name that no operation before it has.
use Rattle.std.specs.Prelude.{◌≡◌, ℕ, List, [], ◌∷◌, Option, Some, None, flat_map}
use Rattle.gq_text.specs.declared.place.Span.{Span}
use Rattle.gq_tree.specs.Plain.{NameOf}
use Rattle.gq_names.specs.Repeats.{IsRepeated}
use Rattle.gq_fault.specs.declared.code.Code.TheVariants.{OperationNameNotUnique}
use Rattle.gq_fault.specs.declared.fault.Fault.{Fault}
use Rattle.gq_document.specs.Definitions.{OperationOf}
use Rattle.gq_document.specs.Executable.{ExecutableOf}
use Rattle.gq_fault.specs.FaultPlaces.{fault_at}

-- the name of an operation, and the number of its document
pub record OperationName : Type 0 where
  pub file : ℕ
  pub name : NameOf Span

-- the names of operations, in the order of documents and places; an anonymous operation has none
abbrev pub names_in : ℕ → Option (NameOf Span) → List OperationName
names_in file None = []
names_in file (Some name) = record { file = file; name = name } ∷ []

abbrev pub operation_names : List OperationOf → List OperationName
operation_names os = flat_map (λ o. names_in o.file o.name) os

-- a name that an earlier operation has
pub record IsRepeatedOperationName (x : ExecutableOf) (fault : Fault) : Type 0 where
  pub later : OperationName
  pub is_repeated : IsRepeated (λ n. n.name.text) (operation_names x.operations) later
  pub is : fault ≡ fault_at later.file OperationNameNotUnique later.name
