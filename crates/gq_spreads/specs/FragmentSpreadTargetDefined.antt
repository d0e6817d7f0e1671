-- Fragment spread target defined (section 5.5.2.1): the name of each spread is that of a fragment.
use Rattle.std.specs.Prelude.{◌≡◌, ℕ, Contains}
use Rattle.gq_text.specs.declared.place.Span.{Span}
use Rattle.gq_tree.specs.Names.{spread_names}
use Rattle.gq_tree.specs.Plain.{NameOf}
use Rattle.gq_fault.specs.declared.code.Code.TheVariants.{UnknownFragment}
use Rattle.gq_fault.specs.declared.fault.Fault.{Fault}
use Rattle.gq_document.specs.Definitions.{OperationOf, FragmentOf}
use Rattle.gq_document.specs.Executable.{ExecutableOf}
use Rattle.gq_fault.specs.FaultPlaces.{fault_at}

-- a spread of that name stands in an operation or a fragment of the document with that number, at any depth
pub data IsSpreadName (x : ExecutableOf) (file : ℕ) (name : NameOf Span) : Type 0 where
  of_operation : {o : OperationOf} → Contains x.operations o → Contains (spread_names o.set) name → file ≡ o.file → IsSpreadName x file name
  of_fragment : {f : FragmentOf} → Contains x.fragments f → Contains (spread_names f.set) name → file ≡ f.file → IsSpreadName x file name

-- the name of a spread that no fragment has
pub record IsUnknownFragment (x : ExecutableOf) (fault : Fault) : Type 0 where
  pub file : ℕ
  pub name : NameOf Span
  pub is_spread : IsSpreadName x file name
  pub is_unknown : (f : FragmentOf) → Contains x.fragments f → name.text ≡ f.name.text → ⊥
  pub is : fault ≡ fault_at file UnknownFragment name
