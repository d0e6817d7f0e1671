-- Fragment name uniqueness (section 5.5.1.1): each fragment has a name that no fragment before it has.
use Rattle.std.specs.Prelude.{◌≡◌}
use Rattle.gq_names.specs.Repeats.{IsRepeated}
use Rattle.gq_fault.specs.declared.code.Code.TheVariants.{FragmentNameNotUnique}
use Rattle.gq_fault.specs.declared.fault.Fault.{Fault}
use Rattle.gq_document.specs.Definitions.{FragmentOf}
use Rattle.gq_document.specs.Executable.{ExecutableOf}
use Rattle.gq_fault.specs.FaultPlaces.{fault_at}

-- a fragment whose name an earlier fragment has, in the order of documents and places
pub record IsRepeatedFragmentName (x : ExecutableOf) (fault : Fault) : Type 0 where
  pub later : FragmentOf
  pub is_repeated : IsRepeated (λ f. f.name.text) x.fragments later
  pub is : fault ≡ fault_at later.file FragmentNameNotUnique later.name
