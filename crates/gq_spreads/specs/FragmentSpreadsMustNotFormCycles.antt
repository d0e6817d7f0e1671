-- Fragment spreads must not form cycles (section 5.5.2.2): no spread in a fragment leads back to that fragment.
use Rattle.std.specs.Prelude.{◌≡◌, Contains}
use Rattle.gq_text.specs.declared.place.Span.{Span}
use Rattle.gq_tree.specs.Names.{spread_names}
use Rattle.gq_tree.specs.Plain.{NameOf}
use Rattle.gq_fault.specs.declared.code.Code.TheVariants.{FragmentCycle}
use Rattle.gq_fault.specs.declared.fault.Fault.{Fault}
use Rattle.gq_document.specs.Definitions.{FragmentOf}
use Rattle.gq_document.specs.Executable.{ExecutableOf}
use Rattle.gq_document.specs.Reaches.{Reaches}
use Rattle.gq_fault.specs.FaultPlaces.{fault_at}

-- The name of a spread in a fragment, where a fragment of that name reaches the one in which the spread stands. Where
-- the fragment spreads itself, the two are one.
pub record IsFragmentCycle (x : ExecutableOf) (fault : Fault) : Type 0 where
  pub fragment : FragmentOf
  pub stands : Contains x.fragments fragment
  pub name : NameOf Span
  pub is_spread : Contains (spread_names fragment.set) name
  pub target : FragmentOf
  pub target_stands : Contains x.fragments target
  pub is_named : name.text ≡ target.name.text
  pub leads_back : Reaches x.fragments target.set fragment
  pub is : fault ≡ fault_at fragment.file FragmentCycle name
