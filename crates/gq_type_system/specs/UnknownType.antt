-- A type that is named must be defined (section 3.4.1; for extensions and roots sections 3.3.1, 3.6 to 3.10).
use Rattle.std.specs.Prelude.{◌≡◌, List, None, Contains}
use Rattle.gq_fault.specs.declared.code.Code.TheVariants.{UnknownType}
use Rattle.gq_fault.specs.declared.fault.Fault.{Fault}
use Rattle.gq_types.specs.Entries.{EntryOf, Numbered}
use Rattle.gq_types.specs.Joined.{kind_named, judged}
use Rattle.gq_fault.specs.FaultPlaces.{fault_at}
use Rattle.gq_type_system.specs.Uses.{UseOf, used_types}

-- a name of a type that nothing defines
pub record IsUnknownType (es : List EntryOf) (fault : Fault) : Type 0 where
  pub entry : Numbered
  pub is_judged : Contains (judged es) entry
  pub one : UseOf
  pub is_used : Contains (used_types entry.entry.definition) one
  pub is_unknown : kind_named es one.name.text ≡ None
  pub is : fault ≡ fault_at entry.entry.file UnknownType one.name
