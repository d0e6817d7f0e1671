-- Names that begin with two underscores are reserved for introspection (section 3.3, "Reserved names"; section 4.3).
use Rattle.std.specs.Prelude.{◌≡◌, List, ◌++◌, Contains, codes}
use Rattle.gq_text.specs.declared.place.Span.{Span}
use Rattle.gq_fault.specs.declared.code.Code.TheVariants.{ReservedName}
use Rattle.gq_fault.specs.declared.fault.Fault.{Fault}
use Rattle.gq_tree.specs.Plain.{NameOf}
use Rattle.gq_types.specs.Entries.{Text, EntryOf, Numbered}
use Rattle.gq_types.specs.Joined.{judged}
use Rattle.gq_fault.specs.FaultPlaces.{fault_at}
use Rattle.gq_type_system.specs.Uses.{defined_names}

-- a name that is defined and begins so
pub record IsReservedName (es : List EntryOf) (fault : Fault) : Type 0 where
  pub entry : Numbered
  pub is_judged : Contains (judged es) entry
  pub name : NameOf Span
  pub is_defined : Contains (defined_names entry.entry.definition) name
  pub rest : Text
  pub is_reserved : name.text ≡ codes "__" ++ rest
  pub is : fault ≡ fault_at entry.entry.file ReservedName name
