-- Of which kind a type must be where it is named: the type of a field is an output type, that of an argument or an input
-- field an input type (section 3.4.2), a member of a union is an object type (section 3.8), and what is implemented is an
-- interface (sections 3.6 and 3.7).
use Rattle.std.specs.Prelude.{◌≡◌, Bool, true, false, List, Some, Contains}
use Rattle.gq_fault.specs.declared.code.Code.TheVariants.{WrongKindOfType}
use Rattle.gq_fault.specs.declared.fault.Fault.{Fault}
use Rattle.gq_types.specs.declared.entry.TypeKind.{TypeKind}
use Rattle.gq_types.specs.declared.entry.TypeKind.TheVariants as kind
use Rattle.gq_type_system.specs.declared.uses.Wants.{Wants}
use Rattle.gq_type_system.specs.declared.uses.Wants.TheVariants.{OutputType, InputType, ObjectMember, InterfaceType, RootOperationType}
use Rattle.gq_types.specs.Entries.{EntryOf, Numbered}
use Rattle.gq_types.specs.Kinds.{is_input, is_output, same_kind}
use Rattle.gq_types.specs.Joined.{kind_named, judged}
use Rattle.gq_fault.specs.FaultPlaces.{fault_at}
use Rattle.gq_type_system.specs.Uses.{UseOf, used_types}

-- The types of root operations are judged by a rule of their own.
abbrev pub suits : Wants → TypeKind → Bool
suits OutputType k = is_output k
suits InputType k = is_input k
suits ObjectMember k = same_kind kind.Object k
suits InterfaceType k = same_kind kind.Interface k
suits RootOperationType k = true

-- a name of a type of another kind
pub record IsWrongKind (es : List EntryOf) (fault : Fault) : Type 0 where
  pub entry : Numbered
  pub is_judged : Contains (judged es) entry
  pub one : UseOf
  pub is_used : Contains (used_types entry.entry.definition) one
  pub of_kind : TypeKind
  pub is_known : kind_named es one.name.text ≡ Some of_kind
  pub is_wrong : suits one.wants of_kind ≡ false
  pub is : fault ≡ fault_at entry.entry.file WrongKindOfType one.name
