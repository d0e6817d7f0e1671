-- Type extensions (section 3.4.3): what is extended must be defined, and must be of the extension's kind.
use Rattle.std.specs.Prelude.{◌≡◌, ◌≢◌, true, List, Option, Some, Contains}
use Rattle.gq_text.specs.declared.place.Span.{Span}
use Rattle.gq_fault.specs.declared.code.Code.TheVariants.{BadExtension}
use Rattle.gq_fault.specs.declared.fault.Fault.{Fault}
use Rattle.gq_tree.specs.Plain.{NameOf, DirectiveOf, BodyOf, type_definition}
use Rattle.gq_types.specs.Entries.{EntryOf, Numbered}
use Rattle.gq_types.specs.Kinds.{kind_of}
use Rattle.gq_types.specs.Joined.{kind_named, judged}
use Rattle.gq_fault.specs.FaultPlaces.{fault_at}

-- an extension of a type, where no type of its kind has that name
pub record IsBadExtension (es : List EntryOf) (fault : Fault) : Type 0 where
  pub entry : Numbered
  pub is_judged : Contains (judged es) entry
  pub description : Option (NameOf Span)
  pub name : NameOf Span
  pub directives : List (DirectiveOf Span)
  pub body : BodyOf Span
  pub place : Span
  pub extends : entry.entry.definition ≡ type_definition true description name directives body place
  pub is_not_of_that_kind : kind_named es name.text ≢ Some (kind_of body)
  pub is : fault ≡ fault_at entry.entry.file BadExtension name
