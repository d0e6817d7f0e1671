-- No two types have one name, no two directives have one name, and there is at most one schema definition (section 3.3).
use Rattle.std.specs.Prelude.{◌≡◌, ◌+◌, ◌<◌, List, true, false, Option, Some, None, Contains, min}
use Rattle.gq_text.specs.declared.place.Span.{Span}
use Rattle.gq_fault.specs.declared.code.Code.TheVariants.{DefinedTwice}
use Rattle.gq_fault.specs.declared.fault.Fault.{Fault}
use Rattle.gq_tree.specs.Plain.{TypeSystemOf, schema, type_definition, directive_definition}
use Rattle.gq_types.specs.Entries.{Text, EntryOf, Numbered, numbered}
use Rattle.gq_types.specs.Joined.{judged}
use Rattle.gq_fault.specs.FaultPlaces.{fault_over}

pub data Defined : Type 0 where
  a_type : Text → Defined
  a_directive : Text → Defined
  the_schema : Defined

-- what a definition defines; an extension defines nothing
abbrev pub defined_by : TypeSystemOf Span → Option Defined
defined_by (schema true description directives roots place) = None
defined_by (schema false description directives roots place) = Some the_schema
defined_by (type_definition true description name directives body place) = None
defined_by (type_definition false description name directives body place) = Some (a_type name.text)
defined_by (directive_definition description name arguments repeatable locations place) = Some (a_directive name.text)

-- The place of a definition is that of its name. A schema definition has none: its place is that of its first token, the
-- description or the keyword `schema`, whose length is 6.
abbrev pub definition_place : TypeSystemOf Span → Span
definition_place (schema extends None directives roots place) = record { start = place.start; end = min (place.start + 6) place.end }
definition_place (schema extends (Some description) directives roots place) = description.place
definition_place (type_definition extends description name directives body place) = name.place
definition_place (directive_definition description name arguments repeatable locations place) = name.place

-- a definition of what an earlier entry defines
pub record IsDefinedTwice (es : List EntryOf) (fault : Fault) : Type 0 where
  pub entry : Numbered
  pub is_judged : Contains (judged es) entry
  pub what : Defined
  pub defines : defined_by entry.entry.definition ≡ Some what
  pub earlier : Numbered
  pub stands : Contains (numbered es) earlier
  pub is_earlier : earlier.number < entry.number
  pub defines_the_same : defined_by earlier.entry.definition ≡ Some what
  pub is : fault ≡ fault_over entry.entry.file DefinedTwice (definition_place entry.entry.definition)
