-- Faults of arguments: their names, uniqueness and presence, and their values (sections 5.4 and 5.6).
use Rattle.std.specs.Prelude.{◌≡◌, ℕ, true, List, Option, Some, None, Contains}
use Rattle.gq_text.specs.declared.place.Span.{Span}
use Rattle.gq_tree.specs.Forest.{row}
use Rattle.gq_tree.specs.Plain.{NameOf, Val, InputOf}
use Rattle.gq_names.specs.Repeats.{IsRepeated}
use Rattle.gq_fault.specs.declared.code.Code.TheVariants.{UnknownArgument, ArgumentNotUnique, ArgumentMissing}
use Rattle.gq_fault.specs.declared.fault.Fault.{Fault}
use Rattle.gq_types.specs.Entries.{Text, EntryOf}
use Rattle.gq_types.specs.Names.{argument_named}
use Rattle.gq_types.specs.Required.{is_required}
use Rattle.gq_values.specs.Literals.{Expected, at_any, at_input}
use Rattle.gq_fault.specs.FaultPlaces.{fault_at}
use Rattle.gq_values.specs.LiteralFaults.{entry_names, HasNone, IsLiteralFault}

-- the names of arguments, in order
abbrev pub argument_names : List (Val Span) → List (NameOf Span)
argument_names arguments = entry_names (row arguments)

-- What the value of the argument of that name is read at, where the definitions are those of its field or directive; none
-- are given where that is not known.
abbrev pub argument_at : Option (List (InputOf Span)) → Text → Expected
argument_at (Some definitions) text = at_input (argument_named definitions text)
argument_at None text = at_any

-- what is wrong with the arguments of a field or of a directive of that name
pub data IsArgumentFault (es : List EntryOf) (file : ℕ) (definitions : Option (List (InputOf Span))) (name : NameOf Span) (arguments : List (Val Span)) (fault : Fault) : Type 0 where
  -- section 5.4.1, at the argument's name
  unknown_argument : {known : List (InputOf Span)} {argument : NameOf Span} →
      definitions ≡ Some known → Contains (argument_names arguments) argument → argument_named known argument.text ≡ None →
      fault ≡ fault_at file UnknownArgument argument → IsArgumentFault es file definitions name arguments fault
  -- section 5.4.2, at the later name
  argument_not_unique : {argument : NameOf Span} →
      IsRepeated (λ n. n.text) (argument_names arguments) argument →
      fault ≡ fault_at file ArgumentNotUnique argument → IsArgumentFault es file definitions name arguments fault
  -- section 5.4.2.1, at the name of the field or directive
  argument_missing : {known : List (InputOf Span)} {text : Text} {i : InputOf Span} →
      definitions ≡ Some known → argument_named known text ≡ Some i → is_required i ≡ true → HasNone (argument_names arguments) text →
      fault ≡ fault_at file ArgumentMissing name → IsArgumentFault es file definitions name arguments fault
  -- section 5.6, in the value of an argument
  fault_in_value : {argument : Val Span} {key : NameOf Span} →
      Contains arguments argument → argument.label.key ≡ Some key → IsLiteralFault es file (argument_at definitions key.text) argument fault →
      IsArgumentFault es file definitions name arguments fault
