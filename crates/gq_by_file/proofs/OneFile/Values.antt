-- The faults of literals, arguments and directives, in the document of another number.
use Rattle.std.proofs.Common.{◌≡◌, ℕ, List, Option, ap}
use Rattle.gq_text.specs.declared.place.Span.{Span}
use Rattle.gq_tree.specs.declared.type_system.DirectiveLocation.{DirectiveLocation}
use Rattle.gq_tree.specs.Plain.{NameOf, Val, DirectiveOf, InputOf}
use Rattle.gq_fault.specs.declared.fault.Fault.{Fault}
use Rattle.gq_types.specs.Entries.{Text, EntryOf}
use Rattle.gq_values.specs.Literals.{Expected}
use Rattle.gq_values.specs.LiteralFaults.{IsFaultOf, wrong_value, unknown_field, field_not_unique, field_missing, IsLiteralFault}
use Rattle.gq_values.specs.ArgumentFaults.{IsArgumentFault, unknown_argument, argument_not_unique, argument_missing, fault_in_value}
use Rattle.gq_values.specs.DirectiveFaults.{IsDirectiveFault, unknown_directive, directive_in_wrong_place, directive_repeated, fault_in_arguments}
use Rattle.gq_rules.specs.Files.{in_file}

-- a fault of the document n, and of m with that number
abbrev pub Moves : (ℕ → Fault → Type 0) → ℕ → Fault → Type 0
Moves F n f = (f.file ≡ n) × ((m : ℕ) → F m (in_file m f))

module _ {es : List EntryOf} {n : ℕ} {f : Fault} where
  part_moves : {reading : Expected} {value : Val Span} → IsFaultOf es n reading value f → Moves (λ m. IsFaultOf es m reading value) n f
  part_moves (wrong_value a b e) = (ap (λ z. z.file) e, λ m. wrong_value a b (ap (in_file m) e))
  part_moves (unknown_field a b c d g e) = (ap (λ z. z.file) e, λ m. unknown_field a b c d g (ap (in_file m) e))
  part_moves (field_not_unique a b e) = (ap (λ z. z.file) e, λ m. field_not_unique a b (ap (in_file m) e))
  part_moves (field_missing a b c d g h e) = (ap (λ z. z.file) e, λ m. field_missing a b c d g h (ap (in_file m) e))

  pub literal_moves : {reading : Expected} {value : Val Span} → IsLiteralFault es n reading value f → Moves (λ m. IsLiteralFault es m reading value) n f
  literal_moves h = let p = part_moves h.fault in (p.0, λ m. record { inner = h.inner; part = h.part; stands = h.stands; fault = p.1 m })

  pub argument_moves : {definitions : Option (List (InputOf Span))} {name : NameOf Span} {arguments : List (Val Span)} → IsArgumentFault es n definitions name arguments f →
      Moves (λ m. IsArgumentFault es m definitions name arguments) n f
  argument_moves (unknown_argument a b c e) = (ap (λ z. z.file) e, λ m. unknown_argument a b c (ap (in_file m) e))
  argument_moves (argument_not_unique a e) = (ap (λ z. z.file) e, λ m. argument_not_unique a (ap (in_file m) e))
  argument_moves (argument_missing a b c d e) = (ap (λ z. z.file) e, λ m. argument_missing a b c d (ap (in_file m) e))
  argument_moves (fault_in_value a b h) = let p = literal_moves h in (p.0, λ m. fault_in_value a b (p.1 m))

  pub directive_moves : {location : DirectiveLocation} {before : List Text} {directives : List (DirectiveOf Span)} → IsDirectiveFault es n location before directives f →
      Moves (λ m. IsDirectiveFault es m location before directives) n f
  directive_moves (unknown_directive a b e) = (ap (λ z. z.file) e, λ m. unknown_directive a b (ap (in_file m) e))
  directive_moves (directive_in_wrong_place a b c e) = (ap (λ z. z.file) e, λ m. directive_in_wrong_place a b c (ap (in_file m) e))
  directive_moves (directive_repeated a b c e) = (ap (λ z. z.file) e, λ m. directive_repeated a b c (ap (in_file m) e))
  directive_moves (fault_in_arguments a h) = let p = argument_moves h in (p.0, λ m. fault_in_arguments a (p.1 m))
