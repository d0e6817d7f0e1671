-- The faults of literals, arguments and directives, in the document of another number.
use Rattle.std.proofs.Common.{◌≡◌, ℕ, List, Option, ap}
use Rattle.gq_text.specs.declared.place.Span.{Span}
use Rattle.gq_fault.specs.declared.fault.Fault.{Fault}
use Rattle.gq_tree.specs.declared.type_system.DirectiveLocation.{DirectiveLocation}
use Rattle.gq_tree.specs.Plain.{NameOf, Val, DirectiveOf, InputOf}
use Rattle.gq_types.specs.Entries.{Text, EntryOf}
use Rattle.gq_values.specs.Literals.{Expected}
use Rattle.gq_values.specs.LiteralFaults.{IsFaultOf, wrong_value, unknown_field, field_not_unique, field_missing, IsLiteralFault}
use Rattle.gq_values.specs.ArgumentFaults.{IsArgumentFault, unknown_argument, argument_not_unique, argument_missing, fault_in_value}
use Rattle.gq_values.specs.DirectiveFaults.{IsDirectiveFault, unknown_directive, directive_in_wrong_place, directive_repeated, fault_in_arguments}
use Rattle.gq_rules.specs.Files.{in_file}

-- a fault of the document of that number, and what is then a fault of each other document
abbrev pub IsElsewhere : (ℕ → Fault → Type 0) → ℕ → Fault → Type 0
IsElsewhere IsFault file f = (f.file ≡ file) × ((other : ℕ) → IsFault other (in_file other f))

module _ {es : List EntryOf} {file : ℕ} {f : Fault} where
  part_elsewhere : {reading : Expected} {value : Val Span} → IsFaultOf es file reading value f → IsElsewhere (λ n. IsFaultOf es n reading value) file f
  part_elsewhere (wrong_value a b is) = (ap (λ z. z.file) is, λ n. wrong_value a b (ap (in_file n) is))
  part_elsewhere (unknown_field a b c d e is) = (ap (λ z. z.file) is, λ n. unknown_field a b c d e (ap (in_file n) is))
  part_elsewhere (field_not_unique a b is) = (ap (λ z. z.file) is, λ n. field_not_unique a b (ap (in_file n) is))
  part_elsewhere (field_missing a b c d e h is) = (ap (λ z. z.file) is, λ n. field_missing a b c d e h (ap (in_file n) is))

  pub literal_elsewhere : {reading : Expected} {value : Val Span} → IsLiteralFault es file reading value f → IsElsewhere (λ n. IsLiteralFault es n reading value) file f
  literal_elsewhere h = let p = part_elsewhere h.fault in (p.0, λ n. record { inner = h.inner; part = h.part; stands = h.stands; fault = p.1 n })

  pub argument_elsewhere : {definitions : Option (List (InputOf Span))} {name : NameOf Span} {arguments : List (Val Span)} → IsArgumentFault es file definitions name arguments f →
      IsElsewhere (λ n. IsArgumentFault es n definitions name arguments) file f
  argument_elsewhere (unknown_argument a b c is) = (ap (λ z. z.file) is, λ n. unknown_argument a b c (ap (in_file n) is))
  argument_elsewhere (argument_not_unique a is) = (ap (λ z. z.file) is, λ n. argument_not_unique a (ap (in_file n) is))
  argument_elsewhere (argument_missing a b c d is) = (ap (λ z. z.file) is, λ n. argument_missing a b c d (ap (in_file n) is))
  argument_elsewhere (fault_in_value a b h) = let p = literal_elsewhere h in (p.0, λ n. fault_in_value a b (p.1 n))

  pub directive_elsewhere : {location : DirectiveLocation} {before : List Text} {directives : List (DirectiveOf Span)} → IsDirectiveFault es file location before directives f →
      IsElsewhere (λ n. IsDirectiveFault es n location before directives) file f
  directive_elsewhere (unknown_directive a b is) = (ap (λ z. z.file) is, λ n. unknown_directive a b (ap (in_file n) is))
  directive_elsewhere (directive_in_wrong_place a b c is) = (ap (λ z. z.file) is, λ n. directive_in_wrong_place a b c (ap (in_file n) is))
  directive_elsewhere (directive_repeated a b c is) = (ap (λ z. z.file) is, λ n. directive_repeated a b c (ap (in_file n) is))
  directive_elsewhere (fault_in_arguments a h) = let p = argument_elsewhere h in (p.0, λ n. fault_in_arguments a (p.1 n))
