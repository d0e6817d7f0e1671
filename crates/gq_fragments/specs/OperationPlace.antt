-- Where a fault of an operation is told (section 2.3): at its name or, where it has none, at its first token.
use Rattle.std.specs.Prelude.{ℕ, nat_eq, if◌then◌else◌}
use Rattle.std.specs.Option.{option_map_or}
use Rattle.gq_text.specs.declared.place.Span.{Span}
use Rattle.gq_tree.specs.declared.tree.OperationKind.{OperationKind}
use Rattle.gq_tree.specs.declared.tree.OperationKind.TheVariants.{Query, Mutation, Subscription}
use Rattle.gq_document.specs.Definitions.{OperationOf}
use Rattle.gq_fault.specs.FaultPlaces.{first_bytes}

-- the lengths of the keywords `query`, `mutation` and `subscription`, in bytes
abbrev pub keyword_length : OperationKind → ℕ
keyword_length Query = 5
keyword_length Mutation = 8
keyword_length Subscription = 12

-- The first token is the opening brace of a query in the short form, which begins with its selection set, and else the
-- keyword.
abbrev pub first_token : OperationOf → Span
first_token o = first_bytes (if nat_eq o.braces.start o.place.start then 1 else keyword_length o.kind) o.place

abbrev pub operation_place : OperationOf → Span
operation_place o = option_map_or (λ n. n.place) o.name (first_token o)
