-- Root operation types (section 3.3.1).
use Rattle.std.specs.Prelude.{ℕ, Bool, false, List, [], Option, Some, None, codes, flat_map, find, position, is_some, if◌then◌else◌, option_and_then}
use Rattle.std.specs.Option.{option_map, option_map_or}
use Rattle.gq_text.specs.declared.place.Span.{Span}
use Rattle.gq_tree.specs.declared.tree.OperationKind.{OperationKind}
use Rattle.gq_tree.specs.declared.tree.OperationKind.TheVariants.{Query, Mutation, Subscription}
use Rattle.gq_tree.specs.Plain.{RootOf, TypeSystemOf, schema, type_definition, directive_definition}
use Rattle.gq_tree.specs.Same.{same_kinds}
use Rattle.gq_types.specs.declared.entry.TypeKind.TheVariants as kind
use Rattle.gq_types.specs.Entries.{Text, EntryOf}
use Rattle.gq_types.specs.Kinds.{same_kind}
use Rattle.gq_types.specs.Joined.{In, put_in, is_schema, kind_named, schema_number, joined}

abbrev pub roots_in : TypeSystemOf Span → List (RootOf Span)
roots_in (schema extends description directives roots place) = roots
roots_in (type_definition extends description name directives body place) = []
roots_in (directive_definition description name arguments repeatable locations place) = []

-- the entries of a schema definition with its extensions
abbrev pub roots_of : List EntryOf → ℕ → List (In (RootOf Span))
roots_of es number = flat_map (λ n. put_in n.entry.file (roots_in n.entry.definition)) (joined es number)

abbrev pub is_object : List EntryOf → Text → Bool
is_object es text = option_map_or (same_kind kind.Object) (kind_named es text) false

abbrev pub default_name : OperationKind → Text
default_name Query = codes "Query"
default_name Mutation = codes "Mutation"
default_name Subscription = codes "Subscription"

-- Without a schema definition the object types of these names are roots.
abbrev pub default_root : List EntryOf → OperationKind → Option Text
default_root es kind =
    if is_some (position (λ e. is_schema e.definition) es) then None else
    if is_object es (default_name kind) then Some (default_name kind) else None

-- the first entry of that kind of operation
abbrev pub entry_for : List EntryOf → OperationKind → Option Text
entry_for es kind = option_map (λ r. r.it.name.text) (find (λ r. same_kinds kind r.it.kind) (roots_of es (schema_number es)))

-- what the default or, without one, the first entry names
abbrev pub named_root : List EntryOf → OperationKind → Option Text
named_root es kind = if is_some (default_root es kind) then default_root es kind else entry_for es kind

-- the root of that kind: what is named so, where it is an object type
abbrev pub root_of : List EntryOf → OperationKind → Option Text
root_of es kind = option_and_then (λ text. if is_object es text then Some text else None) (named_root es kind)
