-- What is told of the root type for queries, computed.
use Rattle.std.specs.Prelude.{Bool, List, [], ◌∷◌, Option, Some, None, if◌then◌else◌}
use Rattle.std.specs.List.{list_any}
use Rattle.gq_text.specs.declared.place.Span.{Span}
use Rattle.gq_fault.specs.declared.fault.Fault.{Fault}
use Rattle.gq_tree.specs.declared.tree.OperationKind.TheVariants.{Query}
use Rattle.gq_tree.specs.Plain.{RootOf}
use Rattle.gq_tree.specs.Same.{same_kinds}
use Rattle.gq_types.specs.Entries.{Text, EntryOf}
use Rattle.gq_types.specs.Joined.{In, schema_number}
use Rattle.gq_types.specs.Roots.{roots_of, default_root}
use Rattle.gq_type_system.specs.QueryRoot.{no_query_root_fault}

abbrev pub is_for_queries : In (RootOf Span) → Bool
is_for_queries root = same_kinds root.it.kind Query

abbrev pub query_root_told : Option Text → List (In (RootOf Span)) → List Fault
query_root_told (Some text) roots = []
query_root_told None roots = if list_any is_for_queries roots then [] else no_query_root_fault ∷ []

abbrev pub no_query_root : List EntryOf → List Fault
no_query_root es = query_root_told (default_root es Query) (roots_of es (schema_number es))
