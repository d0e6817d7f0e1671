-- What execution sees of a project as it is read: the types of fields and roots, fragments and operations.
use Rattle.std.specs.Prelude.{List, [], unwrap_or}
use Rattle.std.specs.Option.{option_map}
use Rattle.gq_text.specs.declared.place.Span.{Span}
use Rattle.gq_tree.specs.declared.tree.OperationKind.{OperationKind}
use Rattle.gq_types.specs.Entries.{Text, EntryOf}
use Rattle.gq_types.specs.Roots.{root_of}
use Rattle.gq_document.specs.Definitions.{OperationOf, FragmentOf}
use Rattle.gq_document.specs.Selections.{field_on}
use Rattle.gq_tree.specs.NamedTypes.{base_name}
use Rattle.gq_meaning.specs.Selected.{set_of}
use Rattle.gq_meaning.specs.Expand.{Definition}
use Rattle.gq_meaning.specs.Rewritten.{Static}
use Rattle.gq_laws.specs.Rewriting.Documents.{Operation}

-- the name inside lists and types without null of what the field gives, where there is such a field
abbrev pub static_of : List EntryOf → Static
static_of es type_name text = option_map (λ f. base_name f.type_ref) (field_on es type_name text)

-- the type of the root object for a kind of operation; the empty name where there is none
abbrev pub roots_in : List EntryOf → OperationKind → Text
roots_in es kind = unwrap_or (root_of es kind) []

-- a fragment and an operation as they were read
abbrev pub seen_fragment : FragmentOf → Definition
seen_fragment f = record { name = f.name.text; on = f.on.text; set = set_of f.set }

abbrev pub seen_operation : OperationOf → Operation Span
seen_operation o = record { kind = o.kind; name = o.name; variables = o.variables; directives = o.directives; set = o.set }
