-- What is told of root operation types, computed.
use Rattle.std.specs.Prelude.{ℕ, Bool, false, List, [], ◌∷◌, ◌++◌, Option, Some, None, if◌then◌else◌, map, not, ◌||◌, length}
use Rattle.std.specs.List.{list_any}
use Rattle.std.specs.Option.{option_map_or}
use Rattle.std.specs.Str.{bytes_eq}
use Rattle.gq_text.specs.declared.place.Span.{Span}
use Rattle.gq_fault.specs.declared.code.Code.{Code}
use Rattle.gq_fault.specs.declared.code.Code.TheVariants.{EmptyOrRepeated, WrongKindOfType}
use Rattle.gq_fault.specs.declared.fault.Fault.{Fault}
use Rattle.gq_tree.specs.declared.tree.OperationKind.{OperationKind}
use Rattle.gq_tree.specs.declared.tree.OperationKind.TheVariants.{Query, Mutation, Subscription}
use Rattle.gq_tree.specs.Plain.{RootOf}
use Rattle.gq_tree.specs.Same.{same_kinds}
use Rattle.gq_types.specs.declared.entry.TypeKind.{TypeKind}
use Rattle.gq_types.specs.declared.entry.TypeKind.TheVariants as kind
use Rattle.gq_type_system.specs.declared.root_types.Taken.{Taken}
use Rattle.gq_types.specs.Entries.{Text, EntryOf}
use Rattle.gq_types.specs.Kinds.{same_kind}
use Rattle.gq_types.specs.Joined.{In, kind_named}
use Rattle.gq_fault.specs.FaultPlaces.{fault_at}
use Rattle.gq_types.specs.Roots.{roots_of, default_root}
use Rattle.gq_type_system.specs.Helping.Walk.{at_each_number}

-- a kind of operation that has a root, and the name of its type
pub record TakenOf : Type 0 where
  pub kind : OperationKind
  pub text : Text

abbrev pub taken_of : Taken → TakenOf
taken_of t = record { kind = t.kind; text = t.text.now }

abbrev pub taken_view : List Taken → List TakenOf
taken_view ts = map taken_of ts

abbrev pub has_kind : List TakenOf → OperationKind → Bool
has_kind taken operation = list_any (λ t. same_kinds t.kind operation) taken

abbrev pub has_text : List TakenOf → Text → Bool
has_text taken text = list_any (λ t. bytes_eq t.text text) taken

abbrev pub taken_default : OperationKind → Option Text → List TakenOf
taken_default operation None = []
taken_default operation (Some text) = record { kind = operation; text = text } ∷ []

abbrev pub defaults : List EntryOf → List TakenOf
defaults es = taken_default Query (default_root es Query) ++ (taken_default Mutation (default_root es Mutation) ++ taken_default Subscription (default_root es Subscription))

abbrev pub is_wrong_kind : List TakenOf → Text → Option TypeKind → Bool
is_wrong_kind taken text found = option_map_or (λ k. not (same_kind k kind.Object) || has_text taken text) found false

abbrev pub root_code : List EntryOf → List TakenOf → In (RootOf Span) → Option Code
root_code es taken root =
    if has_kind taken root.it.kind then Some EmptyOrRepeated else
    if is_wrong_kind taken root.it.name.text (kind_named es root.it.name.text) then Some WrongKindOfType else None

abbrev pub code_told : In (RootOf Span) → Option Code → List Fault
code_told root None = []
code_told root (Some code) = fault_at root.file code root.it.name ∷ []

abbrev pub root_told : List EntryOf → List TakenOf → In (RootOf Span) → List Fault
root_told es taken root = code_told root (root_code es taken root)

abbrev pub taken_after : List TakenOf → In (RootOf Span) → List TakenOf
taken_after taken root = if has_kind taken root.it.kind then taken else taken ++ record { kind = root.it.kind; text = root.it.name.text } ∷ []

abbrev pub roots_told : List EntryOf → List TakenOf → List (In (RootOf Span)) → List Fault
roots_told es taken [] = []
roots_told es taken (root ∷ roots) = root_told es taken root ++ roots_told es (taken_after taken root) roots

abbrev pub wrong_roots_of : List EntryOf → ℕ → List Fault
wrong_roots_of es number = roots_told es (defaults es) (roots_of es number)

abbrev pub wrong_roots : List EntryOf → List Fault
wrong_roots es = at_each_number (wrong_roots_of es) 0 es ++ wrong_roots_of es (length es)
