-- The definitions of a project's documents (section 2.2), each with the document that it stands in.
use Rattle.std.specs.Prelude.{ℕ, List, [], ◌∷◌, Option, map}
use Rattle.std.specs.Option.{option_map}
use Rattle.gq_text.specs.declared.place.Span.{Span}
use Rattle.gq_tree.specs.declared.tree.OperationKind.{OperationKind}
use Rattle.gq_tree.specs.Plain.{NameOf, VariableOf, DirectiveOf, Sels, Def, operation, fragment, type_system}
use Rattle.gq_tree.specs.Views.{name_of, variable_view, directive_view, sels_view}
use Rattle.gq_types.specs.Entries.{EntryOf}
use Rattle.gq_tree.specs.Readings.{ParsedOf, in_documents}
use Rattle.gq_document.specs.declared.definitions.OperationEntry.{OperationEntry}
use Rattle.gq_document.specs.declared.definitions.FragmentEntry.{FragmentEntry}

-- an operation (section 2.3), and the number of its document
pub record OperationOf : Type 0 where
  pub file : ℕ
  pub kind : OperationKind
  pub name : Option (NameOf Span)
  pub variables : List (VariableOf Span)
  pub directives : List (DirectiveOf Span)
  pub set : Sels Span
  pub braces : Span
  pub place : Span

-- a fragment (section 2.8), and the number of its document
pub record FragmentOf : Type 0 where
  pub file : ℕ
  pub name : NameOf Span
  pub on : NameOf Span
  pub directives : List (DirectiveOf Span)
  pub set : Sels Span
  pub braces : Span
  pub place : Span

-- what a definition of a document is
abbrev pub operation_in : ℕ → Def Span → List OperationOf
operation_in file (operation kind name variables directives set braces place) =
    record { file = file; kind = kind; name = name; variables = variables; directives = directives; set = set; braces = braces; place = place } ∷ []
operation_in file (fragment name on directives set braces place) = []
operation_in file (type_system definition) = []

abbrev pub fragment_in : ℕ → Def Span → List FragmentOf
fragment_in file (operation kind name variables directives set braces place) = []
fragment_in file (fragment name on directives set braces place) =
    record { file = file; name = name; on = on; directives = directives; set = set; braces = braces; place = place } ∷ []
fragment_in file (type_system definition) = []

abbrev pub entry_in : ℕ → Def Span → List EntryOf
entry_in file (operation kind name variables directives set braces place) = []
entry_in file (fragment name on directives set braces place) = []
entry_in file (type_system definition) = record { file = file; definition = definition } ∷ []

abbrev pub operations_of : List ParsedOf → List OperationOf
operations_of readings = in_documents operation_in readings

abbrev pub fragments_of : List ParsedOf → List FragmentOf
fragments_of readings = in_documents fragment_in readings

abbrev pub entries_of : List ParsedOf → List EntryOf
entries_of readings = in_documents entry_in readings

-- what the code's operations and fragments stand for
abbrev pub operation_view : OperationEntry → OperationOf
operation_view e = record {
  file = e.file;
  kind = e.definition.now.kind;
  name = option_map name_of e.definition.now.name;
  variables = map variable_view e.definition.now.variables.items;
  directives = map directive_view e.definition.now.directives.items;
  set = sels_view e.definition.now.set.items.items;
  braces = e.definition.now.set.span;
  place = e.definition.now.span;
}

abbrev pub fragment_view : FragmentEntry → FragmentOf
fragment_view e = record {
  file = e.file;
  name = name_of e.definition.now.name;
  on = name_of e.definition.now.on;
  directives = map directive_view e.definition.now.directives.items;
  set = sels_view e.definition.now.set.items.items;
  braces = e.definition.now.set.span;
  place = e.definition.now.span;
}

abbrev pub operations_view : List OperationEntry → List OperationOf
operations_view es = map operation_view es

abbrev pub fragments_view : List FragmentEntry → List FragmentOf
fragments_view es = map fragment_view es
