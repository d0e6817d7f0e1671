-- The definitions of a project's documents before and after selections are rewritten in one of them.
use Rattle.std.specs.Prelude.{◌≡◌, ℕ, suc, nat_eq, List, [], ◌∷◌, Option, Some, map, flat_map, if◌then◌else◌}
use Rattle.std.specs.List.{AllByRecursion, AllZip}
use Rattle.std.specs.Option.{option_map}
use Rattle.gq_text.specs.declared.place.Span.{Span}
use Rattle.gq_tree.specs.declared.tree.OperationKind.{OperationKind}
use Rattle.gq_tree.specs.Plain as tree
use Rattle.gq_tree.specs.Plain.{NameOf, VariableOf, DirectiveOf, Head, Sel, Sels, Def, operation, fragment, type_system, no_place, place_name, place_variable, place_directive, erase_all}
use Rattle.gq_meaning.specs.Values.{Text}
use Rattle.gq_meaning.specs.Selected.{set_of}
use Rattle.gq_meaning.specs.Expand.{Definition, find_definition}
use Rattle.gq_meaning.specs.Thin.{IsIn}
use Rattle.gq_meaning.specs.Rewritten.{Static, Rewritten, AreKept}
use Rattle.gq_rewritten.specs.Rewrites.{Bare, Rewrite}
use Rattle.gq_laws.specs.Rewriting.KnownBefore.{Each, IsTyped, EndsSet}

-- a fragment as execution sees it (section 2.8)
abbrev pub definition_in : {P : Type 0} → Def P → List Definition
definition_in (operation kind name variables directives set braces place) = []
definition_in (fragment name on directives set braces place) = record { name = name.text; on = on.text; set = set_of set } ∷ []
definition_in (type_system definition) = []

abbrev pub definitions_in : {P : Type 0} → List (Def P) → List Definition
definitions_in tree = flat_map definition_in tree

abbrev pub definitions_of : {P : Type 0} → List (List (Def P)) → List Definition
definitions_of trees = flat_map definitions_in trees

-- an operation (section 2.3)
pub record Operation (P : Type 0) : Type 0 where
  pub kind : OperationKind
  pub name : Option (NameOf P)
  pub variables : List (VariableOf P)
  pub directives : List (DirectiveOf P)
  pub set : Sels P

abbrev pub operation_in : {P : Type 0} → Def P → List (Operation P)
operation_in (operation kind name variables directives set braces place) =
    record { kind = kind; name = name; variables = variables; directives = directives; set = set } ∷ []
operation_in (fragment name on directives set braces place) = []
operation_in (type_system definition) = []

abbrev pub operations_in : {P : Type 0} → List (Def P) → List (Operation P)
operations_in tree = flat_map operation_in tree

abbrev pub operations_of : {P : Type 0} → List (List (Def P)) → List (Operation P)
operations_of trees = flat_map operations_in trees

-- Each definition of the documents is so, by the number of its document; the first document has this number.
abbrev pub EachFrom : {D : Type 0} → (ℕ → D → Type 0) → ℕ → List (List D) → Type 0
EachFrom IsSo file [] = Unit {0}
EachFrom IsSo file (tree ∷ trees) = AllByRecursion (IsSo file) tree × EachFrom IsSo (suc file) trees

-- The set of a definition is so, where its parent has this type: the root type for the operation's kind, or the type condition.
abbrev pub OfSet : (OperationKind → Text) → (Text → Sels Span → Type 0) → Def Span → Type 0
OfSet roots IsSo (operation kind name variables directives set braces place) = IsSo (roots kind) set
OfSet roots IsSo (fragment name on directives set braces place) = IsSo on.text set
OfSet roots IsSo (type_system definition) = Unit {0}

-- the set of a definition, with the type of its parent
pub data IsSetOf (roots : OperationKind → Text) : Def Span → Text → Sels Span → Type 0 where
  of_operation : {kind : OperationKind} {name : Option (NameOf Span)} {variables : List (VariableOf Span)} {directives : List (DirectiveOf Span)} {set : Sels Span} {braces place : Span} →
      IsSetOf roots (operation kind name variables directives set braces place) (roots kind) set
  of_fragment : {name on : NameOf Span} {directives : List (DirectiveOf Span)} {set : Sels Span} {braces place : Span} → IsSetOf roots (fragment name on directives set braces place) on.text set

-- The last selections of a set in a document, with the type of its parent.
pub record EndsSetIn (static : Static) (roots : OperationKind → Text) (tree : List (Def Span)) (on : Text) (last : Sels Span) : Type 0 where
  pub definition : Def Span
  pub stands : IsIn definition tree
  pub root : Text
  pub set : Sels Span
  pub is_set : IsSetOf roots definition root set
  pub ends : EndsSet static root set on last

-- what becomes of the selections in the document of that number
abbrev pub change_in : Rewrite → ℕ → Sels Span → Bare
change_in r file = if nat_eq r.file file then r.change else erase_all

-- an operation and what it becomes
pub record OperationBecomes (static : Static) (ds ds' : List Definition) (roots : OperationKind → Text) (o : Operation Span) (o' : Operation (Unit {0})) : Type 0 where
  pub kind : o.kind ≡ o'.kind
  pub name : o'.name ≡ option_map (place_name no_place) o.name
  pub variables : o'.variables ≡ map (place_variable no_place) o.variables
  pub directives : o'.directives ≡ map (place_directive no_place) o.directives
  pub set : Rewritten static ds ds' (roots o.kind) (set_of o.set) (set_of o'.set)

-- Documents and what they become: each fragment that stands before and after, and the operations in their order.
pub record Restates (static : Static) (roots : OperationKind → Text) (trees : List (List (Def Span))) (after : List (List (Def (Unit {0})))) : Type 0 where
  pub fragments : AreKept static (definitions_of trees) (definitions_of after)
  pub operations : AllZip (OperationBecomes static (definitions_of trees) (definitions_of after) roots) (operations_of trees) (operations_of after)

-- The documents before: each set has its types, and each spread is of a fragment that stands.
abbrev pub IsSpreadDefined : List Definition → Head Span → Type 0
IsSpreadDefined ds (tree.field alias name arguments directives braces place) = Unit {0}
IsSpreadDefined ds (tree.spread name directives place) = (d : Definition) × (find_definition ds name.text ≡ Some d)
IsSpreadDefined ds (tree.inline on directives braces place) = Unit {0}

abbrev pub AreTyped : Static → (OperationKind → Text) → List (List (Def Span)) → Type 0
AreTyped static roots trees = EachFrom (λ file d. OfSet roots (λ t set. IsTyped static t (set_of set)) d) 0 trees

abbrev pub AreDefined : (OperationKind → Text) → List (List (Def Span)) → Type 0
AreDefined roots trees = EachFrom (λ file d. OfSet roots (λ t set. Each (IsSpreadDefined (definitions_of trees)) set) d) 0 trees

pub record AreSound (static : Static) (roots : OperationKind → Text) (trees : List (List (Def Span))) : Type 0 where
  pub typed : AreTyped static roots trees
  pub defined : AreDefined roots trees
