-- Executable definitions that are equal but for their places and for the names of fragments and variables.
use Rattle.std.specs.Prelude.{◌≡◌, ◌≢◌, ℕ, false, List, [], Option, Some, None, Contains, map}
use Rattle.std.specs.Option.{option_map}
use Rattle.gq_text.specs.declared.place.Span.{Span}
use Rattle.gq_fault.specs.declared.fault.Fault.{Fault}
use Rattle.gq_tree.specs.Forest.{relabel, relabel_tree}
use Rattle.gq_tree.specs.Plain.{NameOf, Says, variable, int, float, string, boolean, null, enum, list, object, Part, Val, DirectiveOf, VariableOf, Head, field, spread, inline, Def, operation, fragment, type_system, place_name, place_type, no_place, erase_document}
use Rattle.gq_tree.specs.Readings.{ParsedOf, definitions_read}
use Rattle.gq_types.specs.Entries.{Text, EntryOf}
use Rattle.gq_spreads.specs.FragmentSpreadTargetDefined.{IsSpreadName}
use Rattle.gq_renamed.specs.Renamings.{Renaming, fragment_called}
use Rattle.gq_renamed.specs.Projects.{rename_trees}
use Rattle.gq_document.specs.Definitions.{OperationOf, FragmentOf}
use Rattle.gq_document.specs.Executable.{ExecutableOf}
use Rattle.gq_laws.specs.Placing.Places.{HasLike}
use Rattle.gq_rules.specs.Files.{together}
use Rattle.gq_laws.specs.Placing.Types.{IsFaultless}

-- what stands for a name that is forgotten
abbrev pub nameless : NameOf (Unit {0})
nameless = record { text = []; place = tt }

-- places forgotten, and the names of variables
abbrev pub bare_says : {P : Type 0} → Says P → Says (Unit {0})
bare_says (variable name place) = variable nameless tt
bare_says (int text place) = int text tt
bare_says (float text place) = float text tt
bare_says (string text place) = string text tt
bare_says (boolean value place) = boolean value tt
bare_says (null place) = null tt
bare_says (enum name) = enum (place_name no_place name)
bare_says (list place) = list tt
bare_says (object place) = object tt

abbrev pub bare_part : {P : Type 0} → Part P → Part (Unit {0})
bare_part p = record { key = option_map (place_name no_place) p.key; says = bare_says p.says }

abbrev pub bare_value : {P : Type 0} → Val P → Val (Unit {0})
bare_value v = relabel_tree bare_part v

abbrev pub bare_directive : {P : Type 0} → DirectiveOf P → DirectiveOf (Unit {0})
bare_directive d = record { name = place_name no_place d.name; arguments = map bare_value d.arguments; place = tt }

abbrev pub bare_variable : {P : Type 0} → VariableOf P → VariableOf (Unit {0})
bare_variable v = record {
  name = nameless;
  place = tt;
  type_ref = place_type no_place v.type_ref;
  default = option_map bare_value v.default;
  directives = map bare_directive v.directives;
}

-- the name of a fragment as a function shows it
abbrev pub shown_name : {P : Type 0} → (Text → Text) → NameOf P → NameOf (Unit {0})
shown_name shown name = record { text = shown name.text; place = tt }

abbrev pub named_head : {P : Type 0} → (Text → Text) → Head P → Head (Unit {0})
named_head shown (field alias name arguments directives braces place) =
    field (option_map (place_name no_place) alias) (place_name no_place name) (map bare_value arguments) (map bare_directive directives) (option_map no_place braces) tt
named_head shown (spread name directives place) = spread (shown_name shown name) (map bare_directive directives) tt
named_head shown (inline on directives braces place) = inline (option_map (place_name no_place) on) (map bare_directive directives) tt tt

-- what is no executable definition is left out
abbrev pub named_def : {P : Type 0} → (Text → Text) → Def P → Option (Def (Unit {0}))
named_def shown (operation kind name variables directives set braces place) =
    Some (operation kind (option_map (place_name no_place) name) (map bare_variable variables) (map bare_directive directives) (relabel (named_head shown) set) tt tt)
named_def shown (fragment name on directives set braces place) =
    Some (fragment (shown_name shown name) (place_name no_place on) (map bare_directive directives) (relabel (named_head shown) set) tt tt)
named_def shown (type_system definition) = None

-- the names of fragments forgotten, too
abbrev pub forgotten : Text → Text
forgotten text = []

abbrev pub bare_head : {P : Type 0} → Head P → Head (Unit {0})
bare_head = named_head forgotten

abbrev pub bare_def : {P : Type 0} → Def P → Option (Def (Unit {0}))
bare_def = named_def forgotten

abbrev pub bare_operation : OperationOf → ℕ × Option (Def (Unit {0}))
bare_operation o = (o.file, bare_def (operation o.kind o.name o.variables o.directives o.set o.braces o.place))

abbrev pub bare_fragment : FragmentOf → ℕ × Option (Def (Unit {0}))
bare_fragment f = (f.file, bare_def (fragment f.name f.on f.directives f.set f.braces f.place))

pub record SameButNames (x y : ExecutableOf) : Type 0 where
  pub entries : x.entries ≡ y.entries
  pub operations : map bare_operation x.operations ≡ map bare_operation y.operations
  pub fragments : map bare_fragment x.fragments ≡ map bare_fragment y.fragments

-- Neither places nor those names matter.
abbrev pub NamesDoNotMatter : (ExecutableOf → Fault → Type 0) → Type 0
NamesDoNotMatter IsFault = (x y : ExecutableOf) → SameButNames x y → (f : Fault) → IsFault x f → HasLike (IsFault y) f

-- Where fragments and variables are renamed, whatever the rule, what is read before and after is so.
abbrev pub RenamedAreSameButNames : Type 0
RenamedAreSameButNames = (es : List EntryOf) (rule : ℕ → Renaming) (new : List ℕ) (before after : List ParsedOf) →
    map erase_document (map definitions_read after) ≡ rename_trees rule 0 new (map erase_document (map definitions_read before)) → SameButNames (together es before) (together es after)

-- So such a rename brings no fault of those rules.
abbrev pub RenamesKeepFaultless : (ExecutableOf → Fault → Type 0) → Type 0
RenamesKeepFaultless IsFault = (es : List EntryOf) (rule : ℕ → Renaming) (new : List ℕ) (before after : List ParsedOf) →
    map erase_document (map definitions_read after) ≡ rename_trees rule 0 new (map erase_document (map definitions_read before)) →
    IsFaultless IsFault (together es before) → IsFaultless IsFault (together es after)

-- no fragment has the name, and no spread
pub record IsFresh (x : ExecutableOf) (new : Text) : Type 0 where
  pub in_fragments : (f : FragmentOf) → Contains x.fragments f → f.name.text ≢ new
  pub in_spreads : (file : ℕ) (name : NameOf Span) → IsSpreadName x file name → name.text ≢ new

-- A rename of a fragment to a fresh name brings no fault of those rules.
abbrev pub FragmentRenamesKeepFaultless : (ExecutableOf → Fault → Type 0) → Type 0
FragmentRenamesKeepFaultless IsFault = (es : List EntryOf) (old new : Text) (before after : List ParsedOf) →
    map erase_document (map definitions_read after) ≡ rename_trees (λ n. fragment_called old) 0 new (map erase_document (map definitions_read before)) →
    IsFresh (together es before) new → IsFaultless IsFault (together es before) → IsFaultless IsFault (together es after)

-- names of variables alone change
abbrev pub ChangesNoFragment : (ℕ → Renaming) → Type 0
ChangesNoFragment rule = (n : ℕ) (text : Text) → (rule n).fragments text ≡ false

-- A rename of variables, whatever the rule, brings no fault of those rules.
abbrev pub VariableRenamesKeepFaultless : (ExecutableOf → Fault → Type 0) → Type 0
VariableRenamesKeepFaultless IsFault = (es : List EntryOf) (rule : ℕ → Renaming) (new : Text) (before after : List ParsedOf) → ChangesNoFragment rule →
    map erase_document (map definitions_read after) ≡ rename_trees rule 0 new (map erase_document (map definitions_read before)) →
    IsFaultless IsFault (together es before) → IsFaultless IsFault (together es after)
