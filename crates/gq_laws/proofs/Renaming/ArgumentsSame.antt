-- Arguments have the same values after variables and the names of their values were changed alike.
use Rattle.std.proofs.Common.{◌≡◌, List, [], ◌∷◌, Option, Some, None, map, refl, ap, sym, ◌∙◌}
use Rattle.std.specs.Prelude.{if◌then◌else◌}
use Rattle.std.specs.Option.{option_map, option_map_or}
use Rattle.gq_text.specs.declared.place.Span.{Span}
use Rattle.gq_tree.specs.Forest.{none, more, row, relabel}
use Rattle.gq_tree.specs.Plain as tree
use Rattle.gq_tree.specs.Plain.{Val, Vals, TypeOf, named, list_of, non_null, InputOf}
use Rattle.gq_types.specs.Entries.{EntryOf}
use Rattle.gq_types.specs.declared.entry.TypeKind.{TypeKind}
use Rattle.gq_types.specs.declared.entry.TypeKind.TheVariants as kind
use Rattle.gq_types.specs.Joined.{kind_named}
use Rattle.gq_types.specs.BuiltIn.{is_built_in_scalar}
use Rattle.gq_values.specs.Literals.{is_list}
use Rattle.gq_index.specs.VariableNames.{says_variable}
use Rattle.gq_renamed.specs.Renamings.{Renaming, renamed_text}
use Rattle.gq_renamed.specs.Renamed.{rename_says, rename_part, rename_value}
use Rattle.gq_meaning.specs.Values.{Text, Value, Values}
use Rattle.gq_meaning.specs.Directives.{entry_of}
use Rattle.gq_coerce.specs.Coerced.{Coerced, absent, given, unnamed, Part, items_of, list_value, wrapped, entries_of}
use Rattle.gq_coerce.specs.Literals.{Says, variable_value, scalar_value, free_value, ReadAt, at_type, at_any, Setting, setting, inputs_from, at_name, missing_item, formed, unless_null, at_type_value, read_at, read_all}
use Rattle.gq_laws.specs.Renaming.Helping.Alike.{IsFresh, AreFresh, ValuesAlike, ArgumentsAlike}
use Rattle.gq_laws.proofs.Renaming.Fresh.{FreshIn, from_arguments, first_fresh}

by_under : (o : Option Value) → option_map_or (λ v. given (unnamed v)) o absent ≡ option_map_or given (option_map unnamed o) absent
by_under None = refl
by_under (Some v) = refl

renamed_row : (r : Renaming) (new : Text) (vs : List (Val (Unit {0}))) → row (map (rename_value r new) vs) ≡ relabel (rename_part r new) (row vs)
renamed_row r new [] = refl
renamed_row r new (v ∷ vs) = ap (λ (rest : Vals (Unit {0})). more (rename_part r new v.label) (relabel (rename_part r new) v.below) rest) (renamed_row r new vs)

module _ (r : Renaming) (new : Text) (before after : Values) (alike : ValuesAlike r new before after) (es : List EntryOf) where
  S : Setting
  S = setting es before

  S' : Setting
  S' = setting es after

  value_same : (v : Text) → IsFresh r new v → variable_value after (renamed_text r.variables new v) ≡ variable_value before v
  value_same v fresh = by_under (entry_of (renamed_text r.variables new v) after) ∙ ap (λ (o : Option Value). option_map_or given o absent) (alike v fresh) ∙ sym (by_under (entry_of v before))

  -- what says the same freely says the same at a type
  module _ (says : Says) (free : (ps : List Part) → free_value after says ps ≡ free_value before says ps) (parts : ReadAt → List Part) where
    named_same : (name : Text) (k : Option TypeKind) → at_name (setting es after) name k says parts ≡ at_name (setting es before) name k says parts
    named_same name (Some kind.Scalar) = ap (λ (v : Coerced). if is_built_in_scalar name then scalar_value name says else v) (free (parts at_any))
    named_same name (Some kind.Enum) = refl
    named_same name (Some kind.InputObject) = refl
    named_same name (Some kind.Object) = refl
    named_same name (Some kind.Interface) = refl
    named_same name (Some kind.Union) = refl
    named_same name None = refl

    formed_same : (t : TypeOf Span) → formed (setting es after) t says parts ≡ formed (setting es before) t says parts
    formed_same (named name) = named_same name.text (kind_named es name.text)
    formed_same (list_of item) = ap (λ (v : Coerced). if is_list says then list_value (items_of (missing_item item) (parts (at_type item))) else wrapped v) (formed_same item)
    formed_same (non_null inner) = formed_same inner

  typed_same : (t : TypeOf Span) (says : Says) → AreFresh r new (says_variable says) → (parts : ReadAt → List Part) → at_type_value (setting es after) t (rename_says r new says) parts ≡ at_type_value (setting es before) t says parts
  typed_same t (tree.variable n place) fresh parts = ap (unless_null t) (value_same n.text (first_fresh r new n fresh))
  typed_same t (tree.int text place) fresh parts = formed_same (tree.int text place) (λ ps. refl) parts t
  typed_same t (tree.float text place) fresh parts = formed_same (tree.float text place) (λ ps. refl) parts t
  typed_same t (tree.string text place) fresh parts = formed_same (tree.string text place) (λ ps. refl) parts t
  typed_same t (tree.boolean value place) fresh parts = formed_same (tree.boolean value place) (λ ps. refl) parts t
  typed_same t (tree.null place) fresh parts = refl
  typed_same t (tree.enum name) fresh parts = formed_same (tree.enum name) (λ ps. refl) parts t
  typed_same t (tree.list place) fresh parts = formed_same (tree.list place) (λ ps. refl) parts t
  typed_same t (tree.object place) fresh parts = formed_same (tree.object place) (λ ps. refl) parts t

  freely_same : (says : Says) → AreFresh r new (says_variable says) → (ps : List Part) → free_value after (rename_says r new says) ps ≡ free_value before says ps
  freely_same (tree.variable n place) fresh ps = value_same n.text (first_fresh r new n fresh)
  freely_same (tree.int text place) fresh ps = refl
  freely_same (tree.float text place) fresh ps = refl
  freely_same (tree.string text place) fresh ps = refl
  freely_same (tree.boolean value place) fresh ps = refl
  freely_same (tree.null place) fresh ps = refl
  freely_same (tree.enum name) fresh ps = refl
  freely_same (tree.list place) fresh ps = refl
  freely_same (tree.object place) fresh ps = refl

  read_one : (read : ReadAt) (says : Says) → AreFresh r new (says_variable says) → (parts : ReadAt → List Part) → read_at (setting es after) read (rename_says r new says) parts ≡ read_at (setting es before) read says parts
  read_one (at_type t) says fresh parts = typed_same t says fresh parts
  read_one at_any says fresh parts = freely_same says fresh (parts at_any)

  all_same : (vs : Vals (Unit {0})) → FreshIn r new vs → (read : ReadAt) → read_all (setting es after) (relabel (rename_part r new) vs) read ≡ read_all (setting es before) vs read
  all_same none fresh read = refl
  all_same (more part below rest) fresh read =
      let inner : read_all (setting es after) (relabel (rename_part r new) below) ≡ read_all (setting es before) below = (λ i at. all_same below fresh.1 at i) in
      let key : Option Text = option_map (λ n. n.text) part.key in
      let one : read_at (setting es after) read (rename_says r new part.says) (read_all (setting es after) (relabel (rename_part r new) below)) ≡ read_at (setting es before) read part.says (read_all (setting es before) below) =
      ap (read_at (setting es after) read (rename_says r new part.says)) inner ∙ read_one read part.says fresh.0 (read_all (setting es before) below) in
      ap (λ (c : Coerced). let p : Part = record { key = key; is = c } in p ∷ read_all (setting es after) (relabel (rename_part r new) rest) read) one
      ∙ ap (λ (ps : List Part). let p : Part = record { key = key; is = read_at (setting es before) read part.says (read_all (setting es before) below) } in p ∷ ps) (all_same rest fresh.2 read)

pub arguments_alike : ArgumentsAlike
arguments_alike r new before after alike es definitions a fresh =
    let parts : (λ (t : TypeOf Span). read_all (setting es after) (row (map (rename_value r new) a)) (at_type t)) ≡ (λ (t : TypeOf Span). read_all (setting es before) (row a) (at_type t)) =
    (λ i t. (ap (λ (vs : Vals (Unit {0})). read_all (setting es after) vs (at_type t)) (renamed_row r new a) ∙ all_same r new before after alike es (row a) (from_arguments r new a fresh) (at_type t)) i) in
    ap (λ (ps : TypeOf Span → List Part). option_map row (entries_of (inputs_from (setting es after) definitions ps))) parts
