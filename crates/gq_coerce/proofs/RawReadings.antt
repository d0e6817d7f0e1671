-- Values that are given for variables, as the code goes over them.
use Rattle.std.proofs.Common.{◌≡◌, ℕ, zero, suc, ◌+◌, ◌*◌, ◌<◌, ◌≤◌, arith, Bool, true, false, cond, List, [], ◌∷◌, map, length, get_or, Option, Some, None, refl, ap, sym, ◌∙◌, Vec, Global}
use Rattle.std.specs.Option.{option_map, option_map_or}
use Rattle.std.specs.Str.{bytes_eq}
use Rattle.std.specs.Borrow.{Bor}
use Rattle.std.proofs.lemmas.Option.{same_Some, none-some}
use Rattle.gq_text.specs.declared.place.Span.{Span}
use Rattle.gq_tree.specs.Forest.{row}
use Rattle.gq_tree.specs.Plain.{TypeOf, named, list_of, non_null, InputOf}
use Rattle.gq_tree.specs.Views.{value_view as literal_view, type_view, input_view, variable_view}
use Rattle.gq_tree.specs.declared.tree.VariableDefinition.{VariableDefinition}
use Rattle.gq_tree.specs.declared.type_system.InputValueDefinition.{InputValueDefinition}
use Rattle.gq_meaning.specs.Values as value
use Rattle.gq_meaning.specs.Values.{Text}
use Rattle.gq_meaning.specs.Directives.{entry_of}
use Rattle.gq_tree.specs.Wrapping.{item_of}
use Rattle.gq_tree.specs.NamedTypes.{base_name}
use Rattle.std.specs.Prelude.{◌||◌, not, is_none, find, option_and_then}
use Rattle.std.specs.List.{list_any}
use Rattle.gq_types.specs.Entries.{EntryOf}
use Rattle.gq_types.specs.Names.{input_named}
use Rattle.gq_types.specs.BuiltIn.{is_built_in_scalar}
use Rattle.gq_types.specs.Joined.{In, kind_named, inputs_of, type_number}
use Rattle.gq_types.specs.declared.entry.TypeKind.{TypeKind}
use Rattle.gq_types.specs.declared.entry.TypeKind.TheVariants as kind
use Rattle.gq_table.specs.declared.values.Value.{Value}
use Rattle.gq_table.specs.declared.values.Entry.{Entry}
use Rattle.gq_table.specs.Views.{value_view, values_view, entry_view, entries_view, under}
use Rattle.gq_table.proofs.SameLemmas.{value_key}
use Rattle.gq_coerce.specs.Coerced as coerced
use Rattle.gq_coerce.specs.Coerced.{Coerced, alone, unnamed, wrapped, items_of, list_value, part_named}
use Rattle.gq_coerce.specs.Literals.{Setting, input_part, inputs_from, input_fields, or_default, unless_null}
use Rattle.gq_coerce.specs.Variables.{variable_part, scalar_input, is_known, spelled_in, at_name, formed, at_type, read_all, input_value, is_list_value, is_object_value, has_unknown}
use Rattle.gq_coerce.specs.Helping.Views.{inputs_view}
use Rattle.gq_coerce.specs.Helping.Heights.{height, raw_weight}
use Rattle.gq_coerce.specs.Helping.Readings.{given_raw}
use Rattle.gq_coerce.specs.Helping.Wrapping.{wrapped_to}

-- the part that a value in a list is
abbrev pub raw_part : Setting → TypeOf Span → Value → coerced.Part
raw_part s t v = record { key = None; is = input_value s t (value_view v) }

module _ (s : Setting) (t : TypeOf Span) where
  pub raw_items_read : (vs : List Value) → read_all s (values_view vs) t ≡ map (raw_part s t) vs
  raw_items_read [] = refl
  raw_items_read (v ∷ vs) =
      ap (λ (k : Option Text). let p : coerced.Part = record { key = k; is = input_value s t (value_view v) } in p ∷ read_all s (values_view vs) t) (value_key v)
      ∙ ap (λ ps. raw_part s t v ∷ ps) (raw_items_read vs)

  -- what is read of the entry of a name
  raw_named_by : (name : Text) (e : Entry) (es : List Entry) (b : Bool) → part_named name (read_all s (entries_view es) t) ≡ given_raw s t (entry_of name (entries_view es)) →
      cond b (input_value s t (value_view e.value)) (part_named name (read_all s (entries_view es) t)) ≡ given_raw s t (cond b (Some (entry_view e)) (entry_of name (entries_view es)))
  raw_named_by name e es true rest = refl
  raw_named_by name e es false rest = rest

  pub raw_named : (name : Text) (es : List Entry) → part_named name (read_all s (entries_view es) t) ≡ given_raw s t (entry_of name (entries_view es))
  raw_named name [] = refl
  raw_named name (e ∷ es) = raw_named_by name e es (bytes_eq name e.name) (raw_named name es)

  -- a name is forgotten in what is read
  pub unnamed_read : (name : Text) (o : Option value.Value) → given_raw s t (option_map (under name) o) ≡ given_raw s t o
  unnamed_read name None = refl
  unnamed_read name (Some v) = refl

-- the part that an input field is, by its definition
abbrev pub raw_input_of : Setting → List Entry → Bor InputValueDefinition → coerced.Part
raw_input_of s es d = input_part s (read_all s (entries_view es)) (input_view d.now)

pub raw_inputs_read : (s : Setting) (es : List Entry) (ds : List (Bor InputValueDefinition)) → map (raw_input_of s es) ds ≡ inputs_from s (inputs_view ds) (read_all s (entries_view es))
raw_inputs_read s es [] = refl
raw_inputs_read s es (d ∷ ds) = ap (λ rest. raw_input_of s es d ∷ rest) (raw_inputs_read s es ds)

seen_through : (name : Text) (o : Option (Bor Value)) → option_map (λ v. under name (value_view v.now)) o ≡ option_map (under name) (option_map (λ v. value_view v.now) o)
seen_through name None = refl
seen_through name (Some v) = refl

pub raw_reads : (s : Setting) (es : List Entry) (d : Bor InputValueDefinition) (name : Text) (o : Option (Bor Value)) (c : Coerced) → name ≡ d.now.name.text →
    option_map (λ v. under name (value_view v.now)) o ≡ entry_of name (entries_view es) →
    c ≡ or_default s (type_view d.now.type_ref) (option_map literal_view d.now.default) (given_raw s (type_view d.now.type_ref) (option_map (λ v. value_view v.now) o)) → c ≡ (raw_input_of s es d).is
raw_reads s es d name o c is found reads =
    let t = type_view d.now.type_ref in
    reads ∙ ap (λ x. or_default s t (option_map literal_view d.now.default) x)
    (sym (unnamed_read s t name (option_map (λ v. value_view v.now) o)) ∙ ap (given_raw s t) (sym (seen_through name o) ∙ found) ∙ sym (raw_named s t name es) ∙ ap (λ n. part_named n (read_all s (entries_view es) t)) is)

-- what a value is at a type
module _ (s : Setting) (below : value.Values) (parts : TypeOf Span → List coerced.Part) where
  pub raw_formed_single : (t : TypeOf Span) (says : value.Says) → is_list_value says ≡ false → formed s t says below parts ≡ wrapped_to t (at_name s (base_name t) (kind_named s.entries (base_name t)) says below parts)
  raw_formed_single (named name) says fails = refl
  raw_formed_single (list_of item) says fails =
      ap (λ (b : Bool). cond b (list_value (items_of coerced.fault (parts item))) (wrapped (formed s item says below parts))) fails ∙ ap wrapped (raw_formed_single item says fails)
  raw_formed_single (non_null inner) says fails = raw_formed_single inner says fails

  pub raw_formed_list : (t item : TypeOf Span) (says : value.Says) → is_list_value says ≡ true → item_of t ≡ Some item → formed s t says below parts ≡ list_value (items_of coerced.fault (parts item))
  raw_formed_list (named name) item says holds is = absurd (none-some item is)
  raw_formed_list (list_of one) item says holds is =
      ap (λ (b : Bool). cond b (list_value (items_of coerced.fault (parts one))) (wrapped (formed s one says below parts))) holds ∙ ap (λ (i : TypeOf Span). list_value (items_of coerced.fault (parts i))) (same_Some one item is)
  raw_formed_list (non_null inner) item says holds is = raw_formed_list inner item says holds is

  pub raw_formed_named : (t : TypeOf Span) (says : value.Says) → item_of t ≡ None → formed s t says below parts ≡ at_name s (base_name t) (kind_named s.entries (base_name t)) says below parts
  raw_formed_named (named name) says nothing = refl
  raw_formed_named (list_of one) says nothing = absurd (none-some one (sym nothing))
  raw_formed_named (non_null inner) says nothing = raw_formed_named inner says nothing

-- neither a list nor null
abbrev pub is_raw_single : value.Says → Bool
is_raw_single value.null = false
is_raw_single value.list = false
is_raw_single _ = true

module _ (s : Setting) (t : TypeOf Span) (v : value.Value) where
  single_by : (says : value.Says) → is_raw_single says ≡ true → at_type s t says v.below (read_all s v.below) ≡ wrapped_to t (at_name s (base_name t) (kind_named s.entries (base_name t)) says v.below (read_all s v.below))
  single_by value.null is = absurd (cc)
  single_by value.list is = absurd (cc)
  single_by (value.leaf l) is = raw_formed_single s v.below (read_all s v.below) t (value.leaf l) refl
  single_by (value.enum n) is = raw_formed_single s v.below (read_all s v.below) t (value.enum n) refl
  single_by value.object is = raw_formed_single s v.below (read_all s v.below) t value.object refl

  pub raw_single : is_raw_single v.label.says ≡ true → input_value s t v ≡ wrapped_to t (at_name s (base_name t) (kind_named s.entries (base_name t)) v.label.says v.below (read_all s v.below))
  raw_single is = single_by v.label.says is

  pub raw_null : v.label.says ≡ value.null → input_value s t v ≡ unless_null t coerced.null_value
  raw_null is = ap (λ says. at_type s t says v.below (read_all s v.below)) is

  pub raw_list : (items : value.Values) (item : TypeOf Span) → v ≡ alone value.list items → item_of t ≡ Some item → input_value s t v ≡ list_value (items_of coerced.fault (read_all s items item))
  raw_list items item form is = ap (λ (w : value.Value). input_value s t w) form ∙ raw_formed_list s items (read_all s items) t item value.list refl is

  pub raw_list_named : (items : value.Values) → v ≡ alone value.list items → item_of t ≡ None → input_value s t v ≡ at_name s (base_name t) (kind_named s.entries (base_name t)) v.label.says v.below (read_all s v.below)
  raw_list_named items form is =
      ap (λ (w : value.Value). input_value s t w) form ∙ raw_formed_named s items (read_all s items) t value.list is
      ∙ sym (ap (λ (w : value.Value). at_name s (base_name t) (kind_named s.entries (base_name t)) w.label.says w.below (read_all s w.below)) form)

-- an object at an input object
module _ (s : Setting) (v : value.Value) (name : Text) (o : Option TypeKind) (found : o ≡ kind_named s.entries name) (is : o ≡ Some kind.InputObject) where
  abbrev at_object : value.Values → Coerced
  at_object entries = cond (has_unknown (input_fields s.entries name) entries) coerced.fault (coerced.object_value (coerced.entries_of (inputs_from s (input_fields s.entries name) (read_all s entries))))

  by_object : (entries : value.Values) → v ≡ alone value.object entries → at_name s name (kind_named s.entries name) v.label.says v.below (read_all s v.below) ≡ at_object entries
  by_object entries form =
      ap (λ k. at_name s name k v.label.says v.below (read_all s v.below)) (sym found ∙ is) ∙ ap (λ (w : value.Value). at_name s name (Some kind.InputObject) w.label.says w.below (read_all s w.below)) form

  pub raw_object : (entries : value.Values) → v ≡ alone value.object entries → has_unknown (input_fields s.entries name) entries ≡ false →
      coerced.object_value (coerced.entries_of (inputs_from s (input_fields s.entries name) (read_all s entries))) ≡ at_name s name (kind_named s.entries name) v.label.says v.below (read_all s v.below)
  raw_object entries form known = sym (by_object entries form ∙ ap (λ b. cond b coerced.fault (coerced.object_value (coerced.entries_of (inputs_from s (input_fields s.entries name) (read_all s entries))))) known)

  pub raw_unknown : (entries : value.Values) → v ≡ alone value.object entries → has_unknown (input_fields s.entries name) entries ≡ true → coerced.fault ≡ at_name s name (kind_named s.entries name) v.label.says v.below (read_all s v.below)
  raw_unknown entries form unknown = sym (by_object entries form ∙ ap (λ b. cond b coerced.fault (coerced.object_value (coerced.entries_of (inputs_from s (input_fields s.entries name) (read_all s entries))))) unknown)

  pub raw_no_object : is_object_value v.label.says ≡ false → coerced.fault ≡ at_name s name (kind_named s.entries name) v.label.says v.below (read_all s v.below)
  raw_no_object no_object =
      sym (ap (λ k. at_name s name k v.label.says v.below (read_all s v.below)) (sym found ∙ is) ∙ ap (λ b. cond b (at_object v.below) coerced.fault) no_object)

-- what stands in a row is less deep
pub raw_item_lower : (vs : List Value) (k : ℕ) (v : Value) → k < length vs → v ≡ get_or vs k v → height (value_view v).below < height (values_view vs)
raw_item_lower [] k v within is = absurd (omega (arith, within))
raw_item_lower (w ∷ vs) zero v within is = let e = ap (λ x. height (value_view x).below) is in omega (arith, e)
raw_item_lower (w ∷ vs) (suc k) v within is = let h = raw_item_lower vs k v (omega (arith, within)) is in omega (arith, h)

entry_by : (e : Entry) (es : List Entry) (o : Option value.Value) (b : Bool) → raw_weight o ≤ 8 * height (entries_view es) + 2 → raw_weight (cond b (Some (entry_view e)) o) ≤ 8 * height (entries_view (e ∷ es)) + 2
entry_by e es o true rest = omega arith
entry_by e es o false rest = omega (arith, rest)

entry_lower : (name : Text) (es : List Entry) → raw_weight (entry_of name (entries_view es)) ≤ 8 * height (entries_view es) + 2
entry_lower name [] = omega arith
entry_lower name (e ∷ es) = entry_by e es (entry_of name (entries_view es)) (bytes_eq name e.name) (entry_lower name es)

same_weight : (name : Text) (o : Option (Bor Value)) → raw_weight (option_map (λ v. value_view v.now) o) ≡ raw_weight (option_map (λ v. under name (value_view v.now)) o)
same_weight name None = refl
same_weight name (Some v) = refl

pub entry_call : (name : Text) (es : List Entry) (o : Option (Bor Value)) → option_map (λ v. under name (value_view v.now)) o ≡ entry_of name (entries_view es) → raw_weight (option_map (λ v. value_view v.now) o) < 8 * height (entries_view es) + 3
entry_call name es o found = let a = same_weight name o ∙ ap raw_weight found in let b = entry_lower name es in omega (arith, a, b)

-- a value at a custom scalar
pub raw_custom : (s : Setting) (v : value.Value) (name : Text) (o : Option TypeKind) → o ≡ kind_named s.entries name → o ≡ Some kind.Scalar → is_built_in_scalar name ≡ false →
    coerced.given (unnamed v) ≡ at_name s name (kind_named s.entries name) v.label.says v.below (read_all s v.below)
raw_custom s v name o found is custom =
    sym (ap (λ k. at_name s name k v.label.says v.below (read_all s v.below)) (sym found ∙ is) ∙ ap (λ b. cond b (scalar_input name v.label.says v.below) (coerced.given (unnamed v))) custom)

-- an entry of no input field
none_found : (key : Text) (is : List (In (InputOf Span))) → is_none (option_map (λ i. i.it) (find (λ i. bytes_eq key i.it.name.text) is)) ≡ not (list_any (λ i. bytes_eq key i.name.text) (map (λ i. i.it) is))
none_found key [] = refl
none_found key (i ∷ is) = by_test (bytes_eq key i.it.name.text) (none_found key is)
  where
    by_test : (b : Bool) → is_none (option_map (λ i. i.it) (find (λ i. bytes_eq key i.it.name.text) is)) ≡ not (list_any (λ i. bytes_eq key i.name.text) (map (λ i. i.it) is)) →
        is_none (option_map (λ i. i.it) (cond b (Some i) (find (λ i. bytes_eq key i.it.name.text) is))) ≡ not (b || list_any (λ i. bytes_eq key i.name.text) (map (λ i. i.it) is))
    by_test true h = refl
    by_test false h = h

unknown_by : (es : List EntryOf) (name key : Text) (o : Option ℕ) →
    is_none (option_and_then (λ number. option_map (λ i. i.it) (find (λ i. bytes_eq key i.it.name.text) (inputs_of es number))) o) ≡ not (is_known (option_map_or (λ number. map (λ i. i.it) (inputs_of es number)) o []) (Some key))
unknown_by es name key None = refl
unknown_by es name key (Some number) = none_found key (inputs_of es number)

pub unknown_is : (es : List EntryOf) (name key k : Text) (o : Option (InputOf Span)) → o ≡ input_named es name k → k ≡ key → is_none o ≡ not (is_known (input_fields es name) (Some key))
unknown_is es name key k o is same = ap is_none (is ∙ ap (input_named es name) same) ∙ unknown_by es name key (type_number es name)

pub several_entries : (es : List Entry) → 2 ≤ length es → coerced.fault ≡ spelled_in (entries_view es)
several_entries [] h = absurd (omega (arith, h))
several_entries (e ∷ []) h = absurd (omega (arith, h))
several_entries (e ∷ d ∷ es) h = refl

-- the part that a variable is, by its definition
abbrev pub variable_of : Setting → List Entry → VariableDefinition → coerced.Part
variable_of s es d = variable_part s (entries_view es) (variable_view d)

pub variables_read : (s : Setting) (es : List Entry) (ds : List VariableDefinition) → map (variable_of s es) ds ≡ map (variable_part s (entries_view es)) (map variable_view ds)
variables_read s es [] = refl
variables_read s es (d ∷ ds) = ap (λ rest. variable_of s es d ∷ rest) (variables_read s es ds)

pub variable_reads : (s : Setting) (es : List Entry) (d : VariableDefinition) (name : Text) (o : Option (Bor Value)) (c : Coerced) → name ≡ d.variable.name.text →
    option_map (λ v. under name (value_view v.now)) o ≡ entry_of name (entries_view es) →
    c ≡ or_default s (type_view d.type_ref) (option_map literal_view d.default) (given_raw s (type_view d.type_ref) (option_map (λ v. value_view v.now) o)) → c ≡ (variable_of s es d).is
variable_reads s es d name o c is found reads =
    let t = type_view d.type_ref in
    reads ∙ ap (λ x. or_default s t (option_map literal_view d.default) x)
    (sym (unnamed_read s t name (option_map (λ v. value_view v.now) o)) ∙ ap (given_raw s t) (sym (seen_through name o) ∙ found) ∙ ap (λ n. given_raw s t (entry_of n (entries_view es))) is)

-- entries in a row
pub in_row : (o : Option (Vec Entry Global)) → option_map (λ es. entries_view es.items) o ≡ option_map row (option_map (λ es. map entry_view es.items) o)
in_row None = refl
in_row (Some es) = refl
