-- The forms of literals, and of what is coerced at a type.
use Rattle.std.proofs.Common.{◌≡◌, ℕ, zero, suc, ◌-◌, arith, Bool, true, false, cond, not, List, [], ◌∷◌, map, Option, Some, None, refl, ap, sym, ◌∙◌, Vec, Global}
use Rattle.std.proofs.lemmas.Option.{same_Some, none-some}
use Rattle.gq_text.specs.declared.place.Span.{Span}
use Rattle.gq_tree.specs.Forest.{Forest, Tree, none, more, row, relabel, relabel_tree}
use Rattle.gq_tree.specs.Plain as tree
use Rattle.gq_tree.specs.Plain.{Part, Val, Vals, TypeOf, named, list_of, non_null, unnamed, erase_values, no_place, place_part, place_value}
use Rattle.gq_tree.specs.Views.{value_view, values_view, entry_view, entries_view}
use Rattle.gq_tree.specs.declared.value.Value.{Value}
use Rattle.gq_tree.specs.declared.value.ObjectField.{ObjectField}
use Rattle.gq_tree.specs.declared.value.Value.TheVariants as variant
use Rattle.gq_tree.proofs.Trees.{view_list, view_object}
use Rattle.gq_tree.specs.Wrapping.{item_of}
use Rattle.gq_tree.specs.NamedTypes.{base_name}
use Rattle.gq_meaning.specs.Values.{Text, Values}
use Rattle.gq_types.specs.Entries.{EntryOf}
use Rattle.gq_types.specs.declared.entry.TypeKind.{TypeKind}
use Rattle.gq_types.specs.declared.entry.TypeKind.TheVariants as kind
use Rattle.gq_types.specs.Joined.{kind_named}
use Rattle.gq_values.specs.Literals.{is_list}
use Rattle.gq_coerce.specs.Coerced as coerced
use Rattle.gq_coerce.specs.Coerced.{Coerced, wrapped, items_of, list_value}
use Rattle.gq_coerce.specs.Literals.{Says, Setting, ReadAt, at_type, at_name, formed, missing_item, at_type_value, literal_value, read_all, unless_null, inputs_from, input_fields, default_within}
use Rattle.gq_coerce.specs.Helping.Views.{bare}
use Rattle.gq_coerce.specs.Helping.Wrapping.{wrapped_to}
use Rattle.gq_coerce.specs.Helping.Forms.{is_single}

-- places are forgotten in each of several trees
pub relabel_row : {L M : Type 0} (f : L → M) (ts : List (Tree L)) → relabel f (row ts) ≡ row (map (relabel_tree f) ts)
relabel_row f [] = refl
relabel_row f (t ∷ ts) = ap (λ rest. more (f t.label) (relabel f t.below) rest) (relabel_row f ts)

bare_row : (vs : List Value) → relabel (place_part no_place) (row (map value_view vs)) ≡ row (map bare vs)
bare_row [] = refl
bare_row (v ∷ vs) = ap (λ rest. more (place_part no_place (value_view v).label) (relabel (place_part no_place) (value_view v).below) rest) (bare_row vs)

abbrev list_over : Vals (Unit {0}) → Val (Unit {0})
list_over below = unnamed (tree.list tt) below

abbrev object_over : Vals (Unit {0}) → Val (Unit {0})
object_over below = unnamed (tree.object tt) below

pub list_form : (v : Value) (vs : Vec Value Global) (place : Span) (now : List Value) → v ≡ variant.List vs place → now ≡ vs.items → bare v ≡ unnamed (tree.list tt) (row (map bare now))
list_form v vs place now is same =
    ap bare is ∙ ap (λ (w : Val Span). place_value no_place w) (view_list vs place) ∙ ap list_over (bare_row vs.items) ∙ ap (λ (ws : List Value). list_over (row (map bare ws))) (sym same)

pub object_form : (v : Value) (fs : Vec ObjectField Global) (place : Span) (now : List ObjectField) → v ≡ variant.Object fs place → now ≡ fs.items → bare v ≡ unnamed (tree.object tt) (row (erase_values (map entry_view now)))
object_form v fs place now is same =
    ap bare is ∙ ap (λ (w : Val Span). place_value no_place w) (view_object fs place) ∙ ap object_over (relabel_row (place_part no_place) (map entry_view fs.items))
    ∙ ap (λ (gs : List ObjectField). object_over (row (erase_values (map entry_view gs)))) (sym same)

-- what a literal is at a type, by its form
module _ (s : Setting) (parts : ReadAt → List coerced.Part) where
  pub formed_single : (t : TypeOf Span) (says : Says) → is_list says ≡ false → formed s t says parts ≡ wrapped_to t (at_name s (base_name t) (kind_named s.entries (base_name t)) says parts)
  formed_single (named name) says fails = refl
  formed_single (list_of item) says fails =
      ap (λ (b : Bool). cond b (list_value (items_of (missing_item item) (parts (at_type item)))) (wrapped (formed s item says parts))) fails ∙ ap wrapped (formed_single item says fails)
  formed_single (non_null inner) says fails = formed_single inner says fails

  pub formed_list : (t item : TypeOf Span) (says : Says) → is_list says ≡ true → item_of t ≡ Some item → formed s t says parts ≡ list_value (items_of (missing_item item) (parts (at_type item)))
  formed_list (named name) item says holds is = absurd (none-some item is)
  formed_list (list_of one) item says holds is =
      ap (λ (b : Bool). cond b (list_value (items_of (missing_item one) (parts (at_type one)))) (wrapped (formed s one says parts))) holds
      ∙ ap (λ (i : TypeOf Span). list_value (items_of (missing_item i) (parts (at_type i)))) (same_Some one item is)
  formed_list (non_null inner) item says holds is = formed_list inner item says holds is

  pub formed_named : (t : TypeOf Span) (says : Says) → item_of t ≡ None → formed s t says parts ≡ at_name s (base_name t) (kind_named s.entries (base_name t)) says parts
  formed_named (named name) says nothing = refl
  formed_named (list_of one) says nothing = absurd (none-some one (sym nothing))
  formed_named (non_null inner) says nothing = formed_named inner says nothing

  -- a single literal is no variable, no list and not null
  pub single_formed : (t : TypeOf Span) (says : Says) → is_single says ≡ true → at_type_value s t says parts ≡ formed s t says parts
  single_formed t (tree.variable n place) holds = absurd (cc)
  single_formed t (tree.null place) holds = absurd (cc)
  single_formed t (tree.int text place) holds = refl
  single_formed t (tree.float text place) holds = refl
  single_formed t (tree.string text place) holds = refl
  single_formed t (tree.boolean b place) holds = refl
  single_formed t (tree.enum n) holds = refl
  single_formed t (tree.list place) holds = refl
  single_formed t (tree.object place) holds = refl

pub single_no_list : (says : Says) → is_single says ≡ true → is_list says ≡ false
single_no_list (tree.variable n place) holds = refl
single_no_list (tree.null place) holds = refl
single_no_list (tree.int text place) holds = refl
single_no_list (tree.float text place) holds = refl
single_no_list (tree.string text place) holds = refl
single_no_list (tree.boolean b place) holds = refl
single_no_list (tree.enum n) holds = refl
single_no_list (tree.list place) holds = absurd (cc)
single_no_list (tree.object place) holds = refl

-- a literal at a type, by its form
module _ (s : Setting) (t : TypeOf Span) (v : Val (Unit {0})) where
  pub literal_null : v.label.says ≡ tree.null tt → literal_value s t v ≡ unless_null t coerced.null_value
  literal_null is = ap (λ says. at_type_value s t says (read_all s v.below)) is

  pub literal_list : (items : Vals (Unit {0})) (item : TypeOf Span) → v ≡ unnamed (tree.list tt) items → item_of t ≡ Some item → literal_value s t v ≡ list_value (items_of (missing_item item) (read_all s items (at_type item)))
  literal_list items item form is = ap (λ (w : Val (Unit {0})). literal_value s t w) form ∙ formed_list s (read_all s items) t item (tree.list tt) refl is

  pub literal_named : (items : Vals (Unit {0})) → v ≡ unnamed (tree.list tt) items → item_of t ≡ None → literal_value s t v ≡ at_name s (base_name t) (kind_named s.entries (base_name t)) v.label.says (read_all s v.below)
  literal_named items form is =
      ap (λ (w : Val (Unit {0})). literal_value s t w) form ∙ formed_named s (read_all s items) t (tree.list tt) is
      ∙ sym (ap (λ (w : Val (Unit {0})). at_name s (base_name t) (kind_named s.entries (base_name t)) w.label.says (read_all s w.below)) form)

  pub literal_single : is_single v.label.says ≡ true → literal_value s t v ≡ wrapped_to t (at_name s (base_name t) (kind_named s.entries (base_name t)) v.label.says (read_all s v.below))
  literal_single is = single_formed s (read_all s v.below) t v.label.says is ∙ formed_single s (read_all s v.below) t v.label.says (single_no_list v.label.says is)

-- an object literal at an input object
module _ (s : Setting) (v : Val (Unit {0})) where
  pub object_at : (name : Text) (o : Option TypeKind) (fields : Vals (Unit {0})) → o ≡ kind_named s.entries name → o ≡ Some kind.InputObject → v ≡ unnamed (tree.object tt) fields →
      coerced.object_value (coerced.entries_of (inputs_from s (input_fields s.entries name) (λ u. read_all s fields (at_type u)))) ≡ at_name s name (kind_named s.entries name) v.label.says (read_all s v.below)
  object_at name o fields found is form =
      sym (ap (λ k. at_name s name k v.label.says (read_all s v.below)) (sym found ∙ is) ∙ ap (λ (w : Val (Unit {0})). at_name s name (Some kind.InputObject) w.label.says (read_all s w.below)) form)

-- what an item is where it is absent, by whether there is null
pub missing_is : (b : Bool) → cond (not b) coerced.null_value coerced.fault ≡ cond b coerced.fault coerced.null_value
missing_is true = refl
missing_is false = refl

-- the literal of a default
pub default_entered : (es entries : List EntryOf) (vs : Values) (n m : ℕ) (t : TypeOf Span) (v : Val Span) → entries ≡ es → vs ≡ none → m ≡ n - 1 → (n ≡ 0 → ⊥) →
    literal_value (record { entries = entries; variables = vs; default = default_within m entries }) t (place_value no_place v) ≡ default_within n es t (Some v)
default_entered es entries vs zero m t v a b c h = absurd (h refl)
default_entered es entries vs (suc n) m t v a b c h =
    let d : m ≡ n = omega (arith, c) in
    ap (λ (k : ℕ). literal_value (record { entries = entries; variables = vs; default = default_within k entries }) t (place_value no_place v)) d
    ∙ ap (λ (x : Values). literal_value (record { entries = entries; variables = x; default = default_within n entries }) t (place_value no_place v)) b
    ∙ ap (λ (x : List EntryOf). literal_value (record { entries = x; variables = none; default = default_within n x }) t (place_value no_place v)) a
