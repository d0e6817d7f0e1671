-- What is coerced does not depend on the places in its type.
use Rattle.std.proofs.Common.{◌≡◌, Bool, List, ◌∷◌, Option, refl, ap, ◌∙◌}
use Rattle.std.specs.Prelude.{if◌then◌else◌}
use Rattle.std.specs.Option.{option_map}
use Rattle.gq_text.specs.declared.place.Span.{Span}
use Rattle.gq_tree.specs.Forest.{none, more}
use Rattle.gq_tree.specs.Plain as tree
use Rattle.gq_tree.specs.Plain.{NameOf, Vals, TypeOf, named, list_of, non_null, no_place, place_name, place_type}
use Rattle.gq_tree.specs.Wrapping.{is_non_null}
use Rattle.gq_types.specs.Joined.{kind_named}
use Rattle.gq_values.specs.Literals.{is_list}
use Rattle.gq_meaning.specs.Values as value
use Rattle.gq_meaning.specs.Values.{Text, Values}
use Rattle.gq_coerce.specs.Coerced.{Coerced, fault, null_value, Part, items_of, list_value, wrapped}
use Rattle.gq_coerce.specs.Literals as literals
use Rattle.gq_coerce.specs.Literals.{Says, Setting, ReadAt, at_type, at_any, missing_item, unless_null}
use Rattle.gq_coerce.specs.Variables as variables
use Rattle.gq_coerce.specs.Variables.{is_list_value}

-- the same type, places aside
pub data SameType : TypeOf Span → TypeOf Span → Type 0 where
  names : {n m : NameOf Span} → n.text ≡ m.text → SameType (named n) (named m)
  lists : {t u : TypeOf Span} → SameType t u → SameType (list_of t) (list_of u)
  non_nulls : {t u : TypeOf Span} → SameType t u → SameType (non_null t) (non_null u)

same_texts : (n m : NameOf Span) → ◌≡◌ {A = TypeOf (Unit {0})} (named (place_name no_place n)) (named (place_name no_place m)) → n.text ≡ m.text
same_texts n m e = (let f : ◌≡◌ {A = NameOf (Unit {0})} (place_name no_place n) (place_name no_place m) = cc in ap (λ (x : NameOf (Unit {0})). x.text) f)

pub same_type : (t u : TypeOf Span) → place_type no_place t ≡ place_type no_place u → SameType t u
same_type (named n) (named m) e = names (same_texts n m e)
same_type (named n) (list_of u) e = absurd (cc)
same_type (named n) (non_null u) e = absurd (cc)
same_type (list_of t) (named m) e = absurd (cc)
same_type (list_of t) (list_of u) e = lists (same_type t u (cc))
same_type (list_of t) (non_null u) e = absurd (cc)
same_type (non_null t) (named m) e = absurd (cc)
same_type (non_null t) (list_of u) e = absurd (cc)
same_type (non_null t) (non_null u) e = non_nulls (same_type t u (cc))

pub same_null : {t u : TypeOf Span} → SameType t u → is_non_null t ≡ is_non_null u
same_null (names e) = refl
same_null (lists s) = refl
same_null (non_nulls s) = refl

unless_same : {t u : TypeOf Span} → SameType t u → (c : Coerced) → unless_null t c ≡ unless_null u c
unless_same s Coerced.absent = refl
unless_same s Coerced.fault = refl
unless_same s (Coerced.given v) = ap (λ (b : Bool). if b then (if value.is_null v.label.says then fault else Coerced.given v) else Coerced.given v) (same_null s)

-- literals
module _ (s : Setting) where
  module _ (says : Says) (parts : ReadAt → List Part) (at : (t u : TypeOf Span) → SameType t u → parts (at_type t) ≡ parts (at_type u)) where
    literal_formed : {t u : TypeOf Span} → SameType t u → literals.formed s t says parts ≡ literals.formed s u says parts
    literal_formed (names e) = ap (λ (text : Text). literals.at_name s text (kind_named s.entries text) says parts) e
    literal_formed (lists {t = t} {u = u} same) =
        ap (λ (b : Bool). if is_list says then list_value (items_of (if b then fault else null_value) (parts (at_type t))) else wrapped (literals.formed s t says parts)) (same_null same)
        ∙ ap (λ (ps : List Part). if is_list says then list_value (items_of (missing_item u) ps) else wrapped (literals.formed s t says parts)) (at t u same)
        ∙ ap (λ (c : Coerced). if is_list says then list_value (items_of (missing_item u) (parts (at_type u))) else wrapped c) (literal_formed same)
    literal_formed (non_nulls same) = literal_formed same

  literal_typed : {t u : TypeOf Span} → SameType t u → (says : Says) (parts : ReadAt → List Part) → ((p q : TypeOf Span) → SameType p q → parts (at_type p) ≡ parts (at_type q)) → literals.at_type_value s t says parts ≡ literals.at_type_value s u says parts
  literal_typed same (tree.variable n place) parts at = unless_same same (literals.variable_value s.variables n.text)
  literal_typed same (tree.null place) parts at = unless_same same null_value
  literal_typed same (tree.int text place) parts at = literal_formed (tree.int text place) parts at same
  literal_typed same (tree.float text place) parts at = literal_formed (tree.float text place) parts at same
  literal_typed same (tree.string text place) parts at = literal_formed (tree.string text place) parts at same
  literal_typed same (tree.boolean value place) parts at = literal_formed (tree.boolean value place) parts at same
  literal_typed same (tree.enum name) parts at = literal_formed (tree.enum name) parts at same
  literal_typed same (tree.list place) parts at = literal_formed (tree.list place) parts at same
  literal_typed same (tree.object place) parts at = literal_formed (tree.object place) parts at same

  pub literal_read : (vs : Vals (Unit {0})) {t u : TypeOf Span} → SameType t u → literals.read_all s vs (at_type t) ≡ literals.read_all s vs (at_type u)
  literal_read none same = refl
  literal_read (more part below rest) {t = t} {u = u} same =
      let key : Option Text = option_map (λ n. n.text) part.key in
      ap (λ (c : Coerced). let p : Part = record { key = key; is = c } in p ∷ literals.read_all s rest (at_type t)) (literal_typed same part.says (literals.read_all s below) (λ p q h. literal_read below h))
      ∙ ap (λ (ps : List Part). let p : Part = record { key = key; is = literals.at_type_value s u part.says (literals.read_all s below) } in p ∷ ps) (literal_read rest same)

  pub literal_same : {t u : TypeOf Span} → SameType t u → (v : tree.Val (Unit {0})) → literals.literal_value s t v ≡ literals.literal_value s u v
  literal_same same v = literal_typed same v.label.says (literals.read_all s v.below) (λ p q h. literal_read v.below h)

-- values that are given
module _ (s : Setting) where
  module _ (says : value.Says) (below : Values) (parts : TypeOf Span → List Part) (at : (t u : TypeOf Span) → SameType t u → parts t ≡ parts u) where
    given_formed : {t u : TypeOf Span} → SameType t u → variables.formed s t says below parts ≡ variables.formed s u says below parts
    given_formed (names e) = ap (λ (text : Text). variables.at_name s text (kind_named s.entries text) says below parts) e
    given_formed (lists {t = t} {u = u} same) =
        ap (λ (ps : List Part). if is_list_value says then list_value (items_of fault ps) else wrapped (variables.formed s t says below parts)) (at t u same)
        ∙ ap (λ (c : Coerced). if is_list_value says then list_value (items_of fault (parts u)) else wrapped c) (given_formed same)
    given_formed (non_nulls same) = given_formed same

  given_typed : {t u : TypeOf Span} → SameType t u → (says : value.Says) (below : Values) (parts : TypeOf Span → List Part) → ((p q : TypeOf Span) → SameType p q → parts p ≡ parts q) → variables.at_type s t says below parts ≡ variables.at_type s u says below parts
  given_typed same value.null below parts at = unless_same same null_value
  given_typed same (value.leaf v) below parts at = given_formed (value.leaf v) below parts at same
  given_typed same (value.enum n) below parts at = given_formed (value.enum n) below parts at same
  given_typed same value.list below parts at = given_formed value.list below parts at same
  given_typed same value.object below parts at = given_formed value.object below parts at same

  given_read : (vs : Values) {t u : TypeOf Span} → SameType t u → variables.read_all s vs t ≡ variables.read_all s vs u
  given_read none same = refl
  given_read (more part below rest) {t = t} {u = u} same =
      ap (λ (c : Coerced). let p : Part = record { key = part.key; is = c } in p ∷ variables.read_all s rest t) (given_typed same part.says below (variables.read_all s below) (λ p q h. given_read below h))
      ∙ ap (λ (ps : List Part). let p : Part = record { key = part.key; is = variables.at_type s u part.says below (variables.read_all s below) } in p ∷ ps) (given_read rest same)

  pub input_same : {t u : TypeOf Span} → SameType t u → (v : value.Value) → variables.input_value s t v ≡ variables.input_value s u v
  input_same same v = given_typed same v.label.says v.below (variables.read_all s v.below) (λ p q h. given_read v.below h)
