-- Trees are the same but for places where their parts are.
use Rattle.std.proofs.Common.{◌≡◌, List, [], ◌∷◌, map, refl, sym, ◌∙◌, ap, Option, Some, None, Bool, true, false, not, Vec, Global}
use Rattle.std.specs.Bool.{beq}
use Rattle.std.specs.Option.{option_map}
use Rattle.gq_tree.specs.Plain.{no_place, place_name, place_value, place_type, place_directive, place_input, place_field, place_enum_value, place_root, place_body, place_type_system, union_type, enum_type, input_type}
use Rattle.gq_tree.specs.Views.{name_of, literal_view, value_view, type_view, directive_view, input_view, field_definition_view, enum_value_view, root_view, body_view, type_system_view}
use Rattle.gq_tree.specs.declared.tree.Name.{Name}
use Rattle.gq_tree.specs.declared.type_system.DirectiveDefinition.{DirectiveDefinition}
use Rattle.gq_tree.specs.declared.type_system.EnumValueDefinition.{EnumValueDefinition}
use Rattle.gq_tree.specs.declared.type_system.FieldDefinition.{FieldDefinition}
use Rattle.gq_tree.specs.declared.type_system.FieldsAndInterfaces.{FieldsAndInterfaces}
use Rattle.gq_tree.specs.declared.type_system.InputValueDefinition.{InputValueDefinition}
use Rattle.gq_tree.specs.declared.type_system.SchemaDefinition.{SchemaDefinition}
use Rattle.gq_tree.specs.declared.type_system.TypeBody.{TypeBody}
use Rattle.gq_tree.specs.declared.type_system.TypeBody.TheVariants as body
use Rattle.gq_tree.specs.declared.type_system.TypeDefinition.{TypeDefinition}
use Rattle.gq_tree.specs.declared.type_system.TypeSystemDefinition.TheVariants as definition
use Rattle.gq_types.specs.Entries.{Text}
use Rattle.gq_laws.specs.Placing.OtherFields.{fields_without, body_without, definition_without}

fused : {A B C : Type 0} (f : B → C) (g : A → B) (xs : List A) → map f (map g xs) ≡ map (λ x. f (g x)) xs
fused f g [] = refl
fused f g (x ∷ xs) = ap (λ r. f (g x) ∷ r) (fused f g xs)

option_fused : {A B C : Type 0} (f : B → C) (g : A → B) (o : Option A) → option_map f (option_map g o) ≡ option_map (λ x. f (g x)) o
option_fused f g None = refl
option_fused f g (Some x) = refl

itself : {A : Type 0} (xs : List A) → map (λ x. x) xs ≡ xs
itself [] = refl
itself (x ∷ xs) = ap (λ r. x ∷ r) (itself xs)

pub same_flags : (a b : Bool) → not (beq a b) ≡ false → a ≡ b
same_flags true true h = refl
same_flags true false h = h
same_flags false true h = sym h
same_flags false false h = refl

-- what a test of two lists ensures
pub alike_lists : {A B C : Type 0} (f : B → C) (g : A → B) (xs ys xs' ys' : List A) (b : Bool) → xs' ≡ xs → ys' ≡ ys →
    (b ≡ true → map (λ x. f (g x)) xs' ≡ map (λ x. f (g x)) ys') → b ≡ true →
    map f (map g xs) ≡ map f (map g ys)
alike_lists f g xs ys xs' ys' b e e' h t = fused f g xs ∙ ap (map (λ x. f (g x))) (sym e) ∙ h t ∙ ap (map (λ x. f (g x))) e' ∙ sym (fused f g ys)

pub same_lists : {A : Type 0} (xs ys xs' ys' : List A) (b : Bool) → xs' ≡ xs → ys' ≡ ys → (b ≡ true → map (λ x. x) xs' ≡ map (λ x. x) ys') → b ≡ true → xs ≡ ys
same_lists xs ys xs' ys' b e e' h t = sym e ∙ sym (itself xs') ∙ h t ∙ itself ys' ∙ e'

-- and one of what may be left out
pub alike_options : {A B C : Type 0} (f : B → C) (g : A → B) (o p : Option A) (b : Bool) → (b ≡ true → option_map (λ x. f (g x)) o ≡ option_map (λ x. f (g x)) p) → b ≡ true →
    option_map f (option_map g o) ≡ option_map f (option_map g p)
alike_options f g o p b h t = option_fused f g o ∙ h t ∙ sym (option_fused f g p)

pub enum_values_alike : (v w : EnumValueDefinition) → place_name no_place (name_of v.name) ≡ place_name no_place (name_of w.name) →
    map (place_directive no_place) (map directive_view v.directives.items) ≡ map (place_directive no_place) (map directive_view w.directives.items) →
    option_map (place_name no_place) (option_map literal_view v.description) ≡ option_map (place_name no_place) (option_map literal_view w.description) →
    place_enum_value no_place (enum_value_view v) ≡ place_enum_value no_place (enum_value_view w)
enum_values_alike v w names directives descriptions = cc

pub inputs_alike : (i j : InputValueDefinition) → place_name no_place (name_of i.name) ≡ place_name no_place (name_of j.name) →
    place_type no_place (type_view i.type_ref) ≡ place_type no_place (type_view j.type_ref) →
    option_map (place_value no_place) (option_map value_view i.default) ≡ option_map (place_value no_place) (option_map value_view j.default) →
    map (place_directive no_place) (map directive_view i.directives.items) ≡ map (place_directive no_place) (map directive_view j.directives.items) →
    option_map (place_name no_place) (option_map literal_view i.description) ≡ option_map (place_name no_place) (option_map literal_view j.description) →
    place_input no_place (input_view i) ≡ place_input no_place (input_view j)
inputs_alike i j names types defaults directives descriptions = cc

pub fields_alike : (d e : FieldDefinition) → place_name no_place (name_of d.name) ≡ place_name no_place (name_of e.name) →
    place_type no_place (type_view d.type_ref) ≡ place_type no_place (type_view e.type_ref) →
    map (place_input no_place) (map input_view d.arguments.items) ≡ map (place_input no_place) (map input_view e.arguments.items) →
    map (place_directive no_place) (map directive_view d.directives.items) ≡ map (place_directive no_place) (map directive_view e.directives.items) →
    option_map (place_name no_place) (option_map literal_view d.description) ≡ option_map (place_name no_place) (option_map literal_view e.description) →
    place_field no_place (field_definition_view d) ≡ place_field no_place (field_definition_view e)
fields_alike d e names types arguments directives descriptions = cc

pub schemas_alike : (s t : SchemaDefinition) → s.extends ≡ t.extends →
    option_map (place_name no_place) (option_map literal_view s.description) ≡ option_map (place_name no_place) (option_map literal_view t.description) →
    map (place_directive no_place) (map directive_view s.directives.items) ≡ map (place_directive no_place) (map directive_view t.directives.items) →
    map (place_root no_place) (map root_view s.roots.items) ≡ map (place_root no_place) (map root_view t.roots.items) →
    place_type_system no_place (type_system_view (definition.Schema s)) ≡ place_type_system no_place (type_system_view (definition.Schema t))
schemas_alike s t extends descriptions directives roots = cc

pub directives_alike : (d e : DirectiveDefinition) →
    option_map (place_name no_place) (option_map literal_view d.description) ≡ option_map (place_name no_place) (option_map literal_view e.description) →
    place_name no_place (name_of d.name) ≡ place_name no_place (name_of e.name) →
    map (place_input no_place) (map input_view d.arguments.items) ≡ map (place_input no_place) (map input_view e.arguments.items) → d.repeatable ≡ e.repeatable →
    d.locations.items ≡ e.locations.items →
    place_type_system no_place (type_system_view (definition.Directive d)) ≡ place_type_system no_place (type_system_view (definition.Directive e))
directives_alike d e descriptions names arguments repeatable locations = cc

-- bodies of one kind
pub unions_alike : (one other : TypeBody) (ms ns : Vec Name Global) → one ≡ body.Union ms → other ≡ body.Union ns →
    map (place_name no_place) (map name_of ms.items) ≡ map (place_name no_place) (map name_of ns.items) →
    (texts : List Text) → place_body no_place (body_without texts (body_view one)) ≡ place_body no_place (body_without texts (body_view other))
unions_alike one other ms ns e f h texts = rw (e, f) (ap union_type h)

pub enums_alike : (one other : TypeBody) (vs ws : Vec EnumValueDefinition Global) → one ≡ body.Enum vs → other ≡ body.Enum ws →
    map (place_enum_value no_place) (map enum_value_view vs.items) ≡ map (place_enum_value no_place) (map enum_value_view ws.items) →
    (texts : List Text) → place_body no_place (body_without texts (body_view one)) ≡ place_body no_place (body_without texts (body_view other))
enums_alike one other vs ws e f h texts = rw (e, f) (ap enum_type h)

pub input_objects_alike : (one other : TypeBody) (is js : Vec InputValueDefinition Global) → one ≡ body.InputObject is → other ≡ body.InputObject js →
    map (place_input no_place) (map input_view is.items) ≡ map (place_input no_place) (map input_view js.items) →
    (texts : List Text) → place_body no_place (body_without texts (body_view one)) ≡ place_body no_place (body_without texts (body_view other))
input_objects_alike one other is js e f h texts = rw (e, f) (ap input_type h)

-- a type whose fields are alike without those of some names, and whose interfaces are
pub parts_alike : (one other : FieldsAndInterfaces) → map (place_name no_place) (map name_of one.interfaces.items) ≡ map (place_name no_place) (map name_of other.interfaces.items) →
    (texts : List Text) →
    map (place_field no_place) (fields_without texts (map field_definition_view one.fields.items)) ≡
    map (place_field no_place) (fields_without texts (map field_definition_view other.fields.items)) →
    (place_body no_place (body_without texts (body_view (body.Object one))) ≡ place_body no_place (body_without texts (body_view (body.Object other))))
    × (place_body no_place (body_without texts (body_view (body.Interface one))) ≡ place_body no_place (body_without texts (body_view (body.Interface other))))
parts_alike one other interfaces texts fields = (cc, cc)

pub definitions_alike : (t u : TypeDefinition) → t.extends ≡ u.extends → place_name no_place (name_of t.name) ≡ place_name no_place (name_of u.name) →
    map (place_directive no_place) (map directive_view t.directives.items) ≡ map (place_directive no_place) (map directive_view u.directives.items) →
    (texts : List Text) → place_body no_place (body_without texts (body_view t.body)) ≡ place_body no_place (body_without texts (body_view u.body)) →
    place_type_system no_place (definition_without texts (type_system_view (definition.Type t))) ≡ place_type_system no_place (definition_without texts (type_system_view (definition.Type u)))
definitions_alike t u extends names directives texts bodies = cc
