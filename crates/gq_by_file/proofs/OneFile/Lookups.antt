-- Literals, arguments, directives and selections over type systems in which each look-up finds the same.
use Rattle.std.proofs.Common.{◌≡◌, ℕ, false, List, Option, Some, None, refl, sym, ap, ◌∙◌, subst}
use Rattle.std.specs.Prelude.{◌||◌, if◌then◌else◌}
use Rattle.std.specs.Str.{bytes_eq}
use Rattle.std.specs.Option.{option_map, option_map_or}
use Rattle.gq_text.specs.declared.place.Span.{Span}
use Rattle.gq_tree.specs.declared.tree.OperationKind.{OperationKind}
use Rattle.gq_tree.specs.declared.type_system.DirectiveLocation.{DirectiveLocation}
use Rattle.gq_tree.specs.Plain.{NameOf, TypeOf, named, list_of, non_null, InputOf, Says, Val, Vals, DirectiveOf, Head, Sel, Sels, variable, int, float, string, boolean, null, enum, list, object, field, spread, inline}
use Rattle.gq_tree.specs.NamedTypes.{base_name}
use Rattle.gq_tree.specs.Wrapping.{is_null}
use Rattle.gq_fault.specs.declared.fault.Fault.{Fault}
use Rattle.gq_types.specs.declared.entry.TypeKind.{TypeKind}
use Rattle.gq_types.specs.declared.entry.TypeKind.TheVariants as kinds
use Rattle.gq_types.specs.Kinds.{is_input, is_composite}
use Rattle.gq_types.specs.Entries.{Text, EntryOf}
use Rattle.gq_types.specs.Arguments.{arguments_in, directive_arguments}
use Rattle.gq_types.specs.Joined.{kind_named}
use Rattle.gq_types.specs.Names.{field_named, input_named, has_value, has_member, declares, directive_named}
use Rattle.gq_types.specs.Roots.{root_of}
use Rattle.gq_values.specs.Literals.{fits, fits_kind, fits_enum, is_list, Expected, at_type, at_any, is_input_type, default_at, is_input_object, input_object_at, at_input, at_field, field_at, part_at, StandsIn, here, within, after}
use Rattle.gq_values.specs.LiteralFaults.{IsFaultOf, wrong_value, unknown_field, field_not_unique, field_missing, IsLiteralFault}
use Rattle.gq_values.specs.ArgumentFaults.{IsArgumentFault, unknown_argument, argument_not_unique, argument_missing, fault_in_value}
use Rattle.gq_values.specs.DirectiveFaults.{IsDirectiveFault, unknown_directive, directive_in_wrong_place, directive_repeated, fault_in_arguments}
use Rattle.gq_document.specs.Definitions.{OperationOf, FragmentOf}
use Rattle.gq_document.specs.Selections.{FieldOf, typename, typename_field, is_composite_named, field_on, selected_field, parent_below, SelectedOf, IsSelectionWithin, IsOfOperation, IsOfFragment, IsSelected}
use Rattle.gq_document.specs.Selections as selections

-- What the rules ask of a type system.
pub record SameLookups (es us : List EntryOf) : Type 0 where
  pub kind : (text : Text) → kind_named es text ≡ kind_named us text
  pub field : (type_name text : Text) → field_named es type_name text ≡ field_named us type_name text
  pub input : (type_name text : Text) → input_named es type_name text ≡ input_named us type_name text
  pub value : (type_name text : Text) → has_value es type_name text ≡ has_value us type_name text
  pub member : (type_name text : Text) → has_member es type_name text ≡ has_member us type_name text
  pub declared : (type_name text : Text) → declares es type_name text ≡ declares us type_name text
  pub directive : (text : Text) → directive_named es text ≡ directive_named us text
  pub root : (kind : OperationKind) → root_of es kind ≡ root_of us kind

pub turned : {es us : List EntryOf} → SameLookups es us → SameLookups us es
turned same = record {
  kind = λ text. sym (same.kind text);
  field = λ type_name text. sym (same.field type_name text);
  input = λ type_name text. sym (same.input type_name text);
  value = λ type_name text. sym (same.value type_name text);
  member = λ type_name text. sym (same.member type_name text);
  declared = λ type_name text. sym (same.declared type_name text);
  directive = λ text. sym (same.directive text);
  root = λ kind. sym (same.root kind);
}

module _ (es us : List EntryOf) (same : SameLookups es us) where
  -- literals
  enum_fits : (text : Text) (s : Says Span) → fits_enum es text s ≡ fits_enum us text s
  enum_fits text (enum name) = same.value text name.text
  enum_fits text (variable name place) = refl
  enum_fits text (null place) = refl
  enum_fits text (int spelling place) = refl
  enum_fits text (float spelling place) = refl
  enum_fits text (string spelling place) = refl
  enum_fits text (boolean value place) = refl
  enum_fits text (list place) = refl
  enum_fits text (object place) = refl

  kind_fits : (text : Text) (k : Option TypeKind) (s : Says Span) → fits_kind es text k s ≡ fits_kind us text k s
  kind_fits text (Some kinds.Enum) s = enum_fits text s
  kind_fits text (Some kinds.Scalar) s = refl
  kind_fits text (Some kinds.InputObject) s = refl
  kind_fits text (Some kinds.Object) s = refl
  kind_fits text (Some kinds.Interface) s = refl
  kind_fits text (Some kinds.Union) s = refl
  kind_fits text None s = refl

  pub type_fits : (t : TypeOf Span) (s : Says Span) → fits es t s ≡ fits us t s
  type_fits (named name) s = ap (λ k. fits_kind es name.text k s) (same.kind name.text) ∙ kind_fits name.text (kind_named us name.text) s
  type_fits (list_of item) s = ap (λ b. is_list s || is_null s || b) (type_fits item s)
  type_fits (non_null inner) s = ap (λ b. if is_null s then false else b) (type_fits inner s)

  pub input_types : (t : TypeOf Span) → is_input_type es t ≡ is_input_type us t
  input_types (named name) = ap (λ k. option_map_or is_input k false) (same.kind name.text)
  input_types (list_of item) = input_types item
  input_types (non_null inner) = input_types inner

  pub defaults : (t : TypeOf Span) → default_at es t ≡ default_at us t
  defaults t = ap (λ b. if b then at_type t else at_any) (input_types t)

  pub input_objects : (t : TypeOf Span) → input_object_at es t ≡ input_object_at us t
  input_objects (named name) = ap (λ k. if is_input_object k then Some name.text else None) (same.kind name.text)
  input_objects (list_of item) = input_objects item
  input_objects (non_null inner) = input_objects inner

  at_fields : (o : Option Text) (text : Text) → at_field es o text ≡ at_field us o text
  at_fields (Some type_name) text = ap at_input (same.input type_name text)
  at_fields None text = refl

  pub fields_at : (r : Expected) (text : Text) → field_at es r text ≡ field_at us r text
  fields_at (at_type t) text = ap (λ o. at_field es o text) (input_objects t) ∙ at_fields (input_object_at us t) text
  fields_at at_any text = refl

  parts : (r : Expected) (key : Option (NameOf Span)) → part_at es r key ≡ part_at us r key
  parts r None = refl
  parts r (Some key) = fields_at r key.text

  stands : {read : Option (NameOf Span) → Expected} {vs : Vals Span} {r : Expected} {v : Val Span} → StandsIn es read vs r v → StandsIn us read vs r v
  stands here = here
  stands (within {read = read} {part = part} {below = below} {reading = reading} {value = value} h) =
      let e : part_at es (read part.key) ≡ part_at us (read part.key) = λ i key. parts (read part.key) key i in
      within (subst (λ z. StandsIn us z below reading value) e (stands h))
  stands (after h) = after (stands h)

  pub arguments_of : (text : Text) → directive_arguments es text ≡ directive_arguments us text
  arguments_of text = ap (λ o. option_map arguments_in o) (same.directive text)

  module _ {n : ℕ} {f : Fault} where
    part : {r : Expected} {v : Val Span} → IsFaultOf es n r v f → IsFaultOf us n r v f
    part {v = v} (wrong_value {t = t} a b e) = wrong_value a (sym (type_fits t v.label.says) ∙ b) e
    part (unknown_field {t = t} {type_name = type_name} {name = name} a b c d g e) = unknown_field a (sym (input_objects t) ∙ b) c d (sym (same.input type_name name.text) ∙ g) e
    part (field_not_unique a b e) = field_not_unique a b e
    part (field_missing {t = t} {type_name = type_name} {text = text} a b c d g h e) = field_missing a (sym (input_objects t) ∙ b) c (sym (same.input type_name text) ∙ d) g h e

    pub literal : {r : Expected} {v : Val Span} → IsLiteralFault es n r v f → IsLiteralFault us n r v f
    literal h = record { inner = h.inner; part = h.part; stands = stands h.stands; fault = part h.fault }

    pub argument : {ds : Option (List (InputOf Span))} {name : NameOf Span} {arguments : List (Val Span)} → IsArgumentFault es n ds name arguments f → IsArgumentFault us n ds name arguments f
    argument (unknown_argument a b c e) = unknown_argument a b c e
    argument (argument_not_unique a e) = argument_not_unique a e
    argument (argument_missing a b c d e) = argument_missing a b c d e
    argument (fault_in_value a b h) = fault_in_value a b (literal h)

    pub directive : {location : DirectiveLocation} {before : List Text} {ds : List (DirectiveOf Span)} → IsDirectiveFault es n location before ds f → IsDirectiveFault us n location before ds f
    directive (unknown_directive {d = d} a b e) = unknown_directive a (sym (same.directive d.name.text) ∙ b) e
    directive (directive_in_wrong_place {d = d} a b c e) = directive_in_wrong_place a (sym (same.directive d.name.text) ∙ b) c e
    directive (directive_repeated {d = d} a b c e) = directive_repeated a (sym (same.directive d.name.text) ∙ b) c e
    directive (fault_in_arguments {d = d} a h) =
        fault_in_arguments a (subst (λ z. IsArgumentFault us n z d.name d.arguments f) (arguments_of d.name.text) (argument h))

  -- selections
  pub composites : (text : Text) → is_composite_named es text ≡ is_composite_named us text
  composites text = ap (λ k. option_map_or is_composite k false) (same.kind text)

  pub on : (type_name text : Text) → field_on es type_name text ≡ field_on us type_name text
  on type_name text =
      ap (λ b. if bytes_eq text typename then (if b then Some typename_field else None) else option_map (λ f. record { type_ref = f.type_ref; arguments = f.arguments }) (field_named es type_name text)) (composites type_name)
      ∙ ap (λ o. if bytes_eq text typename then (if is_composite_named us type_name then Some typename_field else None) else option_map (λ f. record { type_ref = f.type_ref; arguments = f.arguments }) o) (same.field type_name text)

  pub selected_on : (parent : Option Text) (text : Text) → selected_field es parent text ≡ selected_field us parent text
  selected_on None text = refl
  selected_on (Some type_name) text = on type_name text

  below_parent : (parent : Option Text) (head : Head Span) → parent_below es parent head ≡ parent_below us parent head
  below_parent parent (field alias name arguments directives braces place) = ap (λ (o : Option FieldOf). option_map (λ f. base_name f.type_ref) o) (selected_on parent name.text)
  below_parent parent (spread name directives place) = refl
  below_parent parent (inline None directives braces place) = refl
  below_parent parent (inline (Some condition) directives braces place) = refl

  selection : {parent inner : Option Text} {set : Sels Span} {s : Sel Span} → IsSelectionWithin es parent set inner s → IsSelectionWithin us parent set inner s
  selection selections.here = selections.here
  selection (selections.within {parent = parent} {inner = inner} {head = head} {below = below} {selection = s} h) =
      selections.within (subst (λ z. IsSelectionWithin us z below inner s) (below_parent parent head) (selection h))
  selection (selections.after h) = selections.after (selection h)

  pub of_operation : (o : OperationOf) (s : SelectedOf) → IsOfOperation es o s → IsOfOperation us o s
  of_operation o s w = (w.0, subst (λ z. IsSelectionWithin us z o.set s.parent s.selection) (same.root o.kind) (selection w.1))

  pub of_fragment : (g : FragmentOf) (s : SelectedOf) → IsOfFragment es g s → IsOfFragment us g s
  of_fragment g s w = (w.0, selection w.1)

  pub selects : {os : List OperationOf} {gs : List FragmentOf} {s : SelectedOf} → IsSelected es os gs s → IsSelected us os gs s
  selects {s = s} (selections.of_operation {o = o} c w) = selections.of_operation c (of_operation o s w)
  selects {s = s} (selections.of_fragment {f = g} c w) = selections.of_fragment c (of_fragment g s w)
