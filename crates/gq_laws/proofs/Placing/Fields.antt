-- Fields of definitions that are equal but for their places and for the names of fragments and variables.
use Rattle.std.proofs.Common.{◌≡◌, List, Option, Some, None, map, refl, sym, ap, ◌∙◌}
use Rattle.std.specs.Prelude.{is_some}
use Rattle.std.specs.Option.{option_map}
use Rattle.gq_text.specs.declared.place.Span.{Span}
use Rattle.gq_fault.specs.declared.fault.Fault.{Fault}
use Rattle.gq_fault.specs.FaultPlaces.{fault_at}
use Rattle.gq_fault.specs.declared.code.Code.TheVariants.{UnknownField, WrongSelections}
use Rattle.gq_tree.specs.Forest.{relabel, relabel_tree}
use Rattle.gq_tree.specs.Plain.{NameOf, Val, DirectiveOf, Head, field, spread, inline, Sel, place_name, place_head, no_place}
use Rattle.gq_types.specs.Entries.{Text, EntryOf}
use Rattle.gq_document.specs.Definitions.{OperationOf, FragmentOf}
use Rattle.gq_document.specs.Selections.{SelectedOf, selected_field, field_on, parent_below, IsSelected}
use Rattle.gq_document.specs.Executable.{ExecutableOf}
use Rattle.gq_fields.specs.SelectedFields.{SelectsField}
use Rattle.gq_fields.specs.FieldSelections.{IsUnknownField}
use Rattle.gq_fields.specs.LeafFieldSelections.{HasWrongSelections}
use Rattle.gq_laws.specs.Placing.Places.{HasLike}
use Rattle.gq_laws.specs.Placing.Names.{bare_value, bare_head, bare_operation, bare_fragment}
use Rattle.gq_types.proofs.Placing.Alike.{back, seen}
use Rattle.gq_types.proofs.Placing.Lists.{weaken}
use Rattle.gq_laws.proofs.Placing.Forgetting.{all_three, selects_operation, selects_fragment, selected_by}

parent_erased : (es : List EntryOf) (parent : Option Text) (h : Head Span) → parent_below es parent h ≡ parent_below es parent (place_head back (bare_head h))
parent_erased es parent (field alias name arguments directives braces place) = refl
parent_erased es parent (spread name directives place) = refl
parent_erased es parent (inline None directives braces place) = refl
parent_erased es parent (inline (Some condition) directives braces place) = refl

parent_alike : (es : List EntryOf) (parent : Option Text) (h k : Head Span) → bare_head h ≡ bare_head k → parent_below es parent h ≡ parent_below es parent k
parent_alike es parent h k e = seen bare_head (place_head back) (parent_below es parent) (parent_erased es parent) h k e

operation_selects : (o p : OperationOf) → bare_operation o ≡ bare_operation p → selects_operation bare_head o ≡ selects_operation bare_head p
operation_selects o p e =
    let defs = ap (λ z. z.1) e in
    let kinds : o.kind ≡ p.kind = cc in
    let sets : relabel bare_head o.set ≡ relabel bare_head p.set = cc in
    all_three (ap (λ z. z.0) e) kinds sets

fragment_selects : (f g : FragmentOf) → bare_fragment f ≡ bare_fragment g → selects_fragment bare_head f ≡ selects_fragment bare_head g
fragment_selects f g e =
    let defs = ap (λ z. z.1) e in
    let ons : place_name no_place f.on ≡ place_name no_place g.on = cc in
    let sets : relabel bare_head f.set ≡ relabel bare_head g.set = cc in
    all_three (ap (λ z. z.0) e) (ap (λ z. z.text) ons) sets

-- a selection of the one, in the other
pub selected_bare : (es : List EntryOf) (os ps : List OperationOf) (fs gs : List FragmentOf) → map bare_operation os ≡ map bare_operation ps → map bare_fragment fs ≡ map bare_fragment gs →
    (s : SelectedOf) → IsSelected es os fs s → (t : Sel Span) × IsSelected es ps gs (record { file = s.file; parent = s.parent; selection = t }) × (relabel_tree bare_head s.selection ≡ relabel_tree bare_head t)
selected_bare es os ps fs gs eo ef s c = selected_by bare_head bare_head parent_alike es os ps fs gs
    (weaken bare_operation (selects_operation bare_head) operation_selects os ps eo) (weaken bare_fragment (selects_fragment bare_head) fragment_selects fs gs ef) s c

-- a field, and what of it asks neither for its places nor for those names
pub record IsField (alias : Option (NameOf Span)) (name : NameOf Span) (arguments : List (Val Span)) (braces : Option Span) (h : Head Span) : Type 0 where
  pub alias2 : Option (NameOf Span)
  pub name2 : NameOf Span
  pub arguments2 : List (Val Span)
  pub directives2 : List (DirectiveOf Span)
  pub braces2 : Option Span
  pub place2 : Span
  pub is : h ≡ field alias2 name2 arguments2 directives2 braces2 place2
  pub text : name.text ≡ name2.text
  pub same_arguments : map bare_value arguments ≡ map bare_value arguments2
  pub same_braces : is_some braces ≡ is_some braces2

some_erased : (o : Option Span) → is_some o ≡ is_some (option_map back (option_map no_place o))
some_erased None = refl
some_erased (Some p) = refl

field_alike : (alias : Option (NameOf Span)) (name : NameOf Span) (arguments : List (Val Span)) (directives : List (DirectiveOf Span)) (braces : Option Span) (place : Span) (h : Head Span) →
    bare_head (field alias name arguments directives braces place) ≡ bare_head h → IsField alias name arguments braces h
field_alike alias name arguments directives braces place (field a n vs ds b p) e =
    let names : place_name no_place name ≡ place_name no_place n = cc in
    let bs : option_map no_place braces ≡ option_map no_place b = cc in
    record {
      alias2 = a;
      name2 = n;
      arguments2 = vs;
      directives2 = ds;
      braces2 = b;
      place2 = p;
      is = refl;
      text = ap (λ z. z.text) names;
      same_arguments = cc;
      same_braces = seen (option_map no_place) (option_map back) (λ o. is_some o) some_erased braces b bs;
    }
field_alike alias name arguments directives braces place (spread n ds p) e = absurd (cc)
field_alike alias name arguments directives braces place (inline o ds b p) e = absurd (cc)

pub record SelectsToo (x y : ExecutableOf) (one : SelectsField x) : Type 0 where
  pub other : SelectsField y
  pub file : other.selected.file ≡ one.selected.file
  pub parent : other.selected.parent ≡ one.selected.parent
  pub text : one.name.text ≡ other.name.text
  pub same_arguments : map bare_value one.arguments ≡ map bare_value other.arguments
  pub same_braces : is_some one.braces ≡ is_some other.braces

module _ (es : List EntryOf) (os ps : List OperationOf) (fs gs : List FragmentOf) (eo : map bare_operation os ≡ map bare_operation ps) (ef : map bare_fragment fs ≡ map bare_fragment gs) where
  abbrev x : ExecutableOf
  x = record { entries = es; operations = os; fragments = fs }

  abbrev y : ExecutableOf
  y = record { entries = es; operations = ps; fragments = gs }

  pub field_too : (one : SelectsField x) → SelectsToo x y one
  field_too one =
      let r = selected_bare es os ps fs gs eo ef one.selected one.stands in
      let f = field_alike one.alias one.name one.arguments one.directives one.braces one.place r.0.label (ap (λ z. bare_head z) (sym one.is_field) ∙ ap (λ z. z.label) r.2) in
      record {
        other = record {
          selected = record { file = one.selected.file; parent = one.selected.parent; selection = r.0 };
          stands = r.1;
          alias = f.alias2;
          name = f.name2;
          arguments = f.arguments2;
          directives = f.directives2;
          braces = f.braces2;
          place = f.place2;
          is_field = f.is;
        };
        file = refl;
        parent = refl;
        text = f.text;
        same_arguments = f.same_arguments;
        same_braces = f.same_braces;
      }

  pub unknown_too : (f : Fault) → IsUnknownField x f → HasLike (IsUnknownField y) f
  unknown_too f h =
      let o = field_too h.one in (
        fault_at o.other.selected.file UnknownField o.other.name,
        record {
          one = o.other;
          type_name = h.type_name;
          is_parent = o.parent ∙ h.is_parent;
          kind = h.kind;
          is_known = h.is_known;
          is_not_defined = ap (λ z. field_on es h.type_name z) (sym o.text) ∙ h.is_not_defined;
          is = refl;
        },
        o.file ∙ ap (λ z. z.file) (sym h.is),
        ap (λ z. z.code) (sym h.is),
      )

  pub wrong_selections_too : (f : Fault) → HasWrongSelections x f → HasLike (HasWrongSelections y) f
  wrong_selections_too f h =
      let o = field_too h.one in (
        fault_at o.other.selected.file WrongSelections o.other.name,
        record {
          one = o.other;
          definition = h.definition;
          is_defined = ap (λ z. selected_field es z o.other.name.text) o.parent ∙ ap (λ z. selected_field es h.one.selected.parent z) (sym o.text) ∙ h.is_defined;
          kind = h.kind;
          is_known = h.is_known;
          is_wrong = λ z. h.is_wrong (o.same_braces ∙ z);
          is = refl;
        },
        o.file ∙ ap (λ z. z.file) (sym h.is),
        ap (λ z. z.code) (sym h.is),
      )
