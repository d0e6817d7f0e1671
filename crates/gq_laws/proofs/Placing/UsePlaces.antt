-- Uses of variables in definitions that are equal but for their places. A use has the same place in the type system.
use Rattle.std.proofs.Common.{◌≡◌, List, Option, Some, None, map, refl, sym, ap, ◌∙◌, subst}
use Rattle.std.specs.Option.{option_map}
use Rattle.gq_text.specs.declared.place.Span.{Span}
use Rattle.gq_tree.specs.Forest.{none, more, relabel}
use Rattle.gq_tree.specs.Plain.{NameOf, Says, Val, Vals, InputOf, DirectiveOf, Head, field, spread, inline, variable, place_name, place_says, place_part, place_value, place_directive, place_variable, place_head, no_place, erase_values}
use Rattle.gq_types.specs.Arguments.{directive_arguments}
use Rattle.gq_types.specs.Entries.{Text, EntryOf}
use Rattle.gq_types.specs.Roots.{root_of}
use Rattle.gq_document.specs.Definitions.{OperationOf, FragmentOf}
use Rattle.gq_document.specs.Selections.{IsSelectionWithin}
use Rattle.gq_spreads.proofs.ReachLemmas.{reached_stands}
use Rattle.gq_variables.specs.Uses.{PlaceOf, part_place, argument_place, StandsIn, here, within, after, StandsInValue, StandsInArguments, StandsInDirectives, directives_of, field_arguments, StandsInSelection, in_arguments, in_directives, UseOf, IsUsedInOperation, in_selection, in_directive, in_variable, IsUsedInFragment, within_selection, within_directive}
use Rattle.gq_variables.specs.ReachedUses.{ReachesUse, of_itself, of_fragment}
use Rattle.gq_laws.specs.Placing.Places.{erase_operation, erase_fragment}
use Rattle.gq_types.proofs.Placing.Alike.{back, seen, contains}
use Rattle.gq_laws.proofs.Placing.Selected.{within_alike}
use Rattle.gq_laws.proofs.Placing.SpreadPlaces.{fragment_set, operation_set, reaches_too}

-- some name of the same text
abbrev pub NamedAlike : (NameOf Span → Type 0) → NameOf Span → Type 0
NamedAlike F name = (m : NameOf Span) × F m × (name.text ≡ m.text)

some_too : {A B : Type 0} (h : A → B) (k : Option A) (n : A) → Some (h n) ≡ option_map h k → (m : A) × (k ≡ Some m) × (h n ≡ h m)
some_too h (Some m) n e = (m, refl, cc)
some_too h None n e = absurd (cc)

-- in literals
abbrev KeysAlike : (at at2 : Option (NameOf Span) → PlaceOf) → Type 0
KeysAlike at at2 = (k l : Option (NameOf Span)) → option_map (place_name no_place) k ≡ option_map (place_name no_place) l → at k ≡ at2 l

part_erased : (es : List EntryOf) (place : PlaceOf) (k : Option (NameOf Span)) → part_place es place k ≡ part_place es place (option_map (place_name back) (option_map (place_name no_place) k))
part_erased es place None = refl
part_erased es place (Some key) = refl

parts_alike : (es : List EntryOf) (place : PlaceOf) → KeysAlike (part_place es place) (part_place es place)
parts_alike es place k l e = seen (option_map (place_name no_place)) (option_map (place_name back)) (part_place es place) (part_erased es place) k l e

variable_too : (name : NameOf Span) (s : Says Span) → variable (place_name no_place name) tt ≡ place_says no_place s → (m : NameOf Span) × (p : Span) × (s ≡ variable m p) × (name.text ≡ m.text)
variable_too name (variable m p) e =
    let names : place_name no_place name ≡ place_name no_place m = cc in
    (m, p, refl, ap (λ z. z.text) names)
variable_too name _ e = absurd (cc)

literal_use : (es : List EntryOf) {at : Option (NameOf Span) → PlaceOf} {vs : Vals Span} {name : NameOf Span} {place : PlaceOf} → StandsIn es at vs name place →
    (at2 : Option (NameOf Span) → PlaceOf) → KeysAlike at at2 → (ws : Vals Span) → relabel (place_part no_place) vs ≡ relabel (place_part no_place) ws → NamedAlike (λ m. StandsIn es at2 ws m place) name
literal_use es (here is) at2 h none e = absurd (cc)
literal_use es (here {at = at} {part = part} {below = below} {name = name} is) at2 h (more m c t) e =
    let labels : place_part no_place part ≡ place_part no_place m = cc in
    let v = variable_too name m.says (ap (place_says no_place) (sym is) ∙ ap (λ z. z.says) labels) in
    (v.0, subst (λ p. StandsIn es at2 (more m c t) v.0 p) (sym (h part.key m.key (ap (λ z. z.key) labels))) (here {name = v.0} {span = v.1} v.2), v.3)
literal_use es (within w) at2 h none e = absurd (cc)
literal_use es (within {at = at} {part = part} {below = below} w) at2 h (more m c t) e =
    let labels : place_part no_place part ≡ place_part no_place m = cc in
    let belows : relabel (place_part no_place) below ≡ relabel (place_part no_place) c = cc in
    let same : at part.key ≡ at2 m.key = h part.key m.key (ap (λ z. z.key) labels) in
    let r = literal_use es w (part_place es (at2 m.key)) (λ k l q. ap (λ p. part_place es p k) same ∙ parts_alike es (at2 m.key) k l q) c belows in
    (r.0, within {name = r.0} r.1, r.2)
literal_use es (after w) at2 h none e = absurd (cc)
literal_use es (after {rest = rest} w) at2 h (more m c t) e =
    let rests : relabel (place_part no_place) rest ≡ relabel (place_part no_place) t = cc in
    let r = literal_use es w at2 h t rests in
    (r.0, after {name = r.0} r.1, r.2)

directives_alike : (h k : Head Span) → place_head no_place h ≡ place_head no_place k → map (place_directive no_place) (directives_of h) ≡ map (place_directive no_place) (directives_of k)
directives_alike (field a n vs ds b p) (field a2 n2 vs2 ds2 b2 p2) e = cc
directives_alike (spread n ds p) (spread n2 ds2 p2) e = cc
directives_alike (inline o ds b p) (inline o2 ds2 b2 p2) e = cc
directives_alike _ _ e = absurd (cc)

module _ (es : List EntryOf) {name : NameOf Span} {place : PlaceOf} where
  value_use : (whole : PlaceOf) (v w : Val Span) → place_value no_place v ≡ place_value no_place w → StandsInValue es whole v name place → NamedAlike (λ m. StandsInValue es whole w m place) name
  value_use whole v w e s = literal_use es s (λ k. whole) (λ k l q. refl) (more w.label w.below none) (ap (λ z. more z.label z.below none) e)

  -- in arguments and in directives
  arguments_use : (definitions : Option (List (InputOf Span))) (vs ws : List (Val Span)) → erase_values vs ≡ erase_values ws →
      StandsInArguments es definitions vs name place → NamedAlike (λ m. StandsInArguments es definitions ws m place) name
  arguments_use definitions vs ws e h =
      let v = contains (place_value no_place) vs ws e h.argument h.given in
      let k = some_too (place_name no_place) v.0.label.key h.key (ap (option_map (place_name no_place)) (sym h.is_key) ∙ ap (λ z. z.label.key) v.2) in
      let r = value_use (argument_place definitions h.key.text) h.argument v.0 v.2 h.stands in (
        r.0,
        record {
          argument = v.0;
          given = v.1;
          key = k.0;
          is_key = k.1;
          stands = subst (λ t. StandsInValue es (argument_place definitions t) v.0 r.0 place) (ap (λ z. z.text) k.2) r.1;
        },
        r.2,
      )

  directives_use : (ds us : List (DirectiveOf Span)) → map (place_directive no_place) ds ≡ map (place_directive no_place) us →
      StandsInDirectives es ds name place → NamedAlike (λ m. StandsInDirectives es us m place) name
  directives_use ds us e h =
      let d = contains (place_directive no_place) ds us e h.directive h.given in
      let r = arguments_use (directive_arguments es h.directive.name.text) h.directive.arguments d.0.arguments (ap (λ z. z.arguments) d.2) h.stands in (
        r.0,
        record {
          directive = d.0;
          given = d.1;
          stands = subst (λ t. StandsInArguments es (directive_arguments es t) d.0.arguments r.0 place) (ap (λ z. z.name.text) d.2) r.1;
        },
        r.2,
      )

  -- in selections
  field_use : (parent : Option Text) (alias : Option (NameOf Span)) (field_name : NameOf Span) (arguments : List (Val Span)) (directives : List (DirectiveOf Span)) (braces : Option Span) (span : Span) (k : Head Span) →
      place_head no_place (field alias field_name arguments directives braces span) ≡ place_head no_place k →
      StandsInArguments es (field_arguments es parent field_name.text) arguments name place → NamedAlike (λ m. StandsInSelection es parent k m place) name
  field_use parent alias field_name arguments directives braces span (field a n vs ds b p) e s =
      let names : place_name no_place field_name ≡ place_name no_place n = cc in
      let values : erase_values arguments ≡ erase_values vs = cc in
      let r = arguments_use (field_arguments es parent field_name.text) arguments vs values s in
      (r.0, in_arguments refl (subst (λ t. StandsInArguments es (field_arguments es parent t) vs r.0 place) (ap (λ z. z.text) names) r.1), r.2)
  field_use parent alias field_name arguments directives braces span (spread n ds p) e s = absurd (cc)
  field_use parent alias field_name arguments directives braces span (inline o ds b p) e s = absurd (cc)

  selection_use : (parent : Option Text) (h k : Head Span) → place_head no_place h ≡ place_head no_place k → StandsInSelection es parent h name place → NamedAlike (λ m. StandsInSelection es parent k m place) name
  selection_use parent h k e (in_arguments {alias} {field_name} {arguments} {directives} {braces} {span} is s) =
      field_use parent alias field_name arguments directives braces span k (ap (place_head no_place) (sym is) ∙ e) s
  selection_use parent h k e (in_directives s) =
      let r = directives_use (directives_of h) (directives_of k) (directives_alike h k e) s in
      (r.0, in_directives r.1, r.2)

-- a use of another name
abbrev pub with_name : UseOf → NameOf Span → UseOf
with_name u m = record { file = u.file; name = m; place = u.place }

pub operation_use : (es : List EntryOf) (o p : OperationOf) → erase_operation o ≡ erase_operation p → (u : UseOf) → IsUsedInOperation es o u → NamedAlike (λ m. IsUsedInOperation es p (with_name u m)) u.name
operation_use es o p e u (in_selection {s} w is c) =
    let defs = ap (λ z. z.1) e in
    let kinds : o.kind ≡ p.kind = cc in
    let t = within_alike es w.1 p.set (operation_set o p e) in
    let r = selection_use es s.parent s.selection.label t.0.label (ap (λ z. z.label) t.2) c in
    let stands : IsSelectionWithin es (root_of es p.kind) p.set s.parent t.0 = subst (λ k. IsSelectionWithin es (root_of es k) p.set s.parent t.0) kinds t.1 in
    (r.0, in_selection {s = record { file = p.file; parent = s.parent; selection = t.0 }} (refl, stands) (is ∙ w.0 ∙ ap (λ z. z.0) e) r.1, r.2)
operation_use es o p e u (in_directive is c) =
    let defs = ap (λ z. z.1) e in
    let those : map (place_directive no_place) o.directives ≡ map (place_directive no_place) p.directives = cc in
    let r = directives_use es o.directives p.directives those c in
    (r.0, in_directive (is ∙ ap (λ z. z.0) e) r.1, r.2)
operation_use es o p e u (in_variable {v} is d c) =
    let defs = ap (λ z. z.1) e in
    let those : map (place_variable no_place) o.variables ≡ map (place_variable no_place) p.variables = cc in
    let w = contains (place_variable no_place) o.variables p.variables those v d in
    let r = directives_use es v.directives w.0.directives (ap (λ z. z.directives) w.2) c in
    (r.0, in_variable (is ∙ ap (λ z. z.0) e) w.1 r.1, r.2)

pub fragment_use : (es : List EntryOf) (f g : FragmentOf) → erase_fragment f ≡ erase_fragment g → (u : UseOf) → IsUsedInFragment es f u → NamedAlike (λ m. IsUsedInFragment es g (with_name u m)) u.name
fragment_use es f g e u (within_selection {s} w is c) =
    let defs = ap (λ z. z.1) e in
    let ons : place_name no_place f.on ≡ place_name no_place g.on = cc in
    let t = within_alike es w.1 g.set (fragment_set f g e) in
    let r = selection_use es s.parent s.selection.label t.0.label (ap (λ z. z.label) t.2) c in
    let stands : IsSelectionWithin es (Some g.on.text) g.set s.parent t.0 = subst (λ k. IsSelectionWithin es (Some k) g.set s.parent t.0) (ap (λ n. n.text) ons) t.1 in
    (r.0, within_selection {s = record { file = g.file; parent = s.parent; selection = t.0 }} (refl, stands) (is ∙ w.0 ∙ ap (λ z. z.0) e) r.1, r.2)
fragment_use es f g e u (within_directive is c) =
    let defs = ap (λ z. z.1) e in
    let those : map (place_directive no_place) f.directives ≡ map (place_directive no_place) g.directives = cc in
    let r = directives_use es f.directives g.directives those c in
    (r.0, within_directive (is ∙ ap (λ z. z.0) e) r.1, r.2)

-- a use that an operation reaches
pub reached_use : (es : List EntryOf) (os ps : List OperationOf) (fs gs : List FragmentOf) → map erase_fragment fs ≡ map erase_fragment gs → (o p : OperationOf) → erase_operation o ≡ erase_operation p →
    (u : UseOf) → ReachesUse (record { entries = es; operations = os; fragments = fs }) o u →
    NamedAlike (λ m. ReachesUse (record { entries = es; operations = ps; fragments = gs }) p (with_name u m)) u.name
reached_use es os ps fs gs ef o p e u (of_itself c) = let r = operation_use es o p e u c in (r.0, of_itself r.1, r.2)
reached_use es os ps fs gs ef o p e u (of_fragment {f} way c) =
    let g = contains erase_fragment fs gs ef f (reached_stands fs o.set f way) in
    let r = fragment_use es f g.0 g.2 u c in
    (r.0, of_fragment (reaches_too fs gs ef way p.set (operation_set o p e) g.0 g.1 g.2) r.1, r.2)
