-- Uses of variables in a definition whose variables are renamed at the same places: each is a use of it, renamed.
use Rattle.std.proofs.Common.{◌≡◌, List, Option, Some, None, map, refl, sym, ap, ◌∙◌, subst, Contains}
use Rattle.gq_text.specs.declared.place.Span.{Span}
use Rattle.gq_tree.specs.Forest.{none, more, relabel}
use Rattle.gq_tree.specs.Plain.{NameOf, Says, Val, Vals, InputOf, DirectiveOf, VariableOf, Head, field, spread, inline, variable, Sel, Sels}
use Rattle.gq_types.specs.Arguments.{directive_arguments}
use Rattle.gq_types.specs.Entries.{Text, EntryOf}
use Rattle.gq_renamed.specs.Renamings.{Renaming}
use Rattle.gq_renamed.specs.Renamed.{rename_variable, rename_fragment, rename_says, rename_part, rename_value, rename_directive, rename_definition, rename_head, rename_selections}
use Rattle.gq_document.specs.Definitions.{OperationOf, FragmentOf}
use Rattle.gq_document.specs.Selections.{parent_below, IsSelectionWithin}
use Rattle.gq_variables.specs.Uses.{PlaceOf, part_place, argument_place, StandsIn, here, within, after, StandsInValue, StandsInArguments, StandsInDirectives, directives_of, field_arguments}
use Rattle.gq_variables.specs.Uses.{StandsInSelection, in_arguments, in_directives}
use Rattle.gq_variables.specs.Uses.{UseOf, IsUsedInOperation, in_selection, in_directive, in_variable, IsUsedInFragment, within_selection, within_directive}
use Rattle.gq_laws.proofs.Placing.Forgetting.{within_by}
use Rattle.gq_laws.proofs.Placing.OtherNames.{from_map, to_map}
use Rattle.gq_laws.proofs.Placing.OtherNamesRead.{forest_itself}
use Rattle.gq_laws.proofs.Placing.UsePlaces.{with_name}

-- a use in a renamed thing is one of the thing, renamed
abbrev pub IsOfRenamed : Renaming → Text → (NameOf Span → Type 0) → NameOf Span → Type 0
IsOfRenamed r new F name = (m : NameOf Span) × F m × (name ≡ rename_variable r new m)

abbrev pub rename_operation : Renaming → Text → OperationOf → OperationOf
rename_operation r new o = record {
  file = o.file;
  kind = o.kind;
  name = o.name;
  variables = map (rename_definition r new) o.variables;
  directives = map (rename_directive r new) o.directives;
  set = rename_selections r new o.set;
  braces = o.braces;
  place = o.place;
}

abbrev pub rename_uses : Renaming → Text → FragmentOf → FragmentOf
rename_uses r new f = record {
  file = f.file;
  name = rename_fragment r new f.name;
  on = f.on;
  directives = map (rename_directive r new) f.directives;
  set = rename_selections r new f.set;
  braces = f.braces;
  place = f.place;
}

-- the directives of its variables use none
abbrev pub IsConstant : List EntryOf → OperationOf → Type 0
IsConstant es o = (v : VariableOf Span) → Contains o.variables v → (name : NameOf Span) (place : PlaceOf) → StandsInDirectives es v.directives name place → ⊥

module _ (r : Renaming) (new : Text) where
  says_from : (name : NameOf Span) (span : Span) (s : Says Span) → variable name span ≡ rename_says r new s → IsOfRenamed r new (λ m. s ≡ variable m span) name
  says_from name span (variable m p) e =
      let places : p ≡ span = cc in
      let names : name ≡ rename_variable r new m = cc in
      (m, ap (variable m) places, names)
  says_from name span _ e = absurd (cc)

  parent_renamed : (es : List EntryOf) (parent : Option Text) (h : Head Span) → parent_below es parent (rename_head r new h) ≡ parent_below es parent h
  parent_renamed es parent (field alias name arguments directives braces place) = refl
  parent_renamed es parent (spread name directives place) = refl
  parent_renamed es parent (inline None directives braces place) = refl
  parent_renamed es parent (inline (Some condition) directives braces place) = refl

  directives_renamed : (h : Head Span) → directives_of (rename_head r new h) ≡ map (rename_directive r new) (directives_of h)
  directives_renamed (field alias name arguments directives braces place) = refl
  directives_renamed (spread name directives place) = refl
  directives_renamed (inline on directives braces place) = refl

  module _ (es : List EntryOf) where
    -- in literals
    literal_from : {at : Option (NameOf Span) → PlaceOf} {ws : Vals Span} {name : NameOf Span} {place : PlaceOf} → StandsIn es at ws name place →
        (vs : Vals Span) → ws ≡ relabel (rename_part r new) vs → IsOfRenamed r new (λ m. StandsIn es at vs m place) name
    literal_from (here is) none e = absurd (cc)
    literal_from (here {at = at} {part = part} {below = below} {rest = rest} {name = name} {span = span} is) (more m c t) e =
        let labels : part ≡ rename_part r new m = cc in
        let v = says_from name span m.says (sym is ∙ ap (λ z. z.says) labels) in
        (v.0, subst (λ k. StandsIn es at (more m c t) v.0 (at k)) (ap (λ z. z.key) (sym labels)) (here {at = at} {name = v.0} {span = span} v.1), v.2)
    literal_from (within w) none e = absurd (cc)
    literal_from (within {at = at} {part = part} {below = below} {rest = rest} {place = place} w) (more m c t) e =
        let labels : part ≡ rename_part r new m = cc in
        let belows : below ≡ relabel (rename_part r new) c = cc in
        let u = literal_from w c belows in
        (u.0, within (subst (λ k. StandsIn es (part_place es (at k)) c u.0 place) (ap (λ z. z.key) labels) u.1), u.2)
    literal_from (after w) none e = absurd (cc)
    literal_from (after {rest = rest} w) (more m c t) e =
        let rests : rest ≡ relabel (rename_part r new) t = cc in
        let u = literal_from w t rests in
        (u.0, after u.1, u.2)

    literal_to : {at : Option (NameOf Span) → PlaceOf} {vs : Vals Span} {name : NameOf Span} {place : PlaceOf} → StandsIn es at vs name place →
        StandsIn es at (relabel (rename_part r new) vs) (rename_variable r new name) place
    literal_to (here {at = at} {part = part} {name = name} {span = span} is) =
        here {at = at} {part = rename_part r new part} {name = rename_variable r new name} {span = span} (ap (rename_says r new) is)
    literal_to (within {at = at} {part = part} w) = within {at = at} {part = rename_part r new part} (literal_to w)
    literal_to (after w) = after (literal_to w)

    module _ {name : NameOf Span} {place : PlaceOf} where
      -- in arguments and in directives
      arguments_from : (definitions : Option (List (InputOf Span))) (vs : List (Val Span)) → StandsInArguments es definitions (map (rename_value r new) vs) name place →
          IsOfRenamed r new (λ m. StandsInArguments es definitions vs m place) name
      arguments_from definitions vs h =
          let v = from_map (rename_value r new) vs h.argument h.given in
          let stands : StandsInValue es (argument_place definitions h.key.text) (rename_value r new v.0) name place =
          subst (λ z. StandsInValue es (argument_place definitions h.key.text) z name place) v.2 h.stands in
          let u = literal_from stands (more v.0.label v.0.below none) refl in
          (u.0, record { argument = v.0; given = v.1; key = h.key; is_key = ap (λ z. z.label.key) (sym v.2) ∙ h.is_key; stands = u.1 }, u.2)

      arguments_to : (definitions : Option (List (InputOf Span))) (vs : List (Val Span)) → StandsInArguments es definitions vs name place →
          StandsInArguments es definitions (map (rename_value r new) vs) (rename_variable r new name) place
      arguments_to definitions vs h = record {
        argument = rename_value r new h.argument;
        given = to_map (rename_value r new) vs h.argument h.given;
        key = h.key;
        is_key = h.is_key;
        stands = literal_to h.stands;
      }

      directives_from : (ds : List (DirectiveOf Span)) → StandsInDirectives es (map (rename_directive r new) ds) name place → IsOfRenamed r new (λ m. StandsInDirectives es ds m place) name
      directives_from ds h =
          let d = from_map (rename_directive r new) ds h.directive h.given in
          let stands = subst (λ z. StandsInArguments es (directive_arguments es z.name.text) z.arguments name place) d.2 h.stands in
          let u = arguments_from (directive_arguments es d.0.name.text) d.0.arguments stands in
          (u.0, record { directive = d.0; given = d.1; stands = u.1 }, u.2)

      directives_to : (ds : List (DirectiveOf Span)) → StandsInDirectives es ds name place → StandsInDirectives es (map (rename_directive r new) ds) (rename_variable r new name) place
      directives_to ds h = record {
        directive = rename_directive r new h.directive;
        given = to_map (rename_directive r new) ds h.directive h.given;
        stands = arguments_to (directive_arguments es h.directive.name.text) h.directive.arguments h.stands;
      }

      -- in selections
      field_from : (parent : Option Text) (alias : Option (NameOf Span)) (field_name : NameOf Span) (arguments : List (Val Span)) (directives : List (DirectiveOf Span))
          (braces : Option Span) (span : Span) (h : Head Span) → field alias field_name arguments directives braces span ≡ rename_head r new h → StandsInArguments es (field_arguments es parent field_name.text) arguments name place →
          IsOfRenamed r new (λ m. StandsInSelection es parent h m place) name
      field_from parent alias field_name arguments directives braces span (field a n vs ds b p) e s =
          let names : field_name ≡ n = cc in
          let values : arguments ≡ map (rename_value r new) vs = cc in
          let there = subst (λ z. StandsInArguments es (field_arguments es parent z.text) (map (rename_value r new) vs) name place) names
          (subst (λ z. StandsInArguments es (field_arguments es parent field_name.text) z name place) values s) in
          let u = arguments_from (field_arguments es parent n.text) vs there in
          (u.0, in_arguments refl u.1, u.2)
      field_from parent alias field_name arguments directives braces span (spread n ds p) e s = absurd (cc)
      field_from parent alias field_name arguments directives braces span (inline o ds b p) e s = absurd (cc)

      selection_from : (parent : Option Text) (k h : Head Span) → k ≡ rename_head r new h → StandsInSelection es parent k name place →
          IsOfRenamed r new (λ m. StandsInSelection es parent h m place) name
      selection_from parent k h e (in_arguments {alias} {field_name} {arguments} {directives} {braces} {span} is s) =
          field_from parent alias field_name arguments directives braces span h (sym is ∙ e) s
      selection_from parent k h e (in_directives s) =
          let u = directives_from (directives_of h) (subst (λ z. StandsInDirectives es z name place) (ap directives_of e ∙ directives_renamed h) s) in
          (u.0, in_directives u.1, u.2)

      selection_to : (parent : Option Text) (h : Head Span) → StandsInSelection es parent h name place → StandsInSelection es parent (rename_head r new h) (rename_variable r new name) place
      selection_to parent h (in_arguments {field_name = field_name} {arguments = arguments} is s) =
          in_arguments (ap (rename_head r new) is) (arguments_to (field_arguments es parent field_name.text) arguments s)
      selection_to parent h (in_directives s) = in_directives (subst (λ z. StandsInDirectives es z (rename_variable r new name) place) (sym (directives_renamed h)) (directives_to (directives_of h) s))

    -- selections
    within_from : {parent inner : Option Text} (ss : Sels Span) (s : Sel Span) → IsSelectionWithin es parent (rename_selections r new ss) inner s →
        (t : Sel Span) × IsSelectionWithin es parent ss inner t × (s.label ≡ rename_head r new t.label)
    within_from ss s w =
        let itself = forest_itself (λ z. z) (λ z. refl) (rename_selections r new ss) in
        let t = within_by (λ z. z) (rename_head r new) (λ us parent a b e. ap (parent_below us parent) e ∙ parent_renamed us parent b) es w ss itself in
        (t.0, t.1, ap (λ z. z.label) t.2)

    within_to : {parent inner : Option Text} (ss : Sels Span) (s : Sel Span) → IsSelectionWithin es parent ss inner s →
        (t : Sel Span) × IsSelectionWithin es parent (rename_selections r new ss) inner t × (rename_head r new s.label ≡ t.label)
    within_to ss s w =
        let itself = forest_itself (λ z. z) (λ z. refl) (rename_selections r new ss) in
        let t = within_by (rename_head r new) (λ z. z) (λ us parent a b e. sym (parent_renamed us parent a) ∙ ap (parent_below us parent) e) es w
        (rename_selections r new ss) (sym itself) in
        (t.0, t.1, ap (λ z. z.label) t.2)

    -- in definitions
    module _ (u : UseOf) where
      pub operation_from : (o : OperationOf) → IsConstant es o → IsUsedInOperation es (rename_operation r new o) u → IsOfRenamed r new (λ m. IsUsedInOperation es o (with_name u m)) u.name
      operation_from o constant (in_selection {s} w is c) =
          let t = within_from o.set s.selection w.1 in
          let k = selection_from s.parent s.selection.label t.0.label t.2 c in
          (k.0, in_selection {s = record { file = s.file; parent = s.parent; selection = t.0 }} (w.0, t.1) is k.1, k.2)
      operation_from o constant (in_directive is c) = let k = directives_from o.directives c in (k.0, in_directive is k.1, k.2)
      operation_from o constant (in_variable {v} is d c) =
          let w = from_map (rename_definition r new) o.variables v d in
          absurd (constant w.0 w.1 u.name u.place (subst (λ z. StandsInDirectives es z.directives u.name u.place) w.2 c))

      pub operation_to : (o : OperationOf) → IsConstant es o → IsUsedInOperation es o u → IsUsedInOperation es (rename_operation r new o) (with_name u (rename_variable r new u.name))
      operation_to o constant (in_selection {s} w is c) =
          let t = within_to o.set s.selection w.1 in
          in_selection {s = record { file = s.file; parent = s.parent; selection = t.0 }} (w.0, t.1) is
          (subst (λ z. StandsInSelection es s.parent z (rename_variable r new u.name) u.place) t.2 (selection_to s.parent s.selection.label c))
      operation_to o constant (in_directive is c) = in_directive is (directives_to o.directives c)
      operation_to o constant (in_variable {v} is d c) = absurd (constant v d u.name u.place c)

      pub fragment_from : (f : FragmentOf) → IsUsedInFragment es (rename_uses r new f) u → IsOfRenamed r new (λ m. IsUsedInFragment es f (with_name u m)) u.name
      fragment_from f (within_selection {s} w is c) =
          let t = within_from f.set s.selection w.1 in
          let k = selection_from s.parent s.selection.label t.0.label t.2 c in
          (k.0, within_selection {s = record { file = s.file; parent = s.parent; selection = t.0 }} (w.0, t.1) is k.1, k.2)
      fragment_from f (within_directive is c) = let k = directives_from f.directives c in (k.0, within_directive is k.1, k.2)

      pub fragment_to : (f : FragmentOf) → IsUsedInFragment es f u → IsUsedInFragment es (rename_uses r new f) (with_name u (rename_variable r new u.name))
      fragment_to f (within_selection {s} w is c) =
          let t = within_to f.set s.selection w.1 in
          within_selection {s = record { file = s.file; parent = s.parent; selection = t.0 }} (w.0, t.1) is
          (subst (λ z. StandsInSelection es s.parent z (rename_variable r new u.name) u.place) t.2 (selection_to s.parent s.selection.label c))
      fragment_to f (within_directive is c) = within_directive is (directives_to f.directives c)
