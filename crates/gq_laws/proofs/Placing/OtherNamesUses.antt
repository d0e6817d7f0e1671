-- The uses of variables, where fragments are called otherwise: they are the same.
use Rattle.std.proofs.Common.{◌≡◌, List, Option, Some, None, refl, sym, ap, ◌∙◌, subst, Contains}
use Rattle.gq_text.specs.declared.place.Span.{Span}
use Rattle.gq_tree.specs.Plain.{NameOf, Val, DirectiveOf, Head, field, spread, inline, Sels}
use Rattle.gq_types.specs.Entries.{Text, EntryOf}
use Rattle.gq_types.specs.Roots.{root_of}
use Rattle.gq_document.specs.Definitions.{OperationOf, FragmentOf}
use Rattle.gq_document.specs.Selections.{parent_below, IsSelectionWithin}
use Rattle.gq_document.specs.Executable.{ExecutableOf}
use Rattle.gq_variables.specs.Uses.{PlaceOf, StandsInDirectives, directives_of, StandsInSelection, in_arguments, in_directives}
use Rattle.gq_variables.specs.Uses.{UseOf, IsUsedInOperation, in_selection, in_directive, in_variable, IsUsedInFragment, within_selection, within_directive}
use Rattle.gq_variables.specs.ReachedUses.{ReachesUse, of_itself, of_fragment}
use Rattle.gq_laws.specs.Placing.Names.{forgotten}
use Rattle.gq_laws.proofs.Placing.Bare.{forest_same}
use Rattle.gq_laws.proofs.Placing.Forgetting.{within_by}
use Rattle.gq_laws.proofs.Placing.OtherNames.{other_name, other_head, other_set, other_operation, other_fragment, other_names, KeepsApart, reaches_to, reaches_from}

-- names of fragments forgotten
abbrev nameless_head : Head Span → Head Span
nameless_head = other_head forgotten

abbrev nameless_set : Sels Span → Sels Span
nameless_set = other_set forgotten

parent_forgotten : (es : List EntryOf) (parent : Option Text) (h : Head Span) → parent_below es parent (nameless_head h) ≡ parent_below es parent h
parent_forgotten es parent (field alias name arguments directives braces place) = refl
parent_forgotten es parent (spread name directives place) = refl
parent_forgotten es parent (inline None directives braces place) = refl
parent_forgotten es parent (inline (Some condition) directives braces place) = refl

parent_alike : (es : List EntryOf) (parent : Option Text) (h k : Head Span) → nameless_head h ≡ nameless_head k → parent_below es parent h ≡ parent_below es parent k
parent_alike es parent h k e = sym (parent_forgotten es parent h) ∙ ap (parent_below es parent) e ∙ parent_forgotten es parent k

directives_alike : (h k : Head Span) → nameless_head h ≡ nameless_head k → directives_of h ≡ directives_of k
directives_alike (field a n vs ds b p) (field a2 n2 vs2 ds2 b2 p2) e = cc
directives_alike (spread n ds p) (spread n2 ds2 p2) e = cc
directives_alike (inline o ds b p) (inline o2 ds2 b2 p2) e = cc
directives_alike _ _ e = absurd (cc)

field_alike : (alias : Option (NameOf Span)) (name : NameOf Span) (arguments : List (Val Span)) (directives : List (DirectiveOf Span)) (braces : Option Span) (span : Span) (k : Head Span) →
    field alias name arguments directives braces span ≡ nameless_head k → k ≡ field alias name arguments directives braces span
field_alike alias name arguments directives braces span (field a n vs ds b p) e = sym e
field_alike alias name arguments directives braces span (spread n ds p) e = absurd (cc)
field_alike alias name arguments directives braces span (inline o ds b p) e = absurd (cc)

selection_use : (es : List EntryOf) (parent : Option Text) (h k : Head Span) → nameless_head h ≡ nameless_head k → (name : NameOf Span) (place : PlaceOf) →
    StandsInSelection es parent h name place → StandsInSelection es parent k name place
selection_use es parent h k e name place (in_arguments {alias} {field_name} {arguments} {directives} {braces} {span} is s) =
    in_arguments (field_alike alias field_name arguments directives braces span k (ap nameless_head (sym is) ∙ e)) s
selection_use es parent h k e name place (in_directives s) = in_directives (subst (λ z. StandsInDirectives es z name place) (directives_alike h k e) s)

module _ (es : List EntryOf) (u : UseOf) where
  operation_use : (o p : OperationOf) → other_operation forgotten o ≡ other_operation forgotten p → IsUsedInOperation es o u → IsUsedInOperation es p u
  operation_use o p e (in_selection {s} w is c) =
      let t = within_by nameless_head nameless_head parent_alike es w.1 p.set (ap (λ z. z.set) e) in
      let stands : IsSelectionWithin es (root_of es p.kind) p.set s.parent t.0 = subst (λ k. IsSelectionWithin es (root_of es k) p.set s.parent t.0) (ap (λ z. z.kind) e) t.1 in
      in_selection {s = record { file = p.file; parent = s.parent; selection = t.0 }} (refl, stands) (is ∙ w.0 ∙ ap (λ z. z.file) e)
      (selection_use es s.parent s.selection.label t.0.label (ap (λ z. z.label) t.2) u.name u.place c)
  operation_use o p e (in_directive is c) = in_directive (is ∙ ap (λ z. z.file) e) (subst (λ z. StandsInDirectives es z u.name u.place) (ap (λ z. z.directives) e) c)
  operation_use o p e (in_variable {v} is d c) = in_variable (is ∙ ap (λ z. z.file) e) (subst (λ z. Contains z v) (ap (λ z. z.variables) e) d) c

  fragment_use : (f g : FragmentOf) → other_fragment forgotten f ≡ other_fragment forgotten g → IsUsedInFragment es f u → IsUsedInFragment es g u
  fragment_use f g e (within_selection {s} w is c) =
      let t = within_by nameless_head nameless_head parent_alike es w.1 g.set (ap (λ z. z.set) e) in
      let stands : IsSelectionWithin es (Some g.on.text) g.set s.parent t.0 = subst (λ k. IsSelectionWithin es (Some k.text) g.set s.parent t.0) (ap (λ z. z.on) e) t.1 in
      within_selection {s = record { file = g.file; parent = s.parent; selection = t.0 }} (refl, stands) (is ∙ w.0 ∙ ap (λ z. z.file) e)
      (selection_use es s.parent s.selection.label t.0.label (ap (λ z. z.label) t.2) u.name u.place c)
  fragment_use f g e (within_directive is c) = within_directive (is ∙ ap (λ z. z.file) e) (subst (λ z. StandsInDirectives es z u.name u.place) (ap (λ z. z.directives) e) c)

module _ (shown : Text → Text) where
  head_forgotten : (h : Head Span) → nameless_head (other_head shown h) ≡ nameless_head h
  head_forgotten (field alias name arguments directives braces place) = refl
  head_forgotten (spread name directives place) = refl
  head_forgotten (inline on directives braces place) = refl

  set_forgotten : (set : Sels Span) → nameless_set (other_set shown set) ≡ nameless_set set
  set_forgotten set = forest_same (other_head shown) nameless_head nameless_head head_forgotten set

  operation_forgotten : (o : OperationOf) → other_operation forgotten (other_operation shown o) ≡ other_operation forgotten o
  operation_forgotten o = ap (λ z. record {
    file = o.file;
    kind = o.kind;
    name = o.name;
    variables = o.variables;
    directives = o.directives;
    set = z;
    braces = o.braces;
    place = o.place;
  }) (set_forgotten o.set)

  fragment_forgotten : (f : FragmentOf) → other_fragment forgotten (other_fragment shown f) ≡ other_fragment forgotten f
  fragment_forgotten f = ap (λ z. record {
    file = f.file;
    name = other_name forgotten f.name;
    on = f.on;
    directives = f.directives;
    set = z;
    braces = f.braces;
    place = f.place;
  }) (set_forgotten f.set)

  -- an operation reaches the same uses
  pub reached_use_to : (x : ExecutableOf) (o : OperationOf) (u : UseOf) → ReachesUse x o u → ReachesUse (other_names shown x) (other_operation shown o) u
  reached_use_to x o u (of_itself c) = of_itself (operation_use x.entries u o (other_operation shown o) (sym (operation_forgotten o)) c)
  reached_use_to x o u (of_fragment {f = f} way c) = of_fragment (reaches_to shown x.fragments o.set f way) (fragment_use x.entries u f (other_fragment shown f) (sym (fragment_forgotten f)) c)

  pub reached_use_from : KeepsApart shown → (x : ExecutableOf) (o : OperationOf) (u : UseOf) → ReachesUse (other_names shown x) (other_operation shown o) u → ReachesUse x o u
  reached_use_from apart x o u (of_itself c) = of_itself (operation_use x.entries u (other_operation shown o) o (operation_forgotten o) c)
  reached_use_from apart x o u (of_fragment {f = f} way c) =
      let r = reaches_from shown apart x.fragments o.set f way in
      of_fragment r.1 (fragment_use x.entries u f r.0 (ap (other_fragment forgotten) r.2 ∙ fragment_forgotten r.0) c)
