-- A project in which an inline fragment that says nothing lost its braces has no fault of a rule of which it had none.
use Rattle.std.proofs.Common.{◌≡◌, ◌⊎◌, ⊎_elim, inl, inr, ℕ, Bool, true, false, List, [], ◌∷◌, Option, Some, None, map, nat_eq, Contains, refl, sym, ap, ◌∙◌, subst}
use Rattle.std.specs.Prelude.{if◌then◌else◌}
use Rattle.gq_text.specs.declared.place.Span.{Span}
use Rattle.gq_tree.specs.Plain as tree
use Rattle.gq_tree.specs.Plain.{NameOf, DirectiveOf, Head, Sel, Sels, Def, no_place, spread, erase_document}
use Rattle.gq_tree.specs.Names.{spread_names}
use Rattle.gq_types.specs.Entries.{Text, EntryOf}
use Rattle.gq_types.specs.Roots.{root_of}
use Rattle.gq_types.proofs.Gathered.{first, later, nothing_in, from_map, to_map}
use Rattle.gq_document.specs.Definitions.{OperationOf, FragmentOf}
use Rattle.gq_document.specs.Selections.{SelectedOf, IsSelectionWithin, IsOfOperation, IsOfFragment, IsSelected}
use Rattle.gq_document.specs.Selections as selections
use Rattle.gq_document.specs.Executable.{ExecutableOf}
use Rattle.gq_fragments.specs.FragmentSpreadIsPossible.{IsSpread, of_fragment, of_inline_fragment}
use Rattle.gq_spreads.specs.SpreadFaults.{IsSpreadFault}
use Rattle.gq_spreads.proofs.ReachLemmas.{reached_stands}
use Rattle.gq_variables.specs.Uses.{PlaceOf, UseOf, StandsInSelection, in_arguments, in_directives, IsUsedInOperation}
use Rattle.gq_variables.specs.Uses.{in_selection, in_directive, in_variable, IsUsedInFragment, within_selection, within_directive}
use Rattle.gq_variables.specs.ReachedUses.{ReachesUse}
use Rattle.gq_variables.specs.ReachedUses as uses
use Rattle.gq_laws.specs.Placing.Types.{IsFaultless}
use Rattle.gq_types.proofs.Placing.Alike.{repeated}
use Rattle.gq_laws.proofs.Placing.SpreadNames.{spread_texts, spreads_operation, spreads_fragment, both, reaches_by, same_spreads}
use Rattle.gq_laws.proofs.Placing.Forgetting.{all_three}
use Rattle.gq_laws.proofs.RewrittenValid.Placed.{changed_operation, changed_fragment}
use Rattle.gq_laws.proofs.RewrittenValid.Opened.{opened, SaysNothingIn, OnlyNothing, StandsToo, stood, stays, names_opened}
use Rattle.gq_laws.proofs.RewrittenValid.Kept.{bare_operation, bare_fragment, IsOldSelection, with_below, Keeps}
use Rattle.gq_laws.proofs.RewrittenValid.KeptFragments.{KeepsFragments}
use Rattle.gq_laws.proofs.RewrittenValid.KeptVariables.{HasUsesOf}

-- what is seen alike in each item of a list before and after a change
pub seen_alike : {A K : Type 0} (h : A → K) (becomes : A → A) (xs : List A) → ((x : A) → Contains xs x → h (becomes x) ≡ h x) → map h (map becomes xs) ≡ map h xs
seen_alike h becomes [] each = refl
seen_alike h becomes (x ∷ xs) each = ap (λ z. z ∷ map h (map becomes xs)) (each x (first x x xs refl)) ∙ ap (λ z. h x ∷ z) (seen_alike h becomes xs (λ y c. each y (later x y xs c)))

-- An inline fragment that says nothing uses no variable.
no_use : (es : List EntryOf) (inner : Option Text) (h : Head Span) (name : NameOf Span) (place : PlaceOf) → SaysNothingIn inner h → StandsInSelection es inner h name place → ⊥
no_use es inner (tree.field alias text arguments directives braces span) name place says s = absurd says.2
no_use es inner (tree.spread text directives span) name place says s = absurd says.2
no_use es inner (tree.inline None directives braces span) name place says (in_arguments e s) = absurd (cc)
no_use es inner (tree.inline None directives braces span) name place says (in_directives s) = nothing_in s.directive (subst (λ z. Contains z s.directive) says.2.0 s.given)
no_use es inner (tree.inline (Some on) directives braces span) name place says (in_arguments e s) = absurd (cc)
no_use es inner (tree.inline (Some on) directives braces span) name place says (in_directives s) = nothing_in s.directive (subst (λ z. Contains z s.directive) says.2.0 s.given)

module _ (es : List EntryOf) (os : List OperationOf) (fs : List FragmentOf) (file : ℕ) (place : Span)
    (only_operation : (o : OperationOf) → Contains os o → nat_eq file o.file ≡ true → OnlyNothing es place (root_of es o.kind) o.set)
    (only_fragment : (f : FragmentOf) → Contains fs f → nat_eq file f.file ≡ true → OnlyNothing es place (Some f.on.text) f.set) where
  abbrev becomes_operation : OperationOf → OperationOf
  becomes_operation = changed_operation file (opened place)

  abbrev becomes_fragment : FragmentOf → FragmentOf
  becomes_fragment = changed_fragment file (opened place)

  abbrev pub ps : List OperationOf
  ps = map becomes_operation os

  abbrev pub gs : List FragmentOf
  gs = map becomes_fragment fs

  abbrev pub x : ExecutableOf
  x = record { entries = es; operations = os; fragments = fs }

  abbrev pub y : ExecutableOf
  y = record { entries = es; operations = ps; fragments = gs }

  -- one set
  module _ (parent : Option Text) (set : Sels Span) where
    was_by : (b : Bool) → (b ≡ true → OnlyNothing es place parent set) → (inner : Option Text) (s : Sel Span) → IsSelectionWithin es parent (if b then opened place set else set) inner s →
        StandsToo es parent set inner s.label
    was_by true only inner s w = stood es place parent set (only refl) inner s w
    was_by false only inner s w = (s.below, w)

    is_by : (b : Bool) → (b ≡ true → OnlyNothing es place parent set) → (inner : Option Text) (s : Sel Span) → IsSelectionWithin es parent set inner s →
        SaysNothingIn inner s.label ⊎ StandsToo es parent (if b then opened place set else set) inner s.label
    is_by true only inner s w = stays es place parent set (only refl) inner s w
    is_by false only inner s w = inr (s.below, w)

    names_by : (b : Bool) → (b ≡ true → OnlyNothing es place parent set) → spread_names (if b then opened place set else set) ≡ spread_names set
    names_by true only = names_opened es place parent set (only refl)
    names_by false only = refl

  -- its own selections
  of_operation_was : (o : OperationOf) → Contains os o → (s : SelectedOf) → IsOfOperation es (becomes_operation o) s → (b : Sels Span) × IsOfOperation es o (with_below s b)
  of_operation_was o c s w = let i = was_by (root_of es o.kind) o.set (nat_eq file o.file) (only_operation o c) s.parent s.selection w.1 in (i.0, (w.0, i.1))

  of_fragment_was : (f : FragmentOf) → Contains fs f → (s : SelectedOf) → IsOfFragment es (becomes_fragment f) s → (b : Sels Span) × IsOfFragment es f (with_below s b)
  of_fragment_was f c s w = let i = was_by (Some f.on.text) f.set (nat_eq file f.file) (only_fragment f c) s.parent s.selection w.1 in (i.0, (w.0, i.1))

  of_operation_is : (o : OperationOf) → Contains os o → (s : SelectedOf) → IsOfOperation es o s →
      SaysNothingIn s.parent s.selection.label ⊎ ((b : Sels Span) × IsOfOperation es (becomes_operation o) (with_below s b))
  of_operation_is o c s w = ⊎_elim (λ i. inl i) (λ i. inr (i.0, (w.0, i.1))) (is_by (root_of es o.kind) o.set (nat_eq file o.file) (only_operation o c) s.parent s.selection w.1)

  of_fragment_is : (f : FragmentOf) → Contains fs f → (s : SelectedOf) → IsOfFragment es f s →
      SaysNothingIn s.parent s.selection.label ⊎ ((b : Sels Span) × IsOfFragment es (becomes_fragment f) (with_below s b))
  of_fragment_is f c s w = ⊎_elim (λ i. inl i) (λ i. inr (i.0, (w.0, i.1))) (is_by (Some f.on.text) f.set (nat_eq file f.file) (only_fragment f c) s.parent s.selection w.1)

  selection_was : (s : SelectedOf) → IsSelected es ps gs s → IsOldSelection es os fs s
  selection_was s (selections.of_operation {o = p} c w) =
      let d = from_map becomes_operation os p c in
      let i = of_operation_was d.0 d.1 s (subst (λ z. IsOfOperation es z s) (sym d.2) w) in
      (i.0, selections.of_operation {o = d.0} d.1 i.1)
  selection_was s (selections.of_fragment {f = g} c w) =
      let d = from_map becomes_fragment fs g c in
      let i = of_fragment_was d.0 d.1 s (subst (λ z. IsOfFragment es z s) (sym d.2) w) in
      (i.0, selections.of_fragment {f = d.0} d.1 i.1)

  pub keeps : Keeps es os ps fs gs
  keeps = record {
    operations = sym (seen_alike bare_operation becomes_operation os (λ o c. refl));
    fragments = λ g c. let d = from_map becomes_fragment fs g c in inl (d.0, d.1, ap bare_fragment d.2);
    selections = λ s c. inl (selection_was s c);
  }

  spread_was : {h : Head Span} {condition : Text} {at : Span} → IsSpread gs h condition at → IsSpread fs h condition at
  spread_was (of_fragment {f = g} {name} {directives} {place = span} c same) =
      let d = from_map becomes_fragment fs g c in
      subst (λ z. IsSpread fs (spread name directives span) z name.place) (ap (λ z. z.on.text) d.2) (of_fragment {f = d.0} d.1 (ap (λ z. z.name.text) d.2 ∙ same))
  spread_was of_inline_fragment = of_inline_fragment

  pub keeps_fragments : KeepsFragments es os ps fs gs
  keeps_fragments = record {
    repeated = λ g r. let i = repeated (λ f. f.name.text) gs fs (seen_alike (λ f. f.name.text) becomes_fragment fs (λ f c. refl)) g r in (i.0, i.1);
    spreads = λ s c condition at w. inl (selection_was s c, spread_was w);
  }

  -- the names in spreads
  operation_texts : (o : OperationOf) → Contains os o → spread_texts (becomes_operation o).set ≡ spread_texts o.set
  operation_texts o c = ap (map (λ n. n.text)) (names_by (root_of es o.kind) o.set (nat_eq file o.file) (only_operation o c))

  fragment_texts : (f : FragmentOf) → Contains fs f → spread_texts (becomes_fragment f).set ≡ spread_texts f.set
  fragment_texts f c = ap (map (λ n. n.text)) (names_by (Some f.on.text) f.set (nat_eq file f.file) (only_fragment f c))

  operations_spread : map spreads_operation ps ≡ map spreads_operation os
  operations_spread = seen_alike spreads_operation becomes_operation os (λ o c. both refl (operation_texts o c))

  fragment_spreads : (f : FragmentOf) → Contains fs f → spreads_fragment (becomes_fragment f) ≡ spreads_fragment f
  fragment_spreads f c = all_three refl refl (fragment_texts f c)

  fragments_spread : map spreads_fragment gs ≡ map spreads_fragment fs
  fragments_spread = seen_alike spreads_fragment becomes_fragment fs fragment_spreads

  pub spreads_kept : IsFaultless IsSpreadFault x → IsFaultless IsSpreadFault y
  spreads_kept faultless f h = let g = same_spreads y x operations_spread fragments_spread f h in faultless g.0 g.1

  -- the uses of variables
  operation_used : (o : OperationOf) → Contains os o → (u : UseOf) → IsUsedInOperation es (becomes_operation o) u → IsUsedInOperation es o u
  operation_used o c u (in_selection {s} w is k) = let i = of_operation_was o c s w in in_selection {s = with_below s i.0} i.1 is k
  operation_used o c u (in_directive is k) = in_directive is k
  operation_used o c u (in_variable {v} is d k) = in_variable {v = v} is d k

  operation_uses : (o : OperationOf) → Contains os o → (u : UseOf) → IsUsedInOperation es o u → IsUsedInOperation es (becomes_operation o) u
  operation_uses o c u (in_selection {s} w is k) =
      ⊎_elim (λ n. absurd (no_use es s.parent s.selection.label u.name u.place n k)) (λ i. in_selection {s = with_below s i.0} i.1 is k) (of_operation_is o c s w)
  operation_uses o c u (in_directive is k) = in_directive is k
  operation_uses o c u (in_variable {v} is d k) = in_variable {v = v} is d k

  fragment_used : (f : FragmentOf) → Contains fs f → (u : UseOf) → IsUsedInFragment es (becomes_fragment f) u → IsUsedInFragment es f u
  fragment_used f c u (within_selection {s} w is k) = let i = of_fragment_was f c s w in within_selection {s = with_below s i.0} i.1 is k
  fragment_used f c u (within_directive is k) = within_directive is k

  fragment_uses : (f : FragmentOf) → Contains fs f → (u : UseOf) → IsUsedInFragment es f u → IsUsedInFragment es (becomes_fragment f) u
  fragment_uses f c u (within_selection {s} w is k) =
      ⊎_elim (λ n. absurd (no_use es s.parent s.selection.label u.name u.place n k)) (λ i. within_selection {s = with_below s i.0} i.1 is k) (of_fragment_is f c s w)
  fragment_uses f c u (within_directive is k) = within_directive is k

  use_was : (o : OperationOf) → Contains os o → (u : UseOf) → ReachesUse y (becomes_operation o) u → ReachesUse x o u
  use_was o c u (uses.of_itself k) = uses.of_itself (operation_used o c u k)
  use_was o c u (uses.of_fragment {f = g} way k) =
      let d = from_map becomes_fragment fs g (reached_stands gs (becomes_operation o).set g way) in
      let same : spreads_fragment g ≡ spreads_fragment d.0 = ap spreads_fragment (sym d.2) ∙ fragment_spreads d.0 d.1 in
      uses.of_fragment {f = d.0} (reaches_by gs fs fragments_spread way o.set (operation_texts o c) d.0 d.1 same) (fragment_used d.0 d.1 u (subst (λ z. IsUsedInFragment es z u) (sym d.2) k))

  use_is : (o : OperationOf) → Contains os o → (u : UseOf) → ReachesUse x o u → ReachesUse y (becomes_operation o) u
  use_is o c u (uses.of_itself k) = uses.of_itself (operation_uses o c u k)
  use_is o c u (uses.of_fragment {f} way k) =
      let d = reached_stands fs o.set f way in
      uses.of_fragment {f = becomes_fragment f}
      (reaches_by fs gs (sym fragments_spread) way (becomes_operation o).set (sym (operation_texts o c)) (becomes_fragment f) (to_map becomes_fragment fs f d) (sym (fragment_spreads f d)))
      (fragment_uses f d u k)

  pub has_uses : (p : OperationOf) → Contains ps p → HasUsesOf x y p
  has_uses p c =
      let d = from_map becomes_operation os p c in
      record {
        operation = d.0;
        stands = d.1;
        bare = ap bare_operation (sym d.2);
        were = λ u r. use_was d.0 d.1 u (subst (λ z. ReachesUse y z u) (sym d.2) r);
        are = λ u r. subst (λ z. ReachesUse y z u) d.2 (use_is d.0 d.1 u r);
      }
