-- Selections where something of what they say is forgotten, but not what the parent of those below them is.
use Rattle.std.proofs.Common.{◌≡◌, ℕ, List, Option, Some, map, ap, ◌∙◌, subst}
use Rattle.gq_text.specs.declared.place.Span.{Span}
use Rattle.gq_tree.specs.declared.tree.OperationKind.{OperationKind}
use Rattle.gq_tree.specs.Forest.{Forest, Tree, none, more, relabel, relabel_tree}
use Rattle.gq_tree.specs.Plain.{Head, Sel, Sels}
use Rattle.gq_types.specs.Entries.{Text, EntryOf}
use Rattle.gq_types.specs.Roots.{root_of}
use Rattle.gq_document.specs.Definitions.{OperationOf, FragmentOf}
use Rattle.gq_document.specs.Selections.{SelectedOf, parent_below, IsSelectionWithin, here, within, after, IsSelected}
use Rattle.gq_document.specs.Selections as selections
use Rattle.gq_types.proofs.Placing.Lists.{contains_by}

abbrev pub tree : {K : Type 0} → K → Forest K → Tree K
tree l b = record { label = l; below = b }

pub all_three : {A B C : Type 0} {a a2 : A} {b b2 : B} {c c2 : C} → a ≡ a2 → b ≡ b2 → c ≡ c2 → ◌≡◌ {A = A × B × C} (a, b, c) (a2, b2, c2)
all_three {a2 = a2} {b = b} {b2 = b2} {c = c} e f g = ap (λ z. (z, b, c)) e ∙ ap (λ z. (a2, z, c)) f ∙ ap (λ z. (a2, b2, z)) g

-- what of a definition leads to its selections
abbrev pub selects_operation : {K : Type 0} → (Head Span → K) → OperationOf → ℕ × OperationKind × Forest K
selects_operation h o = (o.file, o.kind, relabel h o.set)

abbrev pub selects_fragment : {K : Type 0} → (Head Span → K) → FragmentOf → ℕ × Text × Forest K
selects_fragment h f = (f.file, f.on.text, relabel h f.set)

module _ {K : Type 0} (h g : Head Span → K) (blind : (es : List EntryOf) (parent : Option Text) (a b : Head Span) → h a ≡ g b → parent_below es parent a ≡ parent_below es parent b) where
  pub within_by : (es : List EntryOf) {parent inner : Option Text} {ss : Sels Span} {s : Sel Span} → IsSelectionWithin es parent ss inner s →
      (ts : Sels Span) → relabel h ss ≡ relabel g ts → (t : Sel Span) × IsSelectionWithin es parent ts inner t × (relabel_tree h s ≡ relabel_tree g t)
  within_by es here none e = absurd (cc)
  within_by es (here {head = head} {below = below}) (more m c t) e =
      let labels : h head ≡ g m = cc in
      let belows : relabel h below ≡ relabel g c = cc in
      (record { label = m; below = c }, here, ap (λ l. tree l (relabel h below)) labels ∙ ap (λ b. tree (g m) b) belows)
  within_by es (within w) none e = absurd (cc)
  within_by es (within {parent = parent} {inner = inner} {head = head} {below = below} w) (more m c t) e =
      let labels : h head ≡ g m = cc in
      let belows : relabel h below ≡ relabel g c = cc in
      let r = within_by es w c belows in
      (r.0, within {selection = r.0} (subst (λ p. IsSelectionWithin es p c inner r.0) (blind es parent head m labels) r.1), r.2)
  within_by es (after w) none e = absurd (cc)
  within_by es (after {rest = rest} w) (more m c t) e =
      let rests : relabel h rest ≡ relabel g t = cc in
      let r = within_by es w t rests in
      (r.0, after {selection = r.0} r.1, r.2)

  pub selected_by : (es : List EntryOf) (os ps : List OperationOf) (fs gs : List FragmentOf) →
      map (selects_operation h) os ≡ map (selects_operation g) ps → map (selects_fragment h) fs ≡ map (selects_fragment g) gs → (s : SelectedOf) → IsSelected es os fs s →
      (t : Sel Span) × IsSelected es ps gs (record { file = s.file; parent = s.parent; selection = t }) × (relabel_tree h s.selection ≡ relabel_tree g t)
  selected_by es os ps fs gs eo ef s (selections.of_operation {o = o} c w) =
      let d = contains_by (selects_operation h) (selects_operation g) os ps eo o c in
      let p = d.0 in
      let r = within_by es w.1 p.set (ap (λ z. z.2) d.2) in
      (r.0, selections.of_operation {o = p} d.1 (w.0 ∙ ap (λ z. z.0) d.2, subst (λ k. IsSelectionWithin es (root_of es k) p.set s.parent r.0) (ap (λ z. z.1) d.2) r.1), r.2)
  selected_by es os ps fs gs eo ef s (selections.of_fragment {f = f} c w) =
      let d = contains_by (selects_fragment h) (selects_fragment g) fs gs ef f c in
      let p = d.0 in
      let r = within_by es w.1 p.set (ap (λ z. z.2) d.2) in
      (r.0, selections.of_fragment {f = p} d.1 (w.0 ∙ ap (λ z. z.0) d.2, subst (λ k. IsSelectionWithin es (Some k) p.set s.parent r.0) (ap (λ z. z.1) d.2) r.1), r.2)
