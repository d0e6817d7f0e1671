-- The lists of selections hold what stands in the trees.
use Rattle.std.proofs.Common.{◌≡◌, ◌↔◌, ℕ, List, Option, Some, refl, sym, ap, subst, Contains, inl, inr}
use Rattle.std.proofs.lemmas.List.Elements.{Contains-append_left, Contains-append_right, Contains-append_cases}
use Rattle.gq_text.specs.declared.place.Span.{Span}
use Rattle.gq_tree.specs.Forest.{none, more}
use Rattle.gq_tree.specs.Plain.{Sel, Sels}
use Rattle.gq_names.proofs.RepeatLemmas.{contains_none, contains_later, contains_first, contains_cases}
use Rattle.gq_types.specs.Entries.{Text, EntryOf}
use Rattle.gq_types.specs.Roots.{root_of}
use Rattle.gq_document.specs.Definitions.{OperationOf, FragmentOf}
use Rattle.gq_document.specs.Selections.{SelectedOf, IsSelectionWithin, here, within, after, parent_below, selected_among, operation_selections, fragment_selections, IsOfOperation, IsOfFragment}

pub from_among : (es : List EntryOf) (file : ℕ) (parent : Option Text) (ss : Sels Span) (s : SelectedOf) →
    Contains (selected_among es file parent ss) s → (s.file ≡ file) × IsSelectionWithin es parent ss s.parent s.selection
from_among es file parent none s c = absurd (contains_none s c)
from_among es file parent (more head below rest) s c = elim (contains_cases _ _ s c) [
  | inl e ↦ (ap (λ x. x.file) (sym e), subst (λ x. IsSelectionWithin es parent (more head below rest) x.parent x.selection) e here)
  | inr d ↦ elim (Contains-append_cases (selected_among es file (parent_below es parent head) below) (selected_among es file parent rest) s d) [
    | inl a ↦ let q = from_among es file (parent_below es parent head) below s a in (q.0, within q.1)
    | inr b ↦ let q = from_among es file parent rest s b in (q.0, after q.1)
  ]
]

to_among : (es : List EntryOf) (file : ℕ) (parent inner : Option Text) (ss : Sels Span) (selection : Sel Span) →
    IsSelectionWithin es parent ss inner selection → Contains (selected_among es file parent ss) (record { file = file; parent = inner; selection = selection })
to_among es file parent inner none selection s = elim s [ ]
to_among es file parent inner (more head below rest) selection here = contains_first _ _ _ refl
to_among es file parent inner (more head below rest) selection (within w) =
    contains_later _ _ _ (Contains-append_left _ _ _ (to_among es file (parent_below es parent head) inner below selection w))
to_among es file parent inner (more head below rest) selection (after w) =
    contains_later _ _ _ (Contains-append_right _ _ _ (to_among es file parent inner rest selection w))

pub holds : (es : List EntryOf) (file : ℕ) (parent : Option Text) (ss : Sels Span) (s : SelectedOf) →
    Contains (selected_among es file parent ss) s ↔ ((s.file ≡ file) × IsSelectionWithin es parent ss s.parent s.selection)
holds es file parent ss s =
    (from_among es file parent ss s, λ q. subst (λ k. Contains (selected_among es k parent ss) s) q.0 (to_among es s.file parent s.parent ss s.selection q.1))

pub operation_holds : (es : List EntryOf) (o : OperationOf) (s : SelectedOf) → Contains (operation_selections es o) s ↔ IsOfOperation es o s
operation_holds es o s = holds es o.file (root_of es o.kind) o.set s

pub fragment_holds : (es : List EntryOf) (f : FragmentOf) (s : SelectedOf) → Contains (fragment_selections es f) s ↔ IsOfFragment es f s
fragment_holds es f s = holds es f.file (Some f.on.text) f.set s
