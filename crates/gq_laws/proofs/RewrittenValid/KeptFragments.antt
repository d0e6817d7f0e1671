-- Rules of fragments where selections were moved, all places kept.
use Rattle.std.proofs.Common.{◌≡◌, ◌⊎◌, ⊎_elim, inl, inr, ℕ, true, List, Some, refl, sym, ap, ◌∙◌, subst}
use Rattle.gq_text.specs.declared.place.Span.{Span}
use Rattle.gq_fault.specs.declared.fault.Fault.{Fault}
use Rattle.gq_tree.specs.Plain.{NameOf}
use Rattle.gq_types.specs.declared.entry.TypeKind.{TypeKind}
use Rattle.gq_types.specs.Entries.{Text, EntryOf}
use Rattle.gq_types.specs.Kinds.{is_composite}
use Rattle.gq_types.specs.Joined.{kind_named}
use Rattle.gq_names.specs.Repeats.{IsRepeated}
use Rattle.gq_document.specs.Definitions.{OperationOf, FragmentOf}
use Rattle.gq_document.specs.Selections.{SelectedOf, IsSelected}
use Rattle.gq_document.specs.Executable.{ExecutableOf}
use Rattle.gq_fragments.specs.FragmentFaults.{IsFragmentFault, repeated_fragment_name, unknown_condition, condition_not_composite, spread_not_possible}
use Rattle.gq_fragments.specs.FragmentSpreadIsPossible.{HaveNoObject, IsSpread}
use Rattle.gq_fragments.specs.TypeConditions.{IsTypeCondition}
use Rattle.gq_fragments.specs.TypeConditions as conditions
use Rattle.gq_laws.specs.Placing.Types.{IsFaultless}
use Rattle.gq_laws.proofs.RewrittenValid.Kept.{IsBareSpread, IsOldSelection, with_below, Keeps}

-- a composite type has the name
pub record IsComposite (es : List EntryOf) (text : Text) : Type 0 where
  pub kind : TypeKind
  pub is_kind : kind_named es text ≡ Some kind
  pub composite : is_composite kind ≡ true

-- What is spread was spread before, or is possible where it stands.
abbrev pub WasSpread : List EntryOf → List OperationOf → List FragmentOf → SelectedOf → Text → Span → Type 0
WasSpread es os fs s condition place = IsOldSelection es os fs s × IsSpread fs s.selection.label condition place

abbrev pub IsPossibleThere : List EntryOf → SelectedOf → Text → Type 0
IsPossibleThere es s condition = (p : Text) → s.parent ≡ Some p → HaveNoObject es p condition → ⊥

-- No name of a fragment is repeated that was not, and each spread is as before or possible.
pub record KeepsFragments (es : List EntryOf) (os ps : List OperationOf) (fs gs : List FragmentOf) : Type 0 where
  pub repeated : (g : FragmentOf) → IsRepeated (λ f. f.name.text) gs g → (f : FragmentOf) × IsRepeated (λ f. f.name.text) fs f
  pub spreads : (s : SelectedOf) → IsSelected es ps gs s → (condition : Text) (place : Span) → IsSpread gs s.selection.label condition place →
      WasSpread es os fs s condition place ⊎ IsPossibleThere es s condition

module _ (es : List EntryOf) (os ps : List OperationOf) (fs gs : List FragmentOf) (keeps : Keeps es os ps fs gs) (more : KeepsFragments es os ps fs gs) where
  abbrev x : ExecutableOf
  x = record { entries = es; operations = os; fragments = fs }

  abbrev y : ExecutableOf
  y = record { entries = es; operations = ps; fragments = gs }

  condition_was : {file : ℕ} {name : NameOf Span} → IsTypeCondition y file name → IsTypeCondition x file name ⊎ IsComposite es name.text
  condition_was (conditions.of_fragment {f = g} c) =
      ⊎_elim (λ d. inl (subst (λ z. IsTypeCondition x z.file z.on) d.2 (conditions.of_fragment {f = d.0} d.1))) (λ n. inr (record { kind = n.kind; is_kind = n.is_kind; composite = n.composite }))
      (keeps.fragments g c)
  condition_was {file} {name} (conditions.of_inline_fragment {s} c e) =
      ⊎_elim (λ d. inl (conditions.of_inline_fragment {s = with_below s d.0} d.1 e)) (λ n. let a : IsBareSpread s.selection.label = n in let b = a.is in absurd (cc)) (keeps.selections s c)

  fragment_fault_was : IsFaultless IsFragmentFault x → (f : Fault) → IsFragmentFault y f → ⊥
  fragment_fault_was none f (repeated_fragment_name h) =
      let r = more.repeated h.later h.is_repeated in none _ (repeated_fragment_name (record { later = r.0; is_repeated = r.1; is = refl }))
  fragment_fault_was none f (unknown_condition h) =
      ⊎_elim (λ c. none f (unknown_condition (record { file = h.file; name = h.name; is_condition = c; is_unknown = h.is_unknown; is = h.is })))
      (λ c. let a : kind_named es h.name.text ≡ Some c.kind = c.is_kind in let b = h.is_unknown in absurd (cc)) (condition_was h.is_condition)
  fragment_fault_was none f (condition_not_composite h) =
      ⊎_elim (λ c. none f (condition_not_composite (record { file = h.file; name = h.name; is_condition = c; kind = h.kind; is_known = h.is_known; is_not_composite = h.is_not_composite; is = h.is })))
      (λ c.
      let a : Some c.kind ≡ Some h.kind = sym c.is_kind ∙ h.is_known in
      let b : c.kind ≡ h.kind = cc in
      let d : is_composite h.kind ≡ true = ap is_composite (sym b) ∙ c.composite in
      let e = h.is_not_composite in
      absurd (cc)) (condition_was h.is_condition)
  fragment_fault_was none f (spread_not_possible h) =
      ⊎_elim (λ w. none f (spread_not_possible (record {
        selected = with_below h.selected w.0.0;
        is_selected = w.0.1;
        parent = h.parent;
        is_below = h.is_below;
        condition = h.condition;
        place = h.place;
        is_spread = w.1;
        have_no_object = h.have_no_object;
        is = h.is;
      }))) (λ p. p h.parent h.is_below h.have_no_object) (more.spreads h.selected h.is_selected h.condition h.place h.is_spread)

  pub fragments_kept : IsFaultless IsFragmentFault x → IsFaultless IsFragmentFault y
  fragments_kept none f h = fragment_fault_was none f h
