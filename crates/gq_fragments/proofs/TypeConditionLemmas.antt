-- What is told of type conditions is what the rules about them demand.
use Rattle.std.proofs.Common.{◌≡◌, ◌↔◌, ℕ, Bool, true, false, if◌then◌else◌, List, [], ◌∷◌, ◌++◌, Option, Some, None, Contains, flat_map, refl, sym, ap, ◌∙◌, subst, inl, inr}
use Rattle.std.proofs.lemmas.List.Elements.{Contains-append_left, Contains-append_right, Contains-append_cases}
use Rattle.gq_text.specs.declared.place.Span.{Span}
use Rattle.gq_tree.specs.Plain.{NameOf, Head, field, spread, inline}
use Rattle.gq_names.proofs.RepeatLemmas.{contains_none, contains_first}
use Rattle.gq_fault.specs.declared.code.Code.TheVariants.{UnknownTypeCondition, ConditionNotComposite}
use Rattle.gq_fault.specs.declared.fault.Fault.{Fault}
use Rattle.gq_types.specs.declared.entry.TypeKind.{TypeKind}
use Rattle.gq_types.specs.Entries.{EntryOf}
use Rattle.gq_types.specs.Kinds.{is_composite}
use Rattle.gq_types.specs.Joined.{kind_named}
use Rattle.gq_types.proofs.Gathered.{from_flat, to_flat, only}
use Rattle.gq_document.specs.Selections.{SelectedOf}
use Rattle.gq_document.specs.Executable.{ExecutableOf, Selects}
use Rattle.gq_fault.specs.FaultPlaces.{fault_at}
use Rattle.gq_fragments.specs.TypeConditions.{IsTypeCondition}
use Rattle.gq_fragments.specs.TypeConditions as condition
use Rattle.gq_fragments.specs.FragmentSpreadTypeExistence.{IsUnknownCondition}
use Rattle.gq_fragments.specs.FragmentsOnCompositeTypes.{IsConditionNotComposite}
use Rattle.gq_fragments.specs.ConditionFaults.{IsConditionFault}
use Rattle.gq_fragments.specs.ConditionFaults as rule
use Rattle.gq_fragments.specs.Helping.FragmentPlaces.{condition_of_kind, condition_faults, conditions_in, condition_of_selected, conditions_of_selections, condition_of_fragment, conditions_of_fragments, selections, is_of_fragment, of_fragments, conditions_of_all}
use Rattle.gq_fragments.proofs.SpreadLemmas.{from_selections, to_selections}

module _ (x : ExecutableOf) (item : Fault) where
  condition_is_fault : (file : ℕ) (name : NameOf Span) → IsTypeCondition x file name → (o : Option TypeKind) → kind_named x.entries name.text ≡ o →
      Contains (condition_of_kind file name o) item → IsConditionFault x item
  condition_is_fault file name is None unknown found =
      rule.unknown_condition (record { file = file; name = name; is_condition = is; is_unknown = unknown; is = only (fault_at file UnknownTypeCondition name) item found })
  condition_is_fault file name is (Some kind) known found = by_composite (is_composite kind) refl found
    where
      by_composite : (b : Bool) → is_composite kind ≡ b → Contains (if b then [] else fault_at file ConditionNotComposite name ∷ []) item → IsConditionFault x item
      by_composite true composite told = absurd (contains_none item told)
      by_composite false composite told = rule.condition_not_composite
          (record { file = file; name = name; is_condition = is; kind = kind; is_known = known; is_not_composite = composite; is = only (fault_at file ConditionNotComposite name) item told })

  fragment_condition_is_fault : Contains (conditions_of_fragments x.entries x.fragments) item → IsConditionFault x item
  fragment_condition_is_fault found =
      let one = from_flat (condition_of_fragment x.entries) x.fragments item found in
      condition_is_fault one.0.file one.0.on (condition.of_fragment one.1) (kind_named x.entries one.0.on.text) refl one.2

  selected_condition_is_fault : (s : SelectedOf) → Selects x s → (h : Head Span) → s.selection.label ≡ h → Contains (conditions_in x.entries s.file h) item → IsConditionFault x item
  selected_condition_is_fault s selects (field alias name arguments directives braces place) is found = absurd (contains_none item found)
  selected_condition_is_fault s selects (spread name directives place) is found = absurd (contains_none item found)
  selected_condition_is_fault s selects (inline None directives braces place) is found = absurd (contains_none item found)
  selected_condition_is_fault s selects (inline (Some name) directives braces place) is found =
      condition_is_fault s.file name (condition.of_inline_fragment selects is) (kind_named x.entries name.text) refl found

  inline_condition_is_fault : Contains (conditions_of_selections x.entries (selections x)) item → IsConditionFault x item
  inline_condition_is_fault found =
      let one = from_flat (condition_of_selected x.entries) (selections x) item found in
      selected_condition_is_fault one.0 (from_selections x one.0 one.1) one.0.selection.label refl one.2

  to_condition : {file : ℕ} {name : NameOf Span} → IsTypeCondition x file name → Contains (condition_faults x.entries file name) item → Contains (conditions_of_all x) item
  to_condition (condition.of_fragment {f} stands) c = Contains-append_left (conditions_of_fragments x.entries x.fragments) (conditions_of_selections x.entries (selections x)) item
      (to_flat (condition_of_fragment x.entries) x.fragments f item stands c)
  to_condition (condition.of_inline_fragment {s} {name} {directives} {braces} {place} selects is) c =
      Contains-append_right (conditions_of_fragments x.entries x.fragments) (conditions_of_selections x.entries (selections x)) item
      (to_flat (condition_of_selected x.entries) (selections x) s item (to_selections x s selects)
      (subst (λ h. Contains (conditions_in x.entries s.file h) item) (sym is) c))

  to_unknown : IsUnknownCondition x item → Contains (conditions_of_all x) item
  to_unknown w = to_condition w.is_condition
      (subst (λ o. Contains (condition_of_kind w.file w.name o) item) (sym w.is_unknown) (contains_first (fault_at w.file UnknownTypeCondition w.name) [] item (sym w.is)))

  to_not_composite : IsConditionNotComposite x item → Contains (conditions_of_all x) item
  to_not_composite w = to_condition w.is_condition
      (subst (λ o. Contains (condition_of_kind w.file w.name o) item) (sym w.is_known)
      (subst (λ b. Contains (if b then [] else fault_at w.file ConditionNotComposite w.name ∷ []) item) (sym w.is_not_composite) (contains_first (fault_at w.file ConditionNotComposite w.name) [] item (sym w.is))))

  condition_is : Contains (conditions_of_all x) item → IsConditionFault x item
  condition_is found = elim (Contains-append_cases (conditions_of_fragments x.entries x.fragments) (conditions_of_selections x.entries (selections x)) item found) [
    | inl a ↦ fragment_condition_is_fault a
    | inr b ↦ inline_condition_is_fault b
  ]

  to_conditions : IsConditionFault x item → Contains (conditions_of_all x) item
  to_conditions (rule.unknown_condition w) = to_unknown w
  to_conditions (rule.condition_not_composite w) = to_not_composite w

  pub conditions_are : Contains (conditions_of_all x) item ↔ IsConditionFault x item
  conditions_are = (condition_is, to_conditions)

-- of a field nothing is told, so that what is told of selections is told of those that are none
no_condition : (es : List EntryOf) (file : ℕ) (h : Head Span) → is_of_fragment h ≡ false → conditions_in es file h ≡ []
no_condition es file (field alias name arguments directives braces place) e = refl
no_condition es file (spread name directives place) e = absurd (cc)
no_condition es file (inline on directives braces place) e = absurd (cc)

pub told_of : (f : SelectedOf → List Fault) → ((s : SelectedOf) → is_of_fragment s.selection.label ≡ false → f s ≡ []) → (ss : List SelectedOf) → flat_map f (of_fragments ss) ≡ flat_map f ss
told_of f none [] = refl
told_of f none (s ∷ ss) = by (is_of_fragment s.selection.label) refl (told_of f none ss)
  where
    by : (b : Bool) → is_of_fragment s.selection.label ≡ b → flat_map f (of_fragments ss) ≡ flat_map f ss → flat_map f (if b then s ∷ of_fragments ss else of_fragments ss) ≡ f s ++ flat_map f ss
    by true e rest = ap (λ (l : List Fault). f s ++ l) rest
    by false e rest = rest ∙ ap (λ (l : List Fault). l ++ flat_map f ss) (sym (none s e))

pub told_of_conditions : (es : List EntryOf) (ss : List SelectedOf) → conditions_of_selections es (of_fragments ss) ≡ conditions_of_selections es ss
told_of_conditions es ss = told_of (condition_of_selected es) (λ s e. no_condition es s.file s.selection.label e) ss
