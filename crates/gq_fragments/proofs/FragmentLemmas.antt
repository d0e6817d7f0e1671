-- What is told of fragments is what the rules demand.
use Rattle.std.proofs.Common.{◌≡◌, ◌↔◌, ℕ, Bool, true, false, is_some, not, ◌&&◌, List, [], ◌++◌, Option, Some, None, Contains, refl, sym, ap, ◌∙◌, subst, inl, inr}
use Rattle.std.specs.Str.{bytes_eq}
use Rattle.std.specs.Cmp.Lexicographic.{bytes_decides}
use Rattle.std.proofs.lemmas.List.Elements.{Contains-append_left, Contains-append_right, Contains-append_cases}
use Rattle.gq_text.specs.declared.place.Span.{Span}
use Rattle.gq_tree.specs.Plain.{NameOf, Head, field, spread, inline}
use Rattle.gq_names.specs.Repeats.{repeated}
use Rattle.gq_names.proofs.RepeatLemmas.{contains_none, repeated_is}
use Rattle.gq_fault.specs.declared.code.Code.TheVariants.{FragmentNameNotUnique, SpreadNotPossible}
use Rattle.gq_fault.specs.declared.fault.Fault.{Fault}
use Rattle.gq_types.specs.Entries.{Text, EntryOf}
use Rattle.gq_types.specs.Joined.{kind_named}
use Rattle.gq_types.proofs.Gathered.{from_flat, to_flat, from_any, to_any, and_parts, and_both, not_true, from_if, to_if, from_map_as as from_map, to_map_as as to_map}
use Rattle.gq_document.specs.Definitions.{FragmentOf}
use Rattle.gq_document.specs.Selections.{SelectedOf}
use Rattle.gq_document.specs.Executable.{ExecutableOf, Selects}
use Rattle.gq_fault.specs.FaultPlaces.{fault_over, fault_at, first_bytes}
use Rattle.gq_fragments.specs.FragmentNameUniqueness.{IsRepeatedFragmentName}
use Rattle.gq_fragments.specs.FragmentSpreadIsPossible.{HaveNoObject, IsSpread, IsSpreadNotPossible}
use Rattle.gq_fragments.specs.FragmentSpreadIsPossible as spreads
use Rattle.gq_fragments.specs.ConditionFaults.{IsConditionFault}
use Rattle.gq_fragments.specs.ConditionFaults as rule
use Rattle.gq_fragments.specs.FragmentFaults.{IsFragmentFault}
use Rattle.gq_fragments.specs.FragmentFaults as fault
use Rattle.gq_fragments.specs.Helping.FragmentPlaces.{repeated_names, conditions_of_selections, conditions_of_fragments, share_object, is_impossible, impossible_under, impossible_in, is_on, some_condition, impossible_once, impossible_by, impossible_at, impossible_spreads, selections, is_of_fragment, of_fragments, faults_of_selections, fragment_faults}
use Rattle.gq_fragments.proofs.FoundLemmas.{found_some}
use Rattle.gq_fragments.proofs.SharedLemmas.{share_decides}
use Rattle.gq_fragments.proofs.SpreadLemmas.{from_selections, to_selections}
use Rattle.gq_fragments.proofs.TypeConditionLemmas.{conditions_are, told_of, told_of_conditions}

-- two types without an object type in common
have_no_object : (es : List EntryOf) (parent condition : Text) → is_impossible es parent condition ≡ true → HaveNoObject es parent condition
have_no_object es parent condition h =
    let first = and_parts (is_some (kind_named es parent)) (is_some (kind_named es condition) && not (share_object es parent condition)) h in
    let second = and_parts (is_some (kind_named es condition)) (not (share_object es parent condition)) first.1 in
    let one = found_some (kind_named es parent) first.0 in
    let other = found_some (kind_named es condition) second.0 in
    let not_shared = not_true (share_object es parent condition) second.1 in
    record {
      parent_kind = one.0;
      parent_is_known = one.1;
      condition_kind = other.0;
      condition_is_known = other.1;
      none_is_possible = λ object a b. let shared = (share_decides es parent condition).1 (object, a, b) in absurd (cc);
    }

to_impossible : (es : List EntryOf) (parent condition : Text) → HaveNoObject es parent condition → is_impossible es parent condition ≡ true
to_impossible es parent condition w =
    and_both (is_some (kind_named es parent)) (is_some (kind_named es condition) && not (share_object es parent condition)) (ap is_some w.parent_is_known)
    (and_both (is_some (kind_named es condition)) (not (share_object es parent condition)) (ap is_some w.condition_is_known) (by_shared (share_object es parent condition) refl))
  where
    by_shared : (b : Bool) → share_object es parent condition ≡ b → not b ≡ true
    by_shared true is = let s = (share_decides es parent condition).0 is in absurd (w.none_is_possible s.0 s.1 s.2)
    by_shared false is = refl

module _ (x : ExecutableOf) (item : Fault) where
  -- names of fragments
  repeated_is_fault : Contains (repeated_names [] x.fragments) item → IsFragmentFault x item
  repeated_is_fault found =
      let one = from_map (λ f. fault_at f.file FragmentNameNotUnique f.name) (repeated (λ f. f.name.text) x.fragments) item found in
      fault.repeated_fragment_name (record { later = one.0; is_repeated = (repeated_is (λ (f : FragmentOf). f.name.text) x.fragments one.0).0 one.1; is = one.2 })

  to_repeated : IsRepeatedFragmentName x item → Contains (repeated_names [] x.fragments) item
  to_repeated w =
      to_map (λ f. fault_at f.file FragmentNameNotUnique f.name) (repeated (λ f. f.name.text) x.fragments) w.later item
      ((repeated_is (λ (f : FragmentOf). f.name.text) x.fragments w.later).1 w.is_repeated) w.is

  -- type conditions
  condition_is_fault : IsConditionFault x item → IsFragmentFault x item
  condition_is_fault (rule.unknown_condition w) = fault.unknown_condition w
  condition_is_fault (rule.condition_not_composite w) = fault.condition_not_composite w

  fragment_condition_is_fault : Contains (conditions_of_fragments x.entries x.fragments) item → IsFragmentFault x item
  fragment_condition_is_fault found =
      condition_is_fault ((conditions_are x item).0 (Contains-append_left (conditions_of_fragments x.entries x.fragments) (conditions_of_selections x.entries (selections x)) item found))

  inline_condition_is_fault : Contains (conditions_of_selections x.entries (selections x)) item → IsFragmentFault x item
  inline_condition_is_fault found =
      condition_is_fault ((conditions_are x item).0 (Contains-append_right (conditions_of_fragments x.entries x.fragments) (conditions_of_selections x.entries (selections x)) item found))

  -- where a fault stands among all
  in_conditions_of_fragments : Contains (conditions_of_fragments x.entries x.fragments) item → Contains (fragment_faults x) item
  in_conditions_of_fragments c =
      Contains-append_right (repeated_names [] x.fragments) (conditions_of_fragments x.entries x.fragments ++ faults_of_selections x (selections x)) item
      (Contains-append_left (conditions_of_fragments x.entries x.fragments) (faults_of_selections x (selections x)) item c)

  in_selections : Contains (faults_of_selections x (selections x)) item → Contains (fragment_faults x) item
  in_selections c =
      Contains-append_right (repeated_names [] x.fragments) (conditions_of_fragments x.entries x.fragments ++ faults_of_selections x (selections x)) item
      (Contains-append_right (conditions_of_fragments x.entries x.fragments) (faults_of_selections x (selections x)) item c)

  in_conditions_of_selections : Contains (conditions_of_selections x.entries (selections x)) item → Contains (fragment_faults x) item
  in_conditions_of_selections c = in_selections (Contains-append_left (conditions_of_selections x.entries (selections x)) (impossible_spreads x.entries x.fragments (selections x)) item c)

  in_conditions : IsConditionFault x item → Contains (fragment_faults x) item
  in_conditions w = elim (Contains-append_cases (conditions_of_fragments x.entries x.fragments) (conditions_of_selections x.entries (selections x)) item ((conditions_are x item).1 w)) [
    | inl a ↦ in_conditions_of_fragments a
    | inr b ↦ in_conditions_of_selections b
  ]

  in_impossible_spreads : Contains (impossible_spreads x.entries x.fragments (selections x)) item → Contains (fragment_faults x) item
  in_impossible_spreads c = in_selections (Contains-append_right (conditions_of_selections x.entries (selections x)) (impossible_spreads x.entries x.fragments (selections x)) item c)

  -- spreads
  impossible_is_fault : (s : SelectedOf) → Selects x s → (type_name : Text) (place : Span) → IsSpread x.fragments s.selection.label type_name place → (o : Option Text) → s.parent ≡ o →
      Contains (impossible_under x.entries s.file place o type_name) item → IsFragmentFault x item
  impossible_is_fault s selects type_name place is None below found = absurd (contains_none item found)
  impossible_is_fault s selects type_name place is (Some parent) below found =
      let told = from_if (is_impossible x.entries parent type_name) (fault_over s.file SpreadNotPossible place) item found in
      fault.spread_not_possible (record {
        selected = s;
        is_selected = selects;
        parent = parent;
        is_below = below;
        condition = type_name;
        place = place;
        is_spread = is;
        have_no_object = have_no_object x.entries parent type_name told.0;
        is = told.1;
      })

  spread_is_fault : (s : SelectedOf) → Selects x s → (h : Head Span) → s.selection.label ≡ h → Contains (impossible_by x.entries x.fragments s h) item → IsFragmentFault x item
  spread_is_fault s selects (field alias name arguments directives braces place) is found = absurd (contains_none item found)
  spread_is_fault s selects (spread name directives place) is found = by_parent s.parent refl found
    where
      by_parent : (o : Option Text) → s.parent ≡ o → Contains (impossible_once x.entries x.fragments s.file name o) item → IsFragmentFault x item
      by_parent None below told = absurd (contains_none item told)
      by_parent (Some parent) below told =
          let told_at = from_if (some_condition (is_impossible x.entries parent) x.fragments name.text) (fault_over s.file SpreadNotPossible name.place) item told in
          let one = from_any (is_on name.text (is_impossible x.entries parent)) x.fragments told_at.0 in
          let parts = and_parts (bytes_eq name.text one.0.name.text) (is_impossible x.entries parent one.0.on.text) one.2 in
          let has_name = sym ((bytes_decides name.text one.0.name.text).0 parts.0) in
          let spread_is = spreads.of_fragment {directives = directives} {place = place} one.1 has_name in
          impossible_is_fault s selects one.0.on.text name.place (subst (λ h. IsSpread x.fragments h one.0.on.text name.place) (sym is) spread_is) (Some parent) below
          (to_if (is_impossible x.entries parent one.0.on.text) (fault_over s.file SpreadNotPossible name.place) item parts.1 told_at.1)
  spread_is_fault s selects (inline None directives braces place) is found = absurd (contains_none item found)
  spread_is_fault s selects (inline (Some name) directives braces place) is found =
      impossible_is_fault s selects name.text (first_bytes 3 place) (subst (λ h. IsSpread x.fragments h name.text (first_bytes 3 place)) (sym is) spreads.of_inline_fragment) s.parent refl found

  impossible_spread_is_fault : Contains (impossible_spreads x.entries x.fragments (selections x)) item → IsFragmentFault x item
  impossible_spread_is_fault found =
      let one = from_flat (impossible_at x.entries x.fragments) (selections x) item found in
      spread_is_fault one.0 (from_selections x one.0 one.1) one.0.selection.label refl one.2

  to_once : (file : ℕ) (name : NameOf Span) (f : FragmentOf) → Contains x.fragments f → f.name.text ≡ name.text → (o : Option Text) →
      Contains (impossible_under x.entries file name.place o f.on.text) item → Contains (impossible_once x.entries x.fragments file name o) item
  to_once file name f stands has_name None told = told
  to_once file name f stands has_name (Some parent) told =
      let one = from_if (is_impossible x.entries parent f.on.text) (fault_over file SpreadNotPossible name.place) item told in
      let both = and_both (bytes_eq name.text f.name.text) (is_impossible x.entries parent f.on.text) ((bytes_decides name.text f.name.text).1 (sym has_name)) one.0 in
      to_if (some_condition (is_impossible x.entries parent) x.fragments name.text) (fault_over file SpreadNotPossible name.place) item
      (to_any (is_on name.text (is_impossible x.entries parent)) x.fragments f stands both) one.1

  to_by_head : (s : SelectedOf) {h : Head Span} {type_name : Text} {place : Span} → IsSpread x.fragments h type_name place → Contains (impossible_in x.entries s place type_name) item →
      Contains (impossible_by x.entries x.fragments s h) item
  to_by_head s (spreads.of_fragment {f} {name} {directives} {place} stands has_name) told = to_once s.file name f stands has_name s.parent told
  to_by_head s spreads.of_inline_fragment told = told

  to_spread : IsSpreadNotPossible x item → Contains (fragment_faults x) item
  to_spread w =
      let told = to_if (is_impossible x.entries w.parent w.condition) (fault_over w.selected.file SpreadNotPossible w.place) item (to_impossible x.entries w.parent w.condition w.have_no_object) w.is in
      let below = subst (λ o. Contains (impossible_under x.entries w.selected.file w.place o w.condition) item) (sym w.is_below) told in
      in_impossible_spreads (to_flat (impossible_at x.entries x.fragments) (selections x) w.selected item (to_selections x w.selected w.is_selected) (to_by_head w.selected w.is_spread below))

  -- all rules
  fault_is : Contains (fragment_faults x) item → IsFragmentFault x item
  fault_is found =
      elim (Contains-append_cases (repeated_names [] x.fragments) (conditions_of_fragments x.entries x.fragments ++ faults_of_selections x (selections x)) item found) [
        | inl a ↦ repeated_is_fault a
        | inr b ↦ elim (Contains-append_cases (conditions_of_fragments x.entries x.fragments) (faults_of_selections x (selections x)) item b) [
          | inl a ↦ fragment_condition_is_fault a
          | inr b ↦ elim (Contains-append_cases (conditions_of_selections x.entries (selections x)) (impossible_spreads x.entries x.fragments (selections x)) item b) [
            | inl a ↦ inline_condition_is_fault a
            | inr b ↦ impossible_spread_is_fault b
          ]
        ]
      ]

  to_faults : IsFragmentFault x item → Contains (fragment_faults x) item
  to_faults (fault.repeated_fragment_name w) =
      Contains-append_left (repeated_names [] x.fragments) (conditions_of_fragments x.entries x.fragments ++ faults_of_selections x (selections x)) item (to_repeated w)
  to_faults (fault.unknown_condition w) = in_conditions (rule.unknown_condition w)
  to_faults (fault.condition_not_composite w) = in_conditions (rule.condition_not_composite w)
  to_faults (fault.spread_not_possible w) = to_spread w

  pub fragment_faults_are : Contains (fragment_faults x) item ↔ IsFragmentFault x item
  fragment_faults_are = (fault_is, to_faults)

-- of a field nothing is told
no_spread : (es : List EntryOf) (fs : List FragmentOf) (s : SelectedOf) (h : Head Span) → is_of_fragment h ≡ false → impossible_by es fs s h ≡ []
no_spread es fs s (field alias name arguments directives braces place) e = refl
no_spread es fs s (spread name directives place) e = absurd (cc)
no_spread es fs s (inline on directives braces place) e = absurd (cc)

pub told_of_fragments : (x : ExecutableOf) (ss : List SelectedOf) → faults_of_selections x (of_fragments ss) ≡ faults_of_selections x ss
told_of_fragments x ss =
    ap (λ (l : List Fault). l ++ impossible_spreads x.entries x.fragments (of_fragments ss)) (told_of_conditions x.entries ss)
    ∙ ap (λ (l : List Fault). conditions_of_selections x.entries ss ++ l) (told_of (impossible_at x.entries x.fragments) (λ s e. no_spread x.entries x.fragments s s.selection.label e) ss)
