-- The faults of fragments and type conditions where a spread is inlined: none that was not there.
use Rattle.std.proofs.Common.{◌≡◌, ℕ, zero, suc, ◌<◌, Bool, true, false, List, [], ◌∷◌, Some, Contains, ◌⊎◌, inl, inr, map, refl, sym, ap, ◌∙◌, subst, arith}
use Rattle.std.specs.Prelude.{filter, if◌then◌else◌}
use Rattle.gq_text.specs.declared.place.Span.{Span}
use Rattle.gq_fault.specs.declared.fault.Fault.{Fault}
use Rattle.gq_fault.specs.FaultPlaces.{fault_at, fault_over}
use Rattle.gq_fault.specs.declared.code.Code.TheVariants.{FragmentNameNotUnique, UnknownTypeCondition, ConditionNotComposite, SpreadNotPossible}
use Rattle.gq_tree.specs.Plain.{NameOf, DirectiveOf, Head, spread, inline}
use Rattle.gq_names.specs.Repeats.{StandsAt, IsRepeated}
use Rattle.gq_types.specs.Entries.{Text}
use Rattle.gq_types.specs.Joined.{kind_named}
use Rattle.gq_types.proofs.Gathered.{from_filter}
use Rattle.gq_document.specs.Definitions.{FragmentOf}
use Rattle.gq_document.specs.Selections.{SelectedOf}
use Rattle.gq_document.specs.Executable.{ExecutableOf}
use Rattle.gq_fragments.specs.TypeConditions.{IsTypeCondition}
use Rattle.gq_fragments.specs.TypeConditions as conditions
use Rattle.gq_fragments.specs.FragmentSpreadIsPossible.{IsSpread, HaveNoObject}
use Rattle.gq_fragments.specs.FragmentSpreadIsPossible as possible
use Rattle.gq_fragments.specs.FragmentFaults.{IsFragmentFault, repeated_fragment_name, unknown_condition, condition_not_composite, spread_not_possible}
use Rattle.gq_laws.specs.Rewriting.Edits.{SpreadAt}
use Rattle.gq_laws.proofs.RewrittenValid.InlinedSets.{new_head}
use Rattle.gq_laws.proofs.RewrittenValid.InlinedProject.{inlined_fragment, fragment_stays, inlined_executable}
use Rattle.gq_laws.proofs.RewrittenValid.InlinedFacts.{CanBeInlined, was_fragment, CameSelected, was_there, was_spread, was_in_fragment, came_selected}

-- what is repeated in some items of a list, changed, is repeated in it
module _ {A : Type 0} (text : A → List ℕ) where
  repeated_later : (y : A) (ys : List A) (x : A) → IsRepeated text ys x → IsRepeated text (y ∷ ys) x
  repeated_later y ys x (i, at) = (
    suc i,
    record {
      here = (omega (arith, at.here.0), at.here.1);
      earlier = suc at.earlier;
      is_earlier = omega (arith, at.is_earlier);
      other = at.other;
      stands_earlier = (omega (arith, at.stands_earlier.0), at.stands_earlier.1);
      same_text = at.same_text;
    },
  )

  repeated_first : (y : A) (ys : List A) (x : A) → text y ≡ text x → Contains ys x → IsRepeated text (y ∷ ys) x
  repeated_first y ys x same (k, inside, is) =
      (suc k, record { here = (omega (arith, inside), is); earlier = 0; is_earlier = omega arith; other = y; stands_earlier = (omega arith, refl); same_text = same })

  by_places : (y : A) (ys : List A) (x : A) (i e : ℕ) (other : A) → StandsAt (y ∷ ys) i x → e < i → StandsAt (y ∷ ys) e other → text other ≡ text x →
      ((text y ≡ text x) × Contains ys x) ⊎ IsRepeated text ys x
  by_places y ys x zero e other at lt there same = absurd (omega (arith, lt))
  by_places y ys x (suc i) zero other at lt there same = inl (ap text there.1 ∙ same, (i, omega (arith, at.0), at.1))
  by_places y ys x (suc i) (suc e) other at lt there same =
      inr (i, record { here = (omega (arith, at.0), at.1); earlier = e; is_earlier = omega (arith, lt); other = other; stands_earlier = (omega (arith, there.0), there.1); same_text = same })

  repeated_cases : (y : A) (ys : List A) (x : A) → IsRepeated text (y ∷ ys) x → ((text y ≡ text x) × Contains ys x) ⊎ IsRepeated text ys x
  repeated_cases y ys x (i, at) = by_places y ys x i at.earlier at.other at.here at.is_earlier at.stands_earlier at.same_text

  pub one_of_each : (xs : List A) → ((x : A) → IsRepeated text xs x → ⊥) → (x y : A) → Contains xs x → Contains xs y → text x ≡ text y → x ≡ y
  one_of_each [] none x y c d e = absurd (omega (arith, c.1))
  one_of_each (z ∷ xs) none x y (zero, l, is) (zero, m, it) e = sym is ∙ it
  one_of_each (z ∷ xs) none x y (zero, l, is) (suc j, m, it) e = absurd (none y (repeated_first z xs y (ap text is ∙ e) (j, omega (arith, m), it)))
  one_of_each (z ∷ xs) none x y (suc i, l, is) (zero, m, it) e = absurd (none x (repeated_first z xs x (ap text it ∙ sym e) (i, omega (arith, l), is)))
  one_of_each (z ∷ xs) none x y (suc i, l, is) (suc j, m, it) e = one_of_each xs (λ w r. none w (repeated_later z xs w r)) x y (i, omega (arith, l), is) (j, omega (arith, m), it) e

  repeated_kept : (stays : A → Bool) (xs : List A) (x : A) → IsRepeated text (filter stays xs) x → IsRepeated text xs x
  repeated_kept stays [] x r = r
  repeated_kept stays (y ∷ xs) x r = by (stays y) refl (repeated_kept stays xs x)
    where
      here : ((text y ≡ text x) × Contains (filter stays xs) x) ⊎ IsRepeated text (filter stays xs) x → (IsRepeated text (filter stays xs) x → IsRepeated text xs x) → IsRepeated text (y ∷ xs) x
      here (inl q) next = repeated_first y xs x q.0 (from_filter stays xs x q.1).0
      here (inr q) next = repeated_later y xs x (next q)

      by : (b : Bool) → stays y ≡ b → (IsRepeated text (filter stays xs) x → IsRepeated text xs x) → IsRepeated text (y ∷ xs) x
      by true e next = here (repeated_cases y (filter stays xs) x (subst (λ z. IsRepeated text (if z then y ∷ filter stays xs else filter stays xs) x) e r)) next
      by false e next = repeated_later y xs x (next (subst (λ z. IsRepeated text (if z then y ∷ filter stays xs else filter stays xs) x) e r))

  stands_mapped : (change : A → A) (xs : List A) (i : ℕ) (x : A) → StandsAt (map change xs) i x → (y : A) × StandsAt xs i y × (change y ≡ x)
  stands_mapped change [] i x at = absurd (omega (arith, at.0))
  stands_mapped change (y ∷ xs) zero x at = (y, (omega arith, refl), at.1)
  stands_mapped change (y ∷ xs) (suc i) x at = let m = stands_mapped change xs i x (omega (arith, at.0), at.1) in (m.0, (omega (arith, m.1.0), m.1.1), m.2)

  repeated_mapped : (change : A → A) → ((x : A) → text (change x) ≡ text x) → (xs : List A) (x : A) → IsRepeated text (map change xs) x → (y : A) × IsRepeated text xs y
  repeated_mapped change same xs x (i, at) =
      let h = stands_mapped change xs i x at.here in
      let o = stands_mapped change xs at.earlier at.other at.stands_earlier in (
        h.0,
        (
          i,
          record {
            here = h.1;
            earlier = at.earlier;
            is_earlier = at.is_earlier;
            other = o.0;
            stands_earlier = o.1;
            same_text = sym (same o.0) ∙ ap text o.2 ∙ at.same_text ∙ sym (ap text h.2) ∙ same h.0;
          },
        ),
      )

-- the type condition of an inline fragment
condition_is : {fs : List FragmentOf} {h : Head Span} {condition : Text} {place : Span} (s : SpreadAt) (directives : List (DirectiveOf Span)) → IsSpread fs h condition place →
    h ≡ new_head s directives → condition ≡ s.on
condition_is s directives (possible.of_fragment c e) is = absurd (cc)
condition_is s directives (possible.of_inline_fragment {condition = n} {directives = ds} {braces = b} {place = p}) is =
    let same : n ≡ record { text = s.on; place = s.place } = cc in ap (λ z. z.text) same

module _ (s : SpreadAt) (x : ExecutableOf) (k : CanBeInlined s x) (none : (f : Fault) → IsFragmentFault x f → ⊥) where
  abbrev y : ExecutableOf
  y = inlined_executable s x

  by_came : (t : SelectedOf) (name : NameOf Span) (directives : List (DirectiveOf Span)) (braces place : Span) → t.selection.label ≡ inline (Some name) directives braces place →
      CameSelected s x k t →
      (file : ℕ) × (m : NameOf Span) × IsTypeCondition x file m × (m.text ≡ name.text)
  by_came t name directives braces place e (was_there below c) = (t.file, name, conditions.of_inline_fragment c e, refl)
  by_came t name directives braces place e (was_spread l c) =
      let both : inline (Some name) directives braces place ≡ new_head s k.directives = sym e ∙ l in
      let same : name ≡ record { text = s.on; place = s.place } = cc in
      (k.its.fragment.file, k.its.fragment.on, conditions.of_fragment k.its.stands, k.its.is_on ∙ sym (ap (λ z. z.text) same))
  by_came t name directives braces place e (was_in_fragment c) = (k.its.fragment.file, name, conditions.of_inline_fragment c e, refl)

  condition_too : {file : ℕ} {name : NameOf Span} → IsTypeCondition y file name → (n : ℕ) × (m : NameOf Span) × IsTypeCondition x n m × (m.text ≡ name.text)
  condition_too (conditions.of_fragment {f = g} c) =
      let w = was_fragment s x g c in (w.was.file, w.was.on, conditions.of_fragment w.stood, sym (ap (λ z. z.on.text) w.is))
  condition_too (conditions.of_inline_fragment {s = t} {name} {directives} {braces} {place} c e) = by_came t name directives braces place e (came_selected s x k t c)

  -- a spread of a fragment that stays is a spread of the fragment before
  spread_too : {h : Head Span} {condition : Text} {place : Span} → IsSpread y.fragments h condition place → IsSpread x.fragments h condition place
  spread_too (possible.of_fragment {f = g} {name} {directives} {place} c e) =
      let w = was_fragment s x g c in
      subst (λ z. IsSpread x.fragments (spread name directives place) z name.place) (sym (ap (λ z. z.on.text) w.is)) (possible.of_fragment w.stood (sym (ap (λ z. z.name.text) w.is) ∙ e))
  spread_too possible.of_inline_fragment = possible.of_inline_fragment

  not_possible : (t : SelectedOf) (parent condition : Text) (place : Span) → t.parent ≡ Some parent → IsSpread x.fragments t.selection.label condition place →
      HaveNoObject x.entries parent condition → CameSelected s x k t → ⊥
  not_possible t parent condition place e h apart (was_there below c) =
      none (fault_over t.file SpreadNotPossible place)
      (spread_not_possible (record { selected = _; is_selected = c; parent = parent; is_below = e; condition = condition; place = place; is_spread = h; have_no_object = apart; is = refl }))
  not_possible t parent condition place e h apart (was_spread l c) =
      let on : condition ≡ s.on = condition_is s k.directives h l in
      none (fault_over t.file SpreadNotPossible k.name.place) (spread_not_possible (record {
        selected = _;
        is_selected = c;
        parent = parent;
        is_below = e;
        condition = k.its.fragment.on.text;
        place = k.name.place;
        is_spread = possible.of_fragment k.its.stands k.its.is_named;
        have_no_object = subst (λ z. HaveNoObject x.entries parent z) (on ∙ sym k.its.is_on) apart;
        is = refl;
      }))
  not_possible t parent condition place e h apart (was_in_fragment c) =
      none (fault_over k.its.fragment.file SpreadNotPossible place)
      (spread_not_possible (record { selected = _; is_selected = c; parent = parent; is_below = e; condition = condition; place = place; is_spread = h; have_no_object = apart; is = refl }))

  pub no_fragment_fault : (f : Fault) → IsFragmentFault y f → ⊥
  no_fragment_fault f (repeated_fragment_name h) =
      let r = repeated_mapped (λ (g : FragmentOf). g.name.text) (inlined_fragment s) (λ g. refl) (filter (fragment_stays s) x.fragments) h.later h.is_repeated in
      none (fault_at r.0.file FragmentNameNotUnique r.0.name)
      (repeated_fragment_name (record { later = r.0; is_repeated = repeated_kept (λ (g : FragmentOf). g.name.text) (fragment_stays s) x.fragments r.0 r.1; is = refl }))
  no_fragment_fault f (unknown_condition h) =
      let c = condition_too h.is_condition in
      none (fault_at c.0 UnknownTypeCondition c.1)
      (unknown_condition (record { file = c.0; name = c.1; is_condition = c.2; is_unknown = ap (λ z. kind_named x.entries z) c.3 ∙ h.is_unknown; is = refl }))
  no_fragment_fault f (condition_not_composite h) =
      let c = condition_too h.is_condition in
      none (fault_at c.0 ConditionNotComposite c.1) (condition_not_composite (record {
        file = c.0;
        name = c.1;
        is_condition = c.2;
        kind = h.kind;
        is_known = ap (λ z. kind_named x.entries z) c.3 ∙ h.is_known;
        is_not_composite = h.is_not_composite;
        is = refl;
      }))
  no_fragment_fault f (spread_not_possible h) =
      not_possible h.selected h.parent h.condition h.place h.is_below (spread_too h.is_spread) h.have_no_object (came_selected s x k h.selected h.is_selected)
