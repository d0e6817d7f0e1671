-- What is told of root operation types is what the relations say.
use Rattle.std.proofs.Common.{◌≡◌, ℕ, zero, suc, ◌+◌, ◌≤◌, Bool, true, false, if◌then◌else◌, not, ◌||◌, List, [], ◌∷◌, Option, Some, None, ◌⊎◌, inl, inr, ◌↔◌, Contains, length, refl, sym, ap, ◌∙◌, subst, arith, nat_lt}
use Rattle.std.proofs.lemmas.Bool.{ltb-true, ltb-false}
use Rattle.std.proofs.lemmas.List.Elements.{Contains-append_left, Contains-append_right, Contains-append_cases}
use Rattle.gq_text.specs.declared.place.Span.{Span}
use Rattle.gq_fault.specs.declared.code.Code.TheVariants.{EmptyOrRepeated, WrongKindOfType}
use Rattle.gq_fault.specs.declared.fault.Fault.{Fault}
use Rattle.gq_names.specs.Repeats.{StandsAt}
use Rattle.gq_names.proofs.RepeatLemmas.{contains_none, contains_first}
use Rattle.gq_tree.specs.Plain.{RootOf}
use Rattle.gq_types.specs.declared.entry.TypeKind.{TypeKind}
use Rattle.gq_types.specs.declared.entry.TypeKind.TheVariants as kind
use Rattle.gq_types.specs.Entries.{Text, EntryOf}
use Rattle.gq_types.specs.Kinds.{same_kind}
use Rattle.gq_types.specs.Joined.{In, kind_named}
use Rattle.gq_fault.specs.FaultPlaces.{fault_at}
use Rattle.gq_types.specs.Roots.{roots_of}
use Rattle.gq_type_system.specs.Helping.Walk.{at_each_number}
use Rattle.gq_type_system.specs.RootTypes.{IsFirstRoot, IsRepeatedRoot, IsNoObject, IsSharedRoot}
use Rattle.gq_type_system.specs.Helping.RootTypesPlaces.{TakenOf, has_kind, has_text, defaults, is_wrong_kind, code_told, root_told, taken_after, roots_told, wrong_roots_of, wrong_roots}
use Rattle.gq_type_system.proofs.Gathered.{not_true}
use Rattle.gq_type_system.proofs.KindLemmas.{same_kind_is, same_kind_self}
use Rattle.gq_type_system.proofs.TakenLemmas.{Knows, at_first, next}
use Rattle.gq_type_system.proofs.WalkLemmas.{from_numbers, to_numbers}
use Rattle.gq_types.proofs.Gathered.{only}

-- an entry, what is taken before it, and what is told of it
record Told (es : List EntryOf) (roots : List (In (RootOf Span))) (fault : Fault) : Type 0 where
  place : ℕ
  root : In (RootOf Span)
  taken : List TakenOf
  stands : StandsAt roots place root
  knows : Knows es roots place taken
  told : Contains (root_told es taken root) fault

module _ (es : List EntryOf) (roots : List (In (RootOf Span))) (fault : Fault) where
  from_told : (rest : List (In (RootOf Span))) (place : ℕ) (taken : List TakenOf) → ((i : ℕ) (x : In (RootOf Span)) → StandsAt rest i x → StandsAt roots (i + place) x) → Knows es roots place taken →
      Contains (roots_told es taken rest) fault → Told es roots fault
  from_told [] place taken later knows c = absurd (contains_none fault c)
  from_told (root ∷ rest) place taken later knows c =
      let at : 0 + place ≡ place = omega arith in
      let stands : StandsAt roots place root = subst (λ j. StandsAt roots j root) at (later 0 root (omega arith, refl)) in
      let after : (i : ℕ) (x : In (RootOf Span)) → StandsAt rest i x → StandsAt roots (i + (place + 1)) x
      = λ i x s.
      let same : suc i + place ≡ i + (place + 1) = omega arith in
      subst (λ j. StandsAt roots j x) same (later (suc i) x (omega (arith, s.0), s.1)) in
      elim (Contains-append_cases (root_told es taken root) (roots_told es (taken_after taken root) rest) fault c) [
        | inl a ↦ record { place = place; root = root; taken = taken; stands = stands; knows = knows; told = a }
        | inr b ↦ from_told rest (place + 1) (taken_after taken root) after (next es roots place root taken stands knows) b
      ]

  -- what is told of an entry behind all that is known to be taken is told
  to_told : (rest : List (In (RootOf Span))) (place : ℕ) (taken : List TakenOf) → ((i : ℕ) (x : In (RootOf Span)) → StandsAt rest i x → StandsAt roots (i + place) x) → Knows es roots place taken →
      (i : ℕ) (root : In (RootOf Span)) → StandsAt rest i root → ((t : List TakenOf) → Knows es roots (i + place) t → Contains (root_told es t root) fault) → Contains (roots_told es taken rest) fault
  to_told [] place taken later knows i root s tells = absurd (omega (arith, s.0))
  to_told (x ∷ rest) place taken later knows zero root s tells =
      let at : place ≡ 0 + place = omega arith in
      let told = tells taken (subst (λ j. Knows es roots j taken) at knows) in
      Contains-append_left (root_told es taken x) (roots_told es (taken_after taken x) rest) fault (subst (λ r. Contains (root_told es taken r) fault) (sym s.1) told)
  to_told (x ∷ rest) place taken later knows (suc i) root s tells =
      let at : 0 + place ≡ place = omega arith in
      let stands : StandsAt roots place x = subst (λ j. StandsAt roots j x) at (later 0 x (omega arith, refl)) in
      let after : (k : ℕ) (y : In (RootOf Span)) → StandsAt rest k y → StandsAt roots (k + (place + 1)) y
      = λ k y t.
      let same : suc k + place ≡ k + (place + 1) = omega arith in
      subst (λ j. StandsAt roots j y) same (later (suc k) y (omega (arith, t.0), t.1)) in
      let same : i + (place + 1) ≡ suc i + place = omega arith in
      Contains-append_right (root_told es taken x) (roots_told es (taken_after taken x) rest) fault
      (to_told rest (place + 1) (taken_after taken x) after (next es roots place x taken stands knows) i root (omega (arith, s.0), s.1) (λ t k. tells t (subst (λ j. Knows es roots j t) same k)))

  all_stand : (i : ℕ) (x : In (RootOf Span)) → StandsAt roots i x → StandsAt roots (i + 0) x
  all_stand i x s = let same : i ≡ i + 0 = omega arith in subst (λ j. StandsAt roots j x) same s

  one_told : Contains (roots_told es (defaults es) roots) fault → Told es roots fault
  one_told c = from_told roots 0 (defaults es) all_stand (at_first es roots) c

  told_all : (place : ℕ) (root : In (RootOf Span)) → StandsAt roots place root → ((t : List TakenOf) → Knows es roots place t → Contains (root_told es t root) fault) → Contains (roots_told es (defaults es) roots) fault
  told_all place root s tells =
      let same : place + 0 ≡ place = omega arith in
      to_told roots 0 (defaults es) all_stand (at_first es roots) place root s (λ t k. tells t (subst (λ j. Knows es roots j t) same k))

-- what is wrong with a type that is known
wrong_then : (taken : List TakenOf) (text : Text) (o : Option TypeKind) → is_wrong_kind taken text o ≡ true → (k : TypeKind) × (o ≡ Some k) × ((k ≡ kind.Object → ⊥) ⊎ (has_text taken text ≡ true))
wrong_then taken text None h = absurd (cc)
wrong_then taken text (Some k) h = (k, refl, by_object (same_kind k kind.Object) refl h)
  where
    by_object : (b : Bool) → same_kind k kind.Object ≡ b → (not b || has_text taken text) ≡ true → (k ≡ kind.Object → ⊥) ⊎ (has_text taken text ≡ true)
    by_object true e t = inr t
    by_object false e t = inl (λ is. let self = same_kind_self kind.Object in let yes = ap (λ j. same_kind j kind.Object) is ∙ self in cc)

then_no_object : (taken : List TakenOf) (text : Text) (o : Option TypeKind) (k : TypeKind) → o ≡ Some k → (k ≡ kind.Object → ⊥) → is_wrong_kind taken text o ≡ true
then_no_object taken text o k e other =
    ap (is_wrong_kind taken text) e ∙ ap (λ b. not b || has_text taken text) (not_true (same_kind k kind.Object) (λ h. other (same_kind_is k kind.Object h)))

then_shared : (taken : List TakenOf) (text : Text) (o : Option TypeKind) (k : TypeKind) → o ≡ Some k → has_text taken text ≡ true → is_wrong_kind taken text o ≡ true
then_shared taken text o k e has = ap (is_wrong_kind taken text) e ∙ by_object (same_kind k kind.Object)
  where
    by_object : (b : Bool) → (not b || has_text taken text) ≡ true
    by_object true = has
    by_object false = refl

abbrev IsWrongRoot : List EntryOf → Fault → Type 0
IsWrongRoot es fault = IsRepeatedRoot es fault ⊎ (IsNoObject es fault ⊎ IsSharedRoot es fault)

module _ (es : List EntryOf) (fault : Fault) where
  from_one : (number : ℕ) → number ≤ length es → Told es (roots_of es number) fault → IsWrongRoot es fault
  from_one number within w = by_kind (has_kind w.taken w.root.it.kind) refl w.told
    where
      by_wrong : has_kind w.taken w.root.it.kind ≡ false → (b : Bool) → is_wrong_kind w.taken w.root.it.name.text (kind_named es w.root.it.name.text) ≡ b → Contains (code_told w.root (if b then Some WrongKindOfType else None)) fault → IsWrongRoot es fault
      by_wrong first false e c = absurd (contains_none fault c)
      by_wrong first true e c =
          let counts : IsFirstRoot es (roots_of es number) w.place w.root = record { stands = w.stands; is_first = λ r. let yes = w.knows.takes_kind w.root.it.kind r in cc } in
          let found = wrong_then w.taken w.root.it.name.text (kind_named es w.root.it.name.text) e in
          let is = only (fault_at w.root.file WrongKindOfType w.root.it.name) fault c in
          elim found.2 [
            | inl other ↦ inr (inl (record { number = number; is_number = within; place = w.place; root = w.root; counts = counts; of_kind = found.0; is_known = found.1; is_no_object = other; is = is }))
            | inr has ↦ inr (inr (record { number = number; is_number = within; place = w.place; root = w.root; counts = counts; of_kind = found.0; is_known = found.1; is_shared = w.knows.text_taken w.root.it.name.text has; is = is }))
          ]

      by_kind : (b : Bool) → has_kind w.taken w.root.it.kind ≡ b →
          Contains (code_told w.root (if b then Some EmptyOrRepeated else if is_wrong_kind w.taken w.root.it.name.text (kind_named es w.root.it.name.text) then Some WrongKindOfType else None)) fault → IsWrongRoot es fault
      by_kind true e c = inl (record { number = number; is_number = within; place = w.place; root = w.root; stands = w.stands; has_root = w.knows.kind_taken w.root.it.kind e; is = only (fault_at w.root.file EmptyOrRepeated w.root.it.name) fault c })
      by_kind false e c = by_wrong e (is_wrong_kind w.taken w.root.it.name.text (kind_named es w.root.it.name.text)) refl c

  -- what is told of one entry is told of its schema
  from_repeated : (w : IsRepeatedRoot es fault) → Contains (wrong_roots_of es w.number) fault
  from_repeated w = told_all es (roots_of es w.number) fault w.place w.root w.stands
      (λ t k. let has = k.takes_kind w.root.it.kind w.has_root in
      subst (λ b. Contains (code_told w.root (if b then Some EmptyOrRepeated else if is_wrong_kind t w.root.it.name.text (kind_named es w.root.it.name.text) then Some WrongKindOfType else None)) fault) (sym has)
      (contains_first (fault_at w.root.file EmptyOrRepeated w.root.it.name) [] fault (sym w.is)))

  tell_wrong : (roots : List (In (RootOf Span))) (place : ℕ) (root : In (RootOf Span)) (t : List TakenOf) → IsFirstRoot es roots place root → Knows es roots place t →
      is_wrong_kind t root.it.name.text (kind_named es root.it.name.text) ≡ true → fault ≡ fault_at root.file WrongKindOfType root.it.name → Contains (root_told es t root) fault
  tell_wrong roots place root t counts k wrong is =
      let none = not_true (has_kind t root.it.kind) (λ h. counts.is_first (k.kind_taken root.it.kind h)) in
      subst (λ b. Contains (code_told root (if b then Some EmptyOrRepeated else if is_wrong_kind t root.it.name.text (kind_named es root.it.name.text) then Some WrongKindOfType else None)) fault) (sym none)
      (subst (λ b. Contains (code_told root (if b then Some WrongKindOfType else None)) fault) (sym wrong) (contains_first (fault_at root.file WrongKindOfType root.it.name) [] fault (sym is)))

  from_no_object : (w : IsNoObject es fault) → Contains (wrong_roots_of es w.number) fault
  from_no_object w = told_all es (roots_of es w.number) fault w.place w.root w.counts.stands
      (λ t k. tell_wrong (roots_of es w.number) w.place w.root t w.counts k (then_no_object t w.root.it.name.text (kind_named es w.root.it.name.text) w.of_kind w.is_known w.is_no_object) w.is)

  from_shared : (w : IsSharedRoot es fault) → Contains (wrong_roots_of es w.number) fault
  from_shared w = told_all es (roots_of es w.number) fault w.place w.root w.counts.stands
      (λ t k. tell_wrong (roots_of es w.number) w.place w.root t w.counts k (then_shared t w.root.it.name.text (kind_named es w.root.it.name.text) w.of_kind w.is_known (k.takes_text w.root.it.name.text w.is_shared)) w.is)

  -- a number up to that after the last
  at_a_number : (number : ℕ) → number ≤ length es → Contains (wrong_roots_of es number) fault → Contains (wrong_roots es) fault
  at_a_number number within c = by_order (nat_lt number (length es)) refl
    where
      by_order : (b : Bool) → nat_lt number (length es) ≡ b → Contains (wrong_roots es) fault
      by_order true e =
          let same : number ≡ number + 0 = omega arith in
          Contains-append_left (at_each_number (wrong_roots_of es) 0 es) (wrong_roots_of es (length es)) fault
          (to_numbers (wrong_roots_of es) 0 es fault number (ltb-true number (length es) e) (subst (λ n. Contains (wrong_roots_of es n) fault) same c))
      by_order false e =
          let late = ltb-false number (length es) e in
          let same : number ≡ length es = omega (arith, late, within) in
          Contains-append_right (at_each_number (wrong_roots_of es) 0 es) (wrong_roots_of es (length es)) fault (subst (λ n. Contains (wrong_roots_of es n) fault) same c)

  to : IsWrongRoot es fault → Contains (wrong_roots es) fault
  to (inl w) = at_a_number w.number w.is_number (from_repeated w)
  to (inr (inl w)) = at_a_number w.number w.is_number (from_no_object w)
  to (inr (inr w)) = at_a_number w.number w.is_number (from_shared w)

  from : Contains (wrong_roots es) fault → IsWrongRoot es fault
  from c = elim (Contains-append_cases (at_each_number (wrong_roots_of es) 0 es) (wrong_roots_of es (length es)) fault c) [
    | inl a ↦
        let r = from_numbers (wrong_roots_of es) 0 es fault a in
        from_one (r.0 + 0) (omega (arith, r.1)) (one_told es (roots_of es (r.0 + 0)) fault r.2)
    | inr b ↦ from_one (length es) (omega arith) (one_told es (roots_of es (length es)) fault b)
  ]

  pub wrong_roots_are : Contains (wrong_roots es) fault ↔ (IsRepeatedRoot es fault ⊎ (IsNoObject es fault ⊎ IsSharedRoot es fault))
  wrong_roots_are = (from, to)
