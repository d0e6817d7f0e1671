-- What is told of directives and default values in a type system is what the relation says.
use Rattle.std.proofs.Common.{◌≡◌, ℕ, ◌+◌, ◌<◌, ◌≤◌, Bool, true, false, if◌then◌else◌, List, [], ◌∷◌, ◌++◌, Option, Some, None, inl, inr, ◌↔◌, Contains, flat_map, filter, length, position, nat_eq, nat_lt, not, refl, sym, ap, ◌∙◌, subst, arith, append-nil, append_assoc, eqb-true}
use Rattle.std.specs.Prelude.{unwrap_or}
use Rattle.std.specs.Option.{option_map_or}
use Rattle.std.proofs.lemmas.Bool.{ltb-true, ltb-false}
use Rattle.std.proofs.lemmas.List.Elements.{Contains-append_left, Contains-append_right, Contains-append_cases}
use Rattle.std.proofs.lemmas.List.Quantifiers.{position-Some}
use Rattle.gq_text.specs.declared.place.Span.{Span}
use Rattle.gq_fault.specs.declared.fault.Fault.{Fault}
use Rattle.gq_names.proofs.RepeatLemmas.{contains_none, contains_first, contains_later, contains_cases}
use Rattle.gq_tree.specs.Plain.{Val, InputOf, TypeSystemOf, schema, type_definition, directive_definition}
use Rattle.gq_types.specs.Entries.{Text, EntryOf, Numbered, numbered}
use Rattle.gq_types.specs.BuiltIn.{defines_built_in}
use Rattle.gq_types.specs.Kinds.{kind_of, same_kind}
use Rattle.gq_types.specs.Joined.{is_schema, is_type_named, kind_named, type_number, owner_of, owner, joined, judged}
use Rattle.gq_values.specs.Literals.{default_at}
use Rattle.gq_values.specs.LiteralFaults.{IsLiteralFault}
use Rattle.gq_values.specs.LiteralPlaces.{literal_faults}
use Rattle.gq_values.specs.DirectiveFaults.{IsDirectiveFault}
use Rattle.gq_values.specs.DirectivePlaces.{directive_faults}
use Rattle.gq_values.proofs.LiteralRules.{literal_faults_are}
use Rattle.gq_values.proofs.DirectiveRules.{directive_faults_are}
use Rattle.gq_type_system.specs.Helping.Walk.{at_each_number}
use Rattle.gq_type_system.specs.DirectivesAndDefaults.{Site, sites_in, own_site, own_names, all_inputs, told, IsBadDirectiveOrDefault, in_site, in_entry, in_default}
use Rattle.gq_type_system.specs.Helping.DirectivesAndDefaultsPlaces.{site_fault, site_faults, default_fault, default_faults, inner_faults_at, inner_faults, faults_at_own, own_faults, group_faults, itself, group_faults_of, outer_faults, all_faults, bad_directives_and_defaults}
use Rattle.gq_type_system.proofs.NumberLemmas.{stands_at_number}
use Rattle.gq_type_system.proofs.WalkLemmas.{from_numbers, to_numbers}
use Rattle.gq_types.proofs.Gathered.{from_flat, to_flat, from_map_as as from_map, to_map_as as to_map, from_filter}

-- an element that passes is kept
to_filter : {X : Type 0} (p : X → Bool) (xs : List X) (y : X) → Contains xs y → p y ≡ true → Contains (filter p xs) y
to_filter p [] y c t = absurd (contains_none y c)
to_filter p (x ∷ xs) y c t = by_test (p x) refl (λ r. to_filter p xs y r t)
  where
    by_test : (b : Bool) → p x ≡ b → (Contains xs y → Contains (filter p xs) y) → Contains (if b then x ∷ filter p xs else filter p xs) y
    by_test true e later = elim (contains_cases x xs y c) [
      | inl is ↦ contains_first x (filter p xs) y is
      | inr r ↦ contains_later x (filter p xs) y (later r)
    ]
    by_test false e later = elim (contains_cases x xs y c) [
      | inl is ↦ let q = ap p is in absurd (cc)
      | inr r ↦ later r
    ]

not_false : (b : Bool) → not b ≡ true → b ≡ false
not_false true h = absurd (cc)
not_false false h = refl

-- the number that an entry belongs to is no greater than the number of entries
first_within : (p : EntryOf → Bool) (es : List EntryOf) (some : EntryOf) (number : ℕ) → number ≤ length es → (o : Option ℕ) → position p es ≡ o → unwrap_or o number ≤ length es
first_within p es some number le None e = le
first_within p es some number le (Some i) e = let found = position-Some p es i some e in omega (arith, found.0)

owner_within : (es : List EntryOf) (some : EntryOf) (number : ℕ) → number < length es → (d : TypeSystemOf Span) → owner_of es number d ≤ length es
owner_within es some number lt (schema true description directives roots place) = first_within (λ e. is_schema e.definition) es some (length es) (omega arith) (position (λ e. is_schema e.definition) es) refl
owner_within es some number lt (schema false description directives roots place) = omega (arith, lt)
owner_within es some number lt (type_definition true description name directives body place) = by_kind (option_map_or (same_kind (kind_of body)) (kind_named es name.text) false)
  where
    by_kind : (b : Bool) → (if b then unwrap_or (type_number es name.text) number else number) ≤ length es
    by_kind true = first_within (λ e. is_type_named name.text e.definition) es some number (omega (arith, lt)) (type_number es name.text) refl
    by_kind false = omega (arith, lt)
owner_within es some number lt (type_definition false description name directives body place) = omega (arith, lt)
owner_within es some number lt (directive_definition description name arguments repeatable locations place) = omega (arith, lt)

abbrev names_of : List Numbered → List Text
names_of ns = flat_map (λ m. own_names m.entry) ns

abbrev entries_of : List Numbered → List EntryOf
entries_of ns = flat_map (λ n. itself n.entry) ns

-- an entry among others, those before it, and those after it
record Among (ns : List Numbered) : Type 0 where
  before : List Numbered
  one : Numbered
  after : List Numbered
  are : ns ≡ before ++ one ∷ after

stands_among : (ns before : List Numbered) (n : Numbered) (after : List Numbered) → ns ≡ before ++ n ∷ after → Contains ns n
stands_among ns before n after are = subst (λ xs. Contains xs n) (sym are) (Contains-append_right before (n ∷ after) n (contains_first n after n refl))

module _ (es : List EntryOf) (fault : Fault) where
  -- a fault in a group is one of an entry, behind the names of those before it
  from_group : (names : List Text) (ns : List Numbered) → Contains (group_faults es names (entries_of ns)) fault →
      (a : Among ns) × Contains (own_faults es (names ++ names_of a.before) a.one.entry) fault
  from_group names [] c = absurd (contains_none fault c)
  from_group names (n ∷ ns) c = elim (Contains-append_cases (own_faults es names n.entry) (group_faults es (names ++ own_names n.entry) (entries_of ns)) fault c) [
    | inl a ↦ (record { before = []; one = n; after = ns; are = refl }, subst (λ t. Contains (own_faults es t n.entry) fault) (sym (append-nil names)) a)
    | inr b ↦
        let r = from_group (names ++ own_names n.entry) ns b in (
          record { before = n ∷ r.0.before; one = r.0.one; after = r.0.after; are = ap (λ xs. n ∷ xs) r.0.are },
          subst (λ t. Contains (own_faults es t r.0.one.entry) fault) (append_assoc names (own_names n.entry) (names_of r.0.before)) r.1,
        )
  ]

  to_group : (names : List Text) (before : List Numbered) (n : Numbered) (after : List Numbered) → Contains (own_faults es (names ++ names_of before) n.entry) fault →
      Contains (group_faults es names (entries_of (before ++ n ∷ after))) fault
  to_group names [] n after c =
      Contains-append_left (own_faults es names n.entry) (group_faults es (names ++ own_names n.entry) (entries_of after)) fault
      (subst (λ t. Contains (own_faults es t n.entry) fault) (append-nil names) c)
  to_group names (m ∷ before) n after c =
      Contains-append_right (own_faults es names m.entry) (group_faults es (names ++ own_names m.entry) (entries_of (before ++ n ∷ after))) fault
      (to_group (names ++ own_names m.entry) before n after
      (subst (λ t. Contains (own_faults es t n.entry) fault) (sym (append_assoc names (own_names m.entry) (names_of before))) c))

  -- a fault of an entry itself
  from_own : (names : List Text) (e : EntryOf) → Contains (own_faults es names e) fault →
      (defines_built_in e.definition ≡ false) × ((site : Site) × (own_site e.definition ≡ Some site) × Contains (directive_faults es e.file site.location names site.directives) fault)
  from_own names e c = by_test (defines_built_in e.definition) refl c
    where
      by_site : (o : Option Site) → own_site e.definition ≡ o → Contains (faults_at_own es e.file names o) fault →
          (site : Site) × (own_site e.definition ≡ Some site) × Contains (directive_faults es e.file site.location names site.directives) fault
      by_site None is d = absurd (contains_none fault d)
      by_site (Some site) is d = (site, is, d)

      by_test : (b : Bool) → defines_built_in e.definition ≡ b → Contains (if b then [] else faults_at_own es e.file names (own_site e.definition)) fault →
          (defines_built_in e.definition ≡ false) × ((site : Site) × (own_site e.definition ≡ Some site) × Contains (directive_faults es e.file site.location names site.directives) fault)
      by_test true is d = absurd (contains_none fault d)
      by_test false is d = (is, by_site (own_site e.definition) refl d)

  to_own : (names : List Text) (e : EntryOf) (site : Site) → defines_built_in e.definition ≡ false → own_site e.definition ≡ Some site →
      Contains (directive_faults es e.file site.location names site.directives) fault → Contains (own_faults es names e) fault
  to_own names e site is_not is c =
      subst (λ b. Contains (if b then [] else faults_at_own es e.file names (own_site e.definition)) fault) (sym is_not)
      (subst (λ o. Contains (faults_at_own es e.file names o) fault) (sym is) c)

  -- a fault of a group, at whatever number it is
  from_outer : Contains (outer_faults es) fault → (number : ℕ) × Contains (group_faults_of es number) fault
  from_outer c = elim (Contains-append_cases (at_each_number (group_faults_of es) 0 es) (group_faults_of es (length es)) fault c) [
    | inl a ↦ let r = from_numbers (group_faults_of es) 0 es fault a in (r.0 + 0, r.2)
    | inr b ↦ (length es, b)
  ]

  to_outer : (number : ℕ) → number ≤ length es → Contains (group_faults_of es number) fault → Contains (outer_faults es) fault
  to_outer number le c = by_order (nat_lt number (length es)) refl
    where
      by_order : (b : Bool) → nat_lt number (length es) ≡ b → Contains (outer_faults es) fault
      by_order true e =
          let same : number ≡ number + 0 = omega arith in
          Contains-append_left (at_each_number (group_faults_of es) 0 es) (group_faults_of es (length es)) fault
          (to_numbers (group_faults_of es) 0 es fault number (ltb-true number (length es) e) (subst (λ n. Contains (group_faults_of es n) fault) same c))
      by_order false e =
          let last = ltb-false number (length es) e in
          let same : number ≡ length es = omega (arith, last, le) in
          Contains-append_right (at_each_number (group_faults_of es) 0 es) (group_faults_of es (length es)) fault (subst (λ n. Contains (group_faults_of es n) fault) same c)

  -- what is told of an entry alone, and of those that belong to its number
  pub told_site : (n : Numbered) (site : Site) → Contains (sites_in n.entry.definition) site → IsDirectiveFault es n.entry.file site.location [] site.directives fault → Contains (inner_faults_at es n) fault
  told_site n site stands wrong =
      Contains-append_left (site_faults es n.entry.file (sites_in n.entry.definition)) (default_faults es n.entry.file (all_inputs n.entry.definition)) fault
      (to_flat (site_fault es n.entry.file) (sites_in n.entry.definition) site fault stands ((directive_faults_are es n.entry.file site.location [] site.directives fault).1 wrong))

  pub told_default : (n : Numbered) (input : InputOf Span) (default : Val Span) → Contains (all_inputs n.entry.definition) input → input.default ≡ Some default →
      IsLiteralFault es n.entry.file (default_at es input.type_ref) default fault → Contains (inner_faults_at es n) fault
  told_default n input default stands has wrong =
      let told_there = (literal_faults_are es n.entry.file fault (default_at es input.type_ref) default).1 wrong in
      Contains-append_right (site_faults es n.entry.file (sites_in n.entry.definition)) (default_faults es n.entry.file (all_inputs n.entry.definition)) fault
      (to_flat (default_fault es n.entry.file) (all_inputs n.entry.definition) input fault stands
      (subst (λ o. Contains (option_map_or (λ value. literal_faults es n.entry.file (default_at es input.type_ref) value) o []) fault) (sym has) told_there))

  pub told_own : (before : List Numbered) (n : Numbered) (after : List Numbered) (site : Site) → Contains (judged es) n → joined es (owner es n) ≡ before ++ n ∷ after → own_site n.entry.definition ≡ Some site →
      IsDirectiveFault es n.entry.file site.location (names_of before) site.directives fault → Contains (group_faults_of es (owner es n)) fault
  told_own before n after site j are has wrong =
      let kept = from_filter (λ m. not (defines_built_in m.entry.definition)) (numbered es) n j in
      let own = to_own (names_of before) n.entry site (not_false (defines_built_in n.entry.definition) kept.1) has ((directive_faults_are es n.entry.file site.location (names_of before) site.directives fault).1 wrong) in
      subst (λ ns. Contains (group_faults es [] (entries_of ns)) fault) (sym are) (to_group [] before n after own)

  module _ (item : Fault) (is : item ≡ told fault) where
    from_entry : (number : ℕ) → Contains (group_faults_of es number) fault → IsBadDirectiveOrDefault es item
    from_entry number c =
        let g = from_group [] (joined es number) c in
        let own = from_own (names_of g.0.before) g.0.one.entry g.1 in
        let kept = from_filter (λ n. nat_eq (owner es n) number) (numbered es) g.0.one (stands_among (joined es number) g.0.before g.0.one g.0.after g.0.are) in
        let belongs = eqb-true (owner es g.0.one) number kept.1 in
        let is_judged = to_filter (λ n. not (defines_built_in n.entry.definition)) (numbered es) g.0.one kept.0 (ap not own.0) in
        let site = own.1.0 in
        in_entry g.0.before g.0.one g.0.after {site = site} {fault = fault} is_judged (ap (joined es) belongs ∙ g.0.are) own.1.1
        ((directive_faults_are es g.0.one.entry.file site.location (names_of g.0.before) site.directives fault).0 own.1.2) is

    from_default : (n : Numbered) → Contains (judged es) n → (input : InputOf Span) → Contains (all_inputs n.entry.definition) input → (o : Option (Val Span)) → input.default ≡ o →
        Contains (option_map_or (λ value. literal_faults es n.entry.file (default_at es input.type_ref) value) o []) fault → IsBadDirectiveOrDefault es item
    from_default n j input stands None e c = absurd (contains_none fault c)
    from_default n j input stands (Some default) e c =
        in_default {n = n} {input = input} {default = default} {fault = fault} j stands e ((literal_faults_are es n.entry.file fault (default_at es input.type_ref) default).0 c) is

    from_inner : Contains (inner_faults es) fault → IsBadDirectiveOrDefault es item
    from_inner c =
        let r = from_flat (inner_faults_at es) (judged es) fault c in
        let n = r.0 in
        elim (Contains-append_cases (site_faults es n.entry.file (sites_in n.entry.definition)) (default_faults es n.entry.file (all_inputs n.entry.definition)) fault r.2) [
          | inl a ↦
              let s = from_flat (site_fault es n.entry.file) (sites_in n.entry.definition) fault a in
              let site = s.0 in
              in_site {n = n} {site = site} {fault = fault} r.1 s.1 ((directive_faults_are es n.entry.file site.location [] site.directives fault).0 s.2) is
          | inr b ↦
              let d = from_flat (default_fault es n.entry.file) (all_inputs n.entry.definition) fault b in
              from_default n r.1 d.0 d.1 d.0.default refl d.2
        ]

    from_fault : Contains (all_faults es) fault → IsBadDirectiveOrDefault es item
    from_fault c = elim (Contains-append_cases (inner_faults es) (outer_faults es) fault c) [
      | inl a ↦ from_inner a
      | inr b ↦ let r = from_outer b in from_entry r.0 r.1
    ]

    to_told : Contains (all_faults es) fault → Contains (bad_directives_and_defaults es) item
    to_told c = to_map told (all_faults es) fault item c is

    to_inner : (n : Numbered) → Contains (judged es) n → Contains (inner_faults_at es n) fault → Contains (bad_directives_and_defaults es) item
    to_inner n j c = to_told (Contains-append_left (inner_faults es) (outer_faults es) fault (to_flat (inner_faults_at es) (judged es) n fault j c))

    to_site : (n : Numbered) (site : Site) → Contains (judged es) n → Contains (sites_in n.entry.definition) site → IsDirectiveFault es n.entry.file site.location [] site.directives fault → Contains (bad_directives_and_defaults es) item
    to_site n site j stands wrong = to_inner n j (told_site n site stands wrong)

    to_default : (n : Numbered) (input : InputOf Span) (default : Val Span) → Contains (judged es) n → Contains (all_inputs n.entry.definition) input → input.default ≡ Some default →
        IsLiteralFault es n.entry.file (default_at es input.type_ref) default fault → Contains (bad_directives_and_defaults es) item
    to_default n input default j stands has wrong = to_inner n j (told_default n input default stands has wrong)

    to_entry : (before : List Numbered) (n : Numbered) (after : List Numbered) (site : Site) → Contains (judged es) n → joined es (owner es n) ≡ before ++ n ∷ after → own_site n.entry.definition ≡ Some site →
        IsDirectiveFault es n.entry.file site.location (names_of before) site.directives fault → Contains (bad_directives_and_defaults es) item
    to_entry before n after site j are has wrong =
        let kept = from_filter (λ m. not (defines_built_in m.entry.definition)) (numbered es) n j in
        let inside = (stands_at_number es n kept.0).0 in
        let there = told_own before n after site j are has wrong in
        to_told (Contains-append_right (inner_faults es) (outer_faults es) fault (to_outer (owner es n) (owner_within es n.entry n.number inside n.entry.definition) there))

pub bad_directives_and_defaults_are : (es : List EntryOf) (item : Fault) → Contains (bad_directives_and_defaults es) item ↔ IsBadDirectiveOrDefault es item
bad_directives_and_defaults_are es item = (from, to)
  where
    from : Contains (bad_directives_and_defaults es) item → IsBadDirectiveOrDefault es item
    from c = let m = from_map told (all_faults es) item c in from_fault es m.0 item m.2 m.1

    to : IsBadDirectiveOrDefault es item → Contains (bad_directives_and_defaults es) item
    to (in_site {n} {site} {fault} j stands wrong is) = to_site es fault item is n site j stands wrong
    to (in_entry before n after {site} {fault} j are has wrong is) = to_entry es fault item is before n after site j are has wrong
    to (in_default {n} {input} {default} {fault} j stands has wrong is) = to_default es fault item is n input default j stands has wrong
