-- Type systems that are equal but for their places and for fields of some object types break the same rules elsewhere. A third one stands between them: it has the
-- old definitions of these object types, so that it is the old one but for places, and all others are the very definitions of the new one.
use Rattle.std.proofs.Common.{◌≡◌, ℕ, ◌+◌, ◌≤◌, Bool, true, false, cond, List, [], ◌∷◌, ◌++◌, map, flat_map, refl, sym, ap, ◌∙◌, subst, Contains, ◌⊎◌, inl, inr, ⊎_elim, arith}
use Rattle.std.specs.Prelude.{filter, nat_eq, unwrap_or, if◌then◌else◌}
use Rattle.std.specs.Option.{option_map_or}
use Rattle.std.proofs.lemmas.Bool.{ne_eqb}
use Rattle.std.proofs.lemmas.Bool.Decides.{eqb_tells}
use Rattle.std.proofs.lemmas.Simd.{map-map}
use Rattle.gq_text.specs.declared.place.Span.{Span}
use Rattle.gq_tree.specs.declared.tree.OperationKind.{OperationKind}
use Rattle.gq_tree.specs.Plain.{RootOf, TypeSystemOf, schema, type_definition, directive_definition}
use Rattle.gq_types.specs.Entries.{Text, EntryOf, Numbered, numbered_from, numbered}
use Rattle.gq_types.specs.ErasedEntries.{erase_entry}
use Rattle.gq_types.specs.Kinds.{kind_of, same_kind}
use Rattle.gq_types.specs.Joined.{In, put_in, kind_named, type_number, schema_number, owner_of, owner}
use Rattle.gq_types.specs.Roots.{roots_in, default_root}
use Rattle.gq_types.proofs.Gathered.{first, later, cases_cons, nothing_in}
use Rattle.gq_types.proofs.Placing.Alike.{contains}
use Rattle.gq_types.proofs.Placing.Entries.{erase_numbered, numbered_alike, type_numbers, schema_numbers, default_roots}
use Rattle.gq_type_system.proofs.NumberLemmas.{from_numbered}
use Rattle.gq_laws.specs.Placing.ObjectTypes.{defines_object, DifferInObjects, nowhere, not_here, here}
use Rattle.gq_laws.specs.Placing.OtherFields.{erase_without, LooksAlikeBut}
use Rattle.gq_laws.proofs.Placing.OtherFields.{without, renumbered, numbered_without, number_same, schema_number_same, default_same, types_look_alike_but}

-- the entries of two type systems, in pairs: the very same, or definitions of object types, at these numbers
pub data Mixed : ℕ → List EntryOf → List EntryOf → List ℕ → Type 0 where
  no_entry : {k : ℕ} → Mixed k [] [] []
  very_same : {k : ℕ} {u : EntryOf} {us hs : List EntryOf} {ns : List ℕ} → Mixed (k + 1) us hs ns → Mixed k (u ∷ us) (u ∷ hs) ns
  two_objects : {k : ℕ} {u h : EntryOf} {us hs : List EntryOf} {ns : List ℕ} → defines_object u.definition ≡ true → defines_object h.definition ≡ true →
      Mixed (k + 1) us hs ns → Mixed k (u ∷ us) (h ∷ hs) (k ∷ ns)

-- the one between: of the old object types the old definitions, and all others of the new ones
abbrev pub between : {k : ℕ} {es us : List EntryOf} {ns : List ℕ} → DifferInObjects k es us ns → List EntryOf
between nowhere = []
between (not_here {u = u} e d) = u ∷ between d
between (here {e = e} a b d) = e ∷ between d

pub is_mixed : {k : ℕ} {es us : List EntryOf} {ns : List ℕ} (d : DifferInObjects k es us ns) → Mixed k us (between d) ns
is_mixed nowhere = no_entry
is_mixed (not_here e d) = very_same (is_mixed d)
is_mixed (here a b d) = two_objects b a (is_mixed d)

pub is_old : {k : ℕ} {es us : List EntryOf} {ns : List ℕ} (d : DifferInObjects k es us ns) → map erase_entry (between d) ≡ map erase_entry es
is_old nowhere = refl
is_old (not_here {e = e} {u = u} is d) = ap (λ z. z ∷ map erase_entry (between d)) (sym is) ∙ ap (λ z. erase_entry e ∷ z) (is_old d)
is_old (here {e = e} a b d) = ap (λ z. erase_entry e ∷ z) (is_old d)

module _ (names : List Text) where
  abbrev look : EntryOf → TypeSystemOf (Unit {0})
  look e = erase_without names e

  pub is_new : {k : ℕ} {es us : List EntryOf} {ns : List ℕ} (d : DifferInObjects k es us ns) → map look es ≡ map look us → map look us ≡ map look (between d)
  is_new nowhere e = refl
  is_new (not_here {e = e} {u = u} {es = es} {us = us} is d) same =
      let rest : map look es ≡ map look us = cc in
      ap (λ z. look u ∷ z) (is_new d rest)
  is_new (here {e = e} {u = u} {es = es} {us = us} a b d) same =
      let one : look e ≡ look u = cc in
      let rest : map look es ≡ map look us = cc in
      ap (λ z. z ∷ map look us) (sym one) ∙ ap (λ z. look e ∷ z) (is_new d rest)

-- an object type owns itself, whatever the type system
owns_itself : (es : List EntryOf) (k : ℕ) (d : TypeSystemOf Span) → defines_object d ≡ true → owner_of es k d ≡ k
owns_itself es k (schema extends description directives roots place) o = absurd (cc)
owns_itself es k (type_definition true description name directives body place) o = absurd (cc)
owns_itself es k (type_definition false description name directives body place) o = refl
owns_itself es k (directive_definition description name arguments repeatable locations place) o = absurd (cc)

-- it has no roots
has_no_roots : (d : TypeSystemOf Span) → defines_object d ≡ true → roots_in d ≡ []
has_no_roots (schema extends description directives roots place) o = absurd (cc)
has_no_roots (type_definition extends description name directives body place) o = refl
has_no_roots (directive_definition description name arguments repeatable locations place) o = absurd (cc)

not_equal : (k number : ℕ) → (k ≡ number → ⊥) → nat_eq k number ≡ false
not_equal k number n = ne_eqb k number n

kept_step : {A : Type 0} (s t : Bool) (n : A) (xs ys : List A) → s ≡ t → xs ≡ ys → cond s (n ∷ xs) xs ≡ cond t (n ∷ ys) ys
kept_step true true n xs ys e r = ap (λ z. n ∷ z) r
kept_step true false n xs ys e r = absurd (cc)
kept_step false true n xs ys e r = absurd (cc)
kept_step false false n xs ys e r = r

left_step : {A : Type 0} (s t : Bool) (n m : A) (xs ys : List A) → s ≡ false → t ≡ false → xs ≡ ys → cond s (n ∷ xs) xs ≡ cond t (m ∷ ys) ys
left_step s t n m xs ys e f r = ap (λ b. cond b (n ∷ xs) xs) e ∙ r ∙ sym (ap (λ b. cond b (m ∷ ys) ys) f)

gathered_step : {A B : Type 0} (f : A → List B) (s t : Bool) (n : A) (xs ys : List A) → s ≡ t → flat_map f xs ≡ flat_map f ys → flat_map f (cond s (n ∷ xs) xs) ≡ flat_map f (cond t (n ∷ ys) ys)
gathered_step f true true n xs ys e r = ap (λ z. f n ++ z) r
gathered_step f true false n xs ys e r = absurd (cc)
gathered_step f false true n xs ys e r = absurd (cc)
gathered_step f false false n xs ys e r = r

empty_step : {A B : Type 0} (f : A → List B) (s t : Bool) (n m : A) (xs ys : List A) → f n ≡ [] → f m ≡ [] → flat_map f xs ≡ flat_map f ys → flat_map f (cond s (n ∷ xs) xs) ≡ flat_map f (cond t (m ∷ ys) ys)
empty_step f true true n m xs ys e g r = ap (λ z. z ++ flat_map f xs) e ∙ r ∙ sym (ap (λ z. z ++ flat_map f ys) g)
empty_step f true false n m xs ys e g r = ap (λ z. z ++ flat_map f xs) e ∙ r
empty_step f false true n m xs ys e g r = r ∙ sym (ap (λ z. z ++ flat_map f ys) g)
empty_step f false false n m xs ys e g r = r

-- what is found of the entries of the one, found of those of the other
module _ (us hs : List EntryOf) (owners_are : (k : ℕ) (d : TypeSystemOf Span) → owner_of us k d ≡ owner_of hs k d) (number : ℕ) where
  pub joined_mixed : {k : ℕ} {vs ws : List EntryOf} {ns : List ℕ} → Mixed k vs ws ns → (Contains ns number → ⊥) →
      filter (λ n. nat_eq (owner us n) number) (numbered_from k vs) ≡ filter (λ n. nat_eq (owner hs n) number) (numbered_from k ws)
  joined_mixed no_entry n = refl
  joined_mixed (very_same {k = k} {u = u} {us = vs} {hs = ws} m) n =
      kept_step (nat_eq (owner_of us k u.definition) number) (nat_eq (owner_of hs k u.definition) number) (record { number = k; entry = u })
      (filter (λ n. nat_eq (owner us n) number) (numbered_from (k + 1) vs)) (filter (λ n. nat_eq (owner hs n) number) (numbered_from (k + 1) ws))
      (ap (λ z. nat_eq z number) (owners_are k u.definition)) (joined_mixed m n)
  joined_mixed (two_objects {k = k} {u = u} {h = h} {us = vs} {hs = ws} {ns = ns} a b m) n =
      let elsewhere : k ≡ number → ⊥ = λ e. n (first k number ns e) in
      left_step (nat_eq (owner_of us k u.definition) number) (nat_eq (owner_of hs k h.definition) number) (record { number = k; entry = u }) (record { number = k; entry = h })
      (filter (λ n. nat_eq (owner us n) number) (numbered_from (k + 1) vs)) (filter (λ n. nat_eq (owner hs n) number) (numbered_from (k + 1) ws))
      (ap (λ z. nat_eq z number) (owns_itself us k u.definition a) ∙ not_equal k number elsewhere)
      (ap (λ z. nat_eq z number) (owns_itself hs k h.definition b) ∙ not_equal k number elsewhere)
      (joined_mixed m (λ c. n (later k number ns c)))

  abbrev roots_at : Numbered → List (In (RootOf Span))
  roots_at n = put_in n.entry.file (roots_in n.entry.definition)

  pub roots_mixed : {k : ℕ} {vs ws : List EntryOf} {ns : List ℕ} → Mixed k vs ws ns →
      flat_map roots_at (filter (λ n. nat_eq (owner us n) number) (numbered_from k vs)) ≡ flat_map roots_at (filter (λ n. nat_eq (owner hs n) number) (numbered_from k ws))
  roots_mixed no_entry = refl
  roots_mixed (very_same {k = k} {u = u} {us = vs} {hs = ws} m) =
      gathered_step roots_at (nat_eq (owner_of us k u.definition) number) (nat_eq (owner_of hs k u.definition) number) (record { number = k; entry = u })
      (filter (λ n. nat_eq (owner us n) number) (numbered_from (k + 1) vs)) (filter (λ n. nat_eq (owner hs n) number) (numbered_from (k + 1) ws))
      (ap (λ z. nat_eq z number) (owners_are k u.definition)) (roots_mixed m)
  roots_mixed (two_objects {k = k} {u = u} {h = h} {us = vs} {hs = ws} {ns = ns} a b m) =
      empty_step roots_at (nat_eq (owner_of us k u.definition) number) (nat_eq (owner_of hs k h.definition) number) (record { number = k; entry = u }) (record { number = k; entry = h })
      (filter (λ n. nat_eq (owner us n) number) (numbered_from (k + 1) vs)) (filter (λ n. nat_eq (owner hs n) number) (numbered_from (k + 1) ws))
      (ap (λ rs. put_in u.file rs) (has_no_roots u.definition a)) (ap (λ rs. put_in h.file rs) (has_no_roots h.definition b)) (roots_mixed m)

-- an entry of the one with its number stands in the other, or is an object type of those
pub found_too : {k : ℕ} {vs ws : List EntryOf} {ns : List ℕ} → Mixed k vs ws ns → (n : Numbered) → Contains (numbered_from k vs) n →
    Contains (numbered_from k ws) n ⊎ (Contains ns n.number × (defines_object n.entry.definition ≡ true))
found_too no_entry n c = nothing_in n c
found_too (very_same {k = k} {u = u} {us = vs} {hs = ws} m) n c =
    ⊎_elim (λ e. inl (first (record { number = k; entry = u }) n (numbered_from (k + 1) ws) e))
    (λ d. ⊎_elim (λ z. inl (later (record { number = k; entry = u }) n (numbered_from (k + 1) ws) z)) (λ z. inr z) (found_too m n d))
    (cases_cons (record { number = k; entry = u }) n (numbered_from (k + 1) vs) c)
found_too (two_objects {k = k} {u = u} {h = h} {us = vs} {hs = ws} {ns = ns} a b m) n c =
    ⊎_elim (λ e. inr (first k n.number ns (ap (λ z. z.number) e), subst (λ z. defines_object z.entry.definition ≡ true) e a))
    (λ d. ⊎_elim (λ z. inl (later (record { number = k; entry = h }) n (numbered_from (k + 1) ws) z)) (λ z. inr (later k n.number ns z.0, z.1)) (found_too m n d))
    (cases_cons (record { number = k; entry = u }) n (numbered_from (k + 1) vs) c)

-- what stands at one of the numbers is an object type
above : {k : ℕ} {vs ws : List EntryOf} {ns : List ℕ} → Mixed k vs ws ns → (n : ℕ) → Contains ns n → k ≤ n
above no_entry n c = nothing_in n c
above (very_same m) n c = omega (arith, above m n c)
above (two_objects {k = k} {ns = ns} a b m) n c = ⊎_elim (λ e. omega (arith, e)) (λ d. omega (arith, above m n d)) (cases_cons k n ns c)

numbers_from : (k : ℕ) (vs : List EntryOf) (n : Numbered) → Contains (numbered_from k vs) n → k ≤ n.number
numbers_from k vs n c = let r = from_numbered k vs n c in omega (arith, r.2)

pub object_at : {k : ℕ} {vs ws : List EntryOf} {ns : List ℕ} → Mixed k vs ws ns → (n : Numbered) → Contains (numbered_from k vs) n → Contains ns n.number → defines_object n.entry.definition ≡ true
object_at no_entry n c d = nothing_in n c
object_at (very_same {k = k} {u = u} {us = vs} m) n c d =
    ⊎_elim (λ e. absurd (omega (arith, ap (λ z. z.number) e, above m n.number d))) (λ z. object_at m n z d) (cases_cons (record { number = k; entry = u }) n (numbered_from (k + 1) vs) c)
object_at (two_objects {k = k} {u = u} {us = vs} {ns = ns} a b m) n c d =
    ⊎_elim (λ e. subst (λ z. defines_object z.entry.definition ≡ true) e a)
    (λ z. ⊎_elim (λ e. absurd (omega (arith, e, numbers_from (k + 1) vs n z))) (λ t. object_at m n z t) (cases_cons k n.number ns d))
    (cases_cons (record { number = k; entry = u }) n (numbered_from (k + 1) vs) c)

-- whether a number is one of them
pub is_among : (n : ℕ) (ns : List ℕ) → Contains ns n ⊎ (Contains ns n → ⊥)
is_among n [] = inr (λ c. nothing_in n c)
is_among n (k ∷ ns) = ⊎_elim (λ e. inl (first k n ns e.1))
    (λ e. ⊎_elim (λ c. inl (later k n ns c)) (λ none. inr (λ c. ⊎_elim (λ is. e.1 is) none (cases_cons k n ns c))) (is_among n ns))
    (eqb_tells k n)

-- What the look-ups find in two type systems in which all entries are the same but for places and for fields of some names.
module _ (names : List Text) (us hs : List EntryOf) (alike : map (erase_without names) us ≡ map (erase_without names) hs) where
  pub looks : LooksAlikeBut names us hs
  looks = types_look_alike_but names us hs alike

  left : map erase_entry (map (without names) us) ≡ map erase_entry (map (without names) hs)
  left = map-map erase_entry (without names) us ∙ alike ∙ sym (map-map erase_entry (without names) hs)

  pub numbers_are : (text : Text) → type_number us text ≡ type_number hs text
  numbers_are text = sym (number_same names us text) ∙ type_numbers (map (without names) us) (map (without names) hs) left text ∙ number_same names hs text

  pub schemas_are : schema_number us ≡ schema_number hs
  schemas_are = sym (schema_number_same names us) ∙ schema_numbers (map (without names) us) (map (without names) hs) left ∙ schema_number_same names hs

  pub defaults_are : (operation : OperationKind) → default_root us operation ≡ default_root hs operation
  defaults_are operation = sym (default_same names us operation) ∙ default_roots (map (without names) us) (map (without names) hs) left operation ∙ default_same names hs operation

  pub owners_are : (k : ℕ) (d : TypeSystemOf Span) → owner_of us k d ≡ owner_of hs k d
  owners_are k (schema true description directives roots place) = schemas_are
  owners_are k (schema false description directives roots place) = refl
  owners_are k (type_definition true description name directives body place) =
      ap (λ o. if option_map_or (same_kind (kind_of body)) o false then unwrap_or (type_number us name.text) k else k) (looks.kind name.text)
      ∙ ap (λ o. if option_map_or (same_kind (kind_of body)) (kind_named hs name.text) false then unwrap_or o k else k) (numbers_are name.text)
  owners_are k (type_definition false description name directives body place) = refl
  owners_are k (directive_definition description name arguments repeatable locations place) = refl

  -- an entry with its number, and one that looks like it
  abbrev erase_left : Numbered → ℕ × TypeSystemOf (Unit {0})
  erase_left n = erase_numbered (renumbered names n)

  numbered_left : map erase_left (numbered us) ≡ map erase_left (numbered hs)
  numbered_left =
      sym (map-map erase_numbered (renumbered names) (numbered us)) ∙ ap (map erase_numbered) (sym (numbered_without names 0 us))
      ∙ numbered_alike 0 (map (without names) us) (map (without names) hs) left
      ∙ ap (map erase_numbered) (numbered_without names 0 hs) ∙ map-map erase_numbered (renumbered names) (numbered hs)

  pub like : (n : Numbered) → Contains (numbered us) n →
      (m : Numbered) × Contains (numbered hs) m × (n.number ≡ m.number) × (erase_without names n.entry ≡ erase_without names m.entry)
  like n c = let m = contains erase_left (numbered us) (numbered hs) numbered_left n c in (m.0, m.1, ap (λ z. z.0) m.2, ap (λ z. z.1) m.2)
