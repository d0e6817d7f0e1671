-- What stands in a set with all fragments expanded is what is reached by spreads.
use Rattle.std.proofs.Common.{◌≡◌, ℕ, zero, suc, ◌+◌, ◌<◌, Bool, true, false, if◌then◌else◌, List, [], ◌∷◌, ◌++◌, Option, Some, None, Contains, map, length, refl, sym, ◌∙◌, ap, subst, arith, inl, inr}
use Rattle.std.specs.List.{slice_get}
use Rattle.std.specs.Option.{option_map_or}
use Rattle.std.specs.Str.{bytes_eq}
use Rattle.std.specs.Cmp.Lexicographic.{bytes_decides}
use Rattle.std.proofs.lemmas.Option.{same_Some, none-some}
use Rattle.std.proofs.lemmas.List.Elements.{Contains-append_left, Contains-append_right, Contains-append_cases, All-contains}
use Rattle.gq_names.proofs.RepeatLemmas.{contains_none, contains_later, contains_first, contains_cases}
use Rattle.gq_types.specs.Entries.{Text}
use Rattle.gq_text.specs.declared.place.Span.{Span}
use Rattle.gq_tree.specs.Forest.{none, more}
use Rattle.gq_tree.specs.Plain.{Sels, field, spread, inline}
use Rattle.gq_graph.specs.Reach.{Reach, start, step}
use Rattle.gq_spreads.specs.Spreads.{places_from}
use Rattle.gq_document.specs.Definitions.{FragmentOf}
use Rattle.gq_document.specs.Executable.{ExecutableOf}
use Rattle.gq_document.specs.FieldSets.{SetOf, FieldAt, narrowed, operation_set, fragment_set, field_set, InSet, here, within, through, after, Stands, of_operation, of_fragment, of_field}
use Rattle.gq_merging.specs.Helping.SetTables.{MemberOf, RowOf, IsRow, AreRows, AreAlike, HasNumber, IsLedTo, own_fields, own_spreads, first_sets, names_of, members_at, spreads_at, IsMember}
use Rattle.gq_merging.proofs.Worklist.{own_in, get_longer}
use Rattle.gq_types.proofs.Gathered.{from_map_as as from_map, to_map}

pub nothing : (x : ExecutableOf) (file : ℕ) (parent : Option Text) (ss : Sels Span) → ss ≡ none → (f : FieldAt) → InSet x (record { file = file; parent = parent; selections = ss }) f → ⊥
nothing x file parent none e f i = elim i [ ]
nothing x file parent (more head below rest) e f i = absurd (cc)

-- alike sets have the same fields
pub alike_in : (x : ExecutableOf) (s t : SetOf) → AreAlike s t → (f : FieldAt) → InSet x s f → InSet x t f
alike_in x s t (inl e) f i = subst (λ u. InSet x u f) e i
alike_in x s t (inr empty) f i = absurd (nothing x s.file s.parent s.selections empty.0 f i)

pub alike_back : (s t : SetOf) → AreAlike s t → AreAlike t s
alike_back s t (inl e) = inl (sym e)
alike_back s t (inr empty) = inr (empty.1, empty.0)

pub get_contains : {A : Type 0} (xs : List A) (k : ℕ) (y : A) → slice_get xs k ≡ Some y → Contains xs y
get_contains [] k y e = absurd (none-some y e)
get_contains (x ∷ xs) zero y e = contains_first x xs y (same_Some x y e)
get_contains (x ∷ xs) (suc k) y e = contains_later x xs y (get_contains xs k y e)

pub contains_get : {A : Type 0} (xs : List A) (y : A) → Contains xs y → (k : ℕ) × (slice_get xs k ≡ Some y)
contains_get [] y c = absurd (contains_none y c)
contains_get (x ∷ xs) y c = elim (contains_cases x xs y c) [
  | inl e ↦ (0, ap Some e)
  | inr d ↦ let q = contains_get xs y d in (suc q.0, q.1)
]

pub get_below : {A : Type 0} (xs : List A) (k : ℕ) → k < length xs → (y : A) × (slice_get xs k ≡ Some y)
get_below [] k l = absurd (omega (arith, l))
get_below (x ∷ xs) zero l = (x, refl)
get_below (x ∷ xs) (suc k) l = get_below xs k (omega (arith, l))

pub get_map : {A B : Type 0} (f : A → B) (xs : List A) (k : ℕ) (y : A) → slice_get xs k ≡ Some y → slice_get (map f xs) k ≡ Some (f y)
get_map f [] k y e = absurd (none-some y e)
get_map f (x ∷ xs) zero y e = ap (λ z. Some (f z)) (same_Some x y e)
get_map f (x ∷ xs) (suc k) y e = get_map f xs k y e

pub map_get : {A B : Type 0} (f : A → B) (xs : List A) (k : ℕ) (z : B) → slice_get (map f xs) k ≡ Some z → (y : A) × (slice_get xs k ≡ Some y) × (f y ≡ z)
map_get f [] k z e = absurd (none-some z e)
map_get f (x ∷ xs) zero z e = (x, refl, same_Some (f x) z e)
map_get f (x ∷ xs) (suc k) z e = map_get f xs k z e

-- the places of a name
pub from_places : (j : ℕ) (text : Text) (names : List Text) (k : ℕ) → Contains (places_from j text names) k → (i : ℕ) × (k ≡ j + i) × (slice_get names i ≡ Some text)
from_places j text [] k c = absurd (contains_none k c)
from_places j text (name ∷ names) k c = by_test (bytes_eq text name) refl c (λ d. let q = from_places (j + 1) text names k d in (suc q.0, omega (arith, q.1), q.2))
  where
    by_test : (b : Bool) → bytes_eq text name ≡ b → Contains (if b then j ∷ places_from (j + 1) text names else places_from (j + 1) text names) k →
        (Contains (places_from (j + 1) text names) k → (i : ℕ) × (k ≡ j + i) × (slice_get (name ∷ names) i ≡ Some text)) → (i : ℕ) × (k ≡ j + i) × (slice_get (name ∷ names) i ≡ Some text)
    by_test true e d rest = elim (contains_cases j (places_from (j + 1) text names) k d) [
      | inl is ↦ (0, omega (arith, is), ap Some (sym ((bytes_decides text name).0 e)))
      | inr d' ↦ rest d'
    ]
    by_test false e d rest = rest d

pub to_places : (j : ℕ) (text : Text) (names : List Text) (i : ℕ) → slice_get names i ≡ Some text → Contains (places_from j text names) (j + i)
to_places j text [] i e = absurd (none-some text e)
to_places j text (name ∷ names) zero e =
    rw ((bytes_decides text name).1 (sym (same_Some name text e))) (contains_first j (places_from (j + 1) text names) (j + 0) (omega arith))
to_places j text (name ∷ names) (suc i) e = by_test (bytes_eq text name) (subst (Contains (places_from (j + 1) text names)) (omega arith) (to_places (j + 1) text names i e))
  where
    by_test : (b : Bool) → Contains (places_from (j + 1) text names) (j + suc i) → Contains (if b then j ∷ places_from (j + 1) text names else places_from (j + 1) text names) (j + suc i)
    by_test true later = contains_later j (places_from (j + 1) text names) (j + suc i) later
    by_test false later = later

-- what stands in a fragment that is spread stands in the set
pub spread_in : (x : ExecutableOf) (file : ℕ) (parent : Option Text) (ss : Sels Span) (k : ℕ) (g : FragmentOf) (f : FieldAt) →
    Contains (own_spreads (names_of x) ss) k → slice_get x.fragments k ≡ Some g → InSet x (fragment_set g) f → InSet x (record { file = file; parent = parent; selections = ss }) f
spread_in x file parent none k g f c e i = absurd (contains_none k c)
spread_in x file parent (more (field alias name arguments directives braces place) below rest) k g f c e i = after (spread_in x file parent rest k g f c e i)
spread_in x file parent (more (spread name directives place) below rest) k g f c e i =
    elim (Contains-append_cases (places_from 0 name.text (names_of x)) (own_spreads (names_of x) rest) k c) [
      | inl a ↦
          let q = from_places 0 name.text (names_of x) k a in
          let n : k ≡ q.0 = omega (arith, q.1) in
          let s : slice_get (names_of x) k ≡ Some g.name.text = get_map (λ (h : FragmentOf). h.name.text) x.fragments k g e in
          let t : Some name.text ≡ Some g.name.text = sym q.2 ∙ ap (slice_get (names_of x)) (sym n) ∙ s in
          through (get_contains x.fragments k g e) (same_Some name.text g.name.text t) i
      | inr b ↦ after (spread_in x file parent rest k g f b e i)
    ]
spread_in x file parent (more (inline on directives braces place) below rest) k g f c e i =
    elim (Contains-append_cases (own_spreads (names_of x) below) (own_spreads (names_of x) rest) k c) [
      | inl a ↦ within (spread_in x file (narrowed on parent) below k g f a e i)
      | inr b ↦ after (spread_in x file parent rest k g f b e i)
    ]

-- a field of a set is its own, or one of a fragment spread in it
pub data Found (x : ExecutableOf) : SetOf → FieldAt → Type 0 where
  own : {s : SetOf} {f : FieldAt} → Contains (own_fields s.file s.parent s.selections) f → Found x s f
  spread_there : {s : SetOf} {f : FieldAt} (k : ℕ) (g : FragmentOf) → Contains (own_spreads (names_of x) s.selections) k → slice_get x.fragments k ≡ Some g → Found x (fragment_set g) f → Found x s f

find_after : (x : ExecutableOf) (file : ℕ) (parent : Option Text) (ss : Sels Span) (f : FieldAt) (t : SetOf) →
    ((g : FieldAt) → Contains (own_fields file parent ss) g → Contains (own_fields t.file t.parent t.selections) g) →
    ((k : ℕ) → Contains (own_spreads (names_of x) ss) k → Contains (own_spreads (names_of x) t.selections) k) →
    Found x (record { file = file; parent = parent; selections = ss }) f → Found x t f
find_after x file parent ss f t fields spreads (own c) = own (fields f c)
find_after x file parent ss f t fields spreads (spread_there k g c e h) = spread_there k g (spreads k c) e h

pub to_found : (x : ExecutableOf) (s : SetOf) (f : FieldAt) → InSet x s f → Found x s f
to_found x s f (here {file = file} {parent = parent} {rest = rest}) = own (contains_first f (own_fields file parent rest) f refl)
to_found x s f (within {file = file} {parent = parent} {on = on} {below = below} {rest = rest} i) =
    find_after x file (narrowed on parent) below f s
    (λ g c. Contains-append_left (own_fields file (narrowed on parent) below) (own_fields file parent rest) g c)
    (λ k c. Contains-append_left (own_spreads (names_of x) below) (own_spreads (names_of x) rest) k c)
    (to_found x (record { file = file; parent = narrowed on parent; selections = below }) f i)
to_found x s f (through {file = file} {parent = parent} {name = name} {rest = rest} {fragment = g} c e i) =
    let q = contains_get x.fragments g c in
    let n : slice_get (names_of x) q.0 ≡ Some name.text = get_map (λ (h : FragmentOf). h.name.text) x.fragments q.0 g q.1 ∙ ap Some (sym e) in
    spread_there q.0 g
    (Contains-append_left (places_from 0 name.text (names_of x)) (own_spreads (names_of x) rest) q.0 (subst (Contains (places_from 0 name.text (names_of x))) (omega arith) (to_places 0 name.text (names_of x) q.0 n)))
    q.1 (to_found x (fragment_set g) f i)
to_found x s f (after {file = file} {parent = parent} {head = field alias name arguments directives braces place} {below = below} {rest = rest} i) =
    find_after x file parent rest f s (λ g c. contains_later _ _ g c) (λ k c. c) (to_found x (record { file = file; parent = parent; selections = rest }) f i)
to_found x s f (after {file = file} {parent = parent} {head = spread name directives place} {below = below} {rest = rest} i) =
    find_after x file parent rest f s (λ g c. c) (λ k c. Contains-append_right (places_from 0 name.text (names_of x)) (own_spreads (names_of x) rest) k c)
    (to_found x (record { file = file; parent = parent; selections = rest }) f i)
to_found x s f (after {file = file} {parent = parent} {head = inline on directives braces place} {below = below} {rest = rest} i) =
    find_after x file parent rest f s
    (λ g c. Contains-append_right (own_fields file (narrowed on parent) below) (own_fields file parent rest) g c)
    (λ k c. Contains-append_right (own_spreads (names_of x) below) (own_spreads (names_of x) rest) k c)
    (to_found x (record { file = file; parent = parent; selections = rest }) f i)

-- a way may begin one step earlier
pub reach_earlier : (next : ℕ → List ℕ) (n k j : ℕ) → Contains (next n) k → Reach (k ∷ []) next j → Reach (n ∷ []) next j
reach_earlier next n k j c (start d) = elim (contains_cases k [] j d) [
  | inl e ↦ step (start (contains_first n [] n refl)) (subst (Contains (next n)) e c)
  | inr d' ↦ absurd (contains_none j d')
]
reach_earlier next n k j c (step {m = m} h d) = step (reach_earlier next n k m c h) d

pub members_there : (rows : List RowOf) (n : ℕ) (r : RowOf) → slice_get rows n ≡ Some r → members_at rows n ≡ r.members
members_there rows n r e = ap (λ (o : Option RowOf). option_map_or (λ (r : RowOf). r.members) o []) e

pub spreads_there : (rows : List RowOf) (n : ℕ) (r : RowOf) → slice_get rows n ≡ Some r → spreads_at rows n ≡ r.spreads
spreads_there rows n r e = ap (λ (o : Option RowOf). option_map_or (λ (r : RowOf). r.spreads) o []) e

is_there : {A B : Type 0} (f : A → List B) (o : Option A) (k : B) → Contains (option_map_or f o []) k → (r : A) × (o ≡ Some r)
is_there f None k c = absurd (contains_none k c)
is_there f (Some r) k c = (r, refl)

row_there : (rows : List RowOf) (n k : ℕ) → Contains (spreads_at rows n) k → (r : RowOf) × (slice_get rows n ≡ Some r)
row_there rows n k c = is_there (λ (r : RowOf). r.spreads) (slice_get rows n) k c

pub row_of_member : (rows : List RowOf) (n : ℕ) (m : MemberOf) → Contains (members_at rows n) m → (r : RowOf) × (slice_get rows n ≡ Some r)
row_of_member rows n m c = is_there (λ (r : RowOf). r.members) (slice_get rows n) m c

-- the way to what a fragment reaches begins where that is spread
reach_led : (rows : List RowOf) (n k j : ℕ) → IsLedTo rows n k → Reach (k ∷ []) (spreads_at rows) j → Reach (n ∷ []) (spreads_at rows) j
reach_led rows n k j (inl c) h = reach_earlier (spreads_at rows) n k j c h
reach_led rows n k j (inr t) h = reach_earlier (spreads_at rows) n t.hub j t.there (reach_earlier (spreads_at rows) t.hub k j t.leads h)

module _ (x : ExecutableOf) (rows : List RowOf) (a : AreRows x rows) where
  is_row : (n : ℕ) (r : RowOf) → slice_get rows n ≡ Some r → IsRow x (map (λ r. r.set) rows) r
  is_row n r e = All-contains (IsRow x (map (λ r. r.set) rows)) rows r a.each (get_contains rows n r e)

  -- the set of a fragment has the fragment's number
  fragment_row : (k : ℕ) (g : FragmentOf) → slice_get x.fragments k ≡ Some g → (r : RowOf) × (slice_get rows k ≡ Some r) × (r.set ≡ fragment_set g)
  fragment_row k g e =
      let s : slice_get (map fragment_set x.fragments) k ≡ Some (fragment_set g) = get_map fragment_set x.fragments k g e in
      let t : slice_get (first_sets x ++ a.others) k ≡ Some (fragment_set g) = get_longer (first_sets x) a.others k (fragment_set g) (get_longer (map fragment_set x.fragments) (map (operation_set x.entries) x.operations) k (fragment_set g) s) in
      map_get (λ (r : RowOf). r.set) rows k (fragment_set g) (ap (λ ss. slice_get ss k) a.begin ∙ t)

  pub found_member : (s : SetOf) (f : FieldAt) (n : ℕ) (r : RowOf) → Found x s f → slice_get rows n ≡ Some r → r.set ≡ s → (m : MemberOf) × IsMember rows n m × (m.field_at ≡ f)
  found_member s f n r (own c) e is =
      let h = is_row n r e in
      let q = from_map (λ (m : MemberOf). m.field_at) r.members f (subst (λ fs. Contains fs f) (ap (λ (t : SetOf). own_fields t.file t.parent t.selections) (sym is) ∙ sym h.fields) c) in
      (q.0, record { reached = n; reach = start (contains_first n [] n refl); stands = subst (λ ms. Contains ms q.0) (sym (members_there rows n r e)) q.1 }, sym q.2)
  found_member s f n r (spread_there k g c at h) e is =
      let p = fragment_row k g at in
      let q = found_member (fragment_set g) f k p.0 h p.1 p.2 in
      let led : IsLedTo rows n k = a.leads n k s (get_map (λ (r : RowOf). r.set) rows n r e ∙ ap Some is) c in
      (q.0, record { reached = q.1.reached; reach = reach_led rows n k q.1.reached led q.1.reach; stands = q.1.stands }, q.2)

  -- what stands in a set that is reached stands in the set
  reached_in : (n : ℕ) (r : RowOf) → slice_get rows n ≡ Some r → (k : ℕ) → Reach (n ∷ []) (spreads_at rows) k → (q : RowOf) → slice_get rows k ≡ Some q → (f : FieldAt) → InSet x q.set f → InSet x r.set f
  reached_in n r e k (start c) q at f i = elim (contains_cases n [] k c) [
    | inl same ↦ subst (λ (p : RowOf). InSet x p.set f) (same_Some q r (sym at ∙ ap (slice_get rows) (sym same) ∙ e)) i
    | inr nothing ↦ absurd (contains_none k nothing)
  ]
  reached_in n r e k (step {m = m} h c) q at f i =
      let p = row_there rows m k c in
      let w = (is_row m p.0 p.1).inside k (subst (λ ns. Contains ns k) (spreads_there rows m p.0 p.1) c) in
      let same : q.set ≡ w.set = same_Some q.set w.set (sym (get_map (λ (r : RowOf). r.set) rows k q at) ∙ w.is_set) in
      reached_in n r e m h p.0 p.1 f (w.within f (subst (λ s. InSet x s f) same i))

  pub member_in : (n : ℕ) (r : RowOf) → slice_get rows n ≡ Some r → (m : MemberOf) → IsMember rows n m → InSet x r.set m.field_at × HasNumber x.entries (map (λ r. r.set) rows) m
  member_in n r e m h =
      let q = row_of_member rows h.reached m h.stands in
      let there : Contains q.0.members m = subst (λ ms. Contains ms m) (members_there rows h.reached q.0 q.1) h.stands in
      let w = is_row h.reached q.0 q.1 in
      let own_field : Contains (own_fields q.0.set.file q.0.set.parent q.0.set.selections) m.field_at =
      subst (λ fs. Contains fs m.field_at) w.fields (to_map (λ (m : MemberOf). m.field_at) q.0.members m there) in
      let i : InSet x q.0.set m.field_at = All-contains (InSet x q.0.set) (own_fields q.0.set.file q.0.set.parent q.0.set.selections) m.field_at (own_in x q.0.set.file q.0.set.parent q.0.set.selections) own_field in
      (reached_in n r e h.reached h.reach q.0 q.1 m.field_at i, All-contains (HasNumber x.entries (map (λ r. r.set) rows)) q.0.members m w.numbers there)

  -- each set that stands has a number
  first_numbered : (s : SetOf) → Contains (first_sets x) s → (n : ℕ) × (r : RowOf) × (slice_get rows n ≡ Some r) × (r.set ≡ s)
  first_numbered s c =
      let q = contains_get (first_sets x) s c in
      let t = map_get (λ (r : RowOf). r.set) rows q.0 s (ap (λ ss. slice_get ss q.0) a.begin ∙ get_longer (first_sets x) a.others q.0 s q.1) in
      (q.0, t.0, t.1, t.2)

  stands_numbered : (s : SetOf) → Stands x s → (n : ℕ) × (r : RowOf) × (slice_get rows n ≡ Some r) × AreAlike r.set s
  stands_numbered s (of_operation {o = o} c) =
      let q = first_numbered s (Contains-append_right (map fragment_set x.fragments) (map (operation_set x.entries) x.operations) s (to_map (operation_set x.entries) x.operations o c)) in
      (q.0, q.1, q.2, inl q.3)
  stands_numbered s (of_fragment {f = f} c) =
      let q = first_numbered s (Contains-append_left (map fragment_set x.fragments) (map (operation_set x.entries) x.operations) s (to_map fragment_set x.fragments f c)) in
      (q.0, q.1, q.2, inl q.3)
  stands_numbered s (of_field {set = t} {f = f} h i) =
      let q = stands_numbered t h in
      let there : InSet x q.1.set f = alike_in x t q.1.set (alike_back q.1.set t q.3) f i in
      let m = found_member q.1.set f q.0 q.1 (to_found x q.1.set f there) q.2 refl in
      let w = member_in q.0 q.1 q.2 m.0 m.1 in
      let g = map_get (λ (r : RowOf). r.set) rows m.0.below w.1.set w.1.is_set in
      (m.0.below, g.0, g.1, subst (λ u. AreAlike u (field_set x.entries f)) (sym g.2) (subst (λ (h : FieldAt). AreAlike w.1.set (field_set x.entries h)) m.2 w.1.alike))

  -- the fields of a set that stands are the members of its row, each with the number of a set like that in its braces
  pub set_numbered : (s : SetOf) → Stands x s → (n : ℕ) × (t : SetOf) × (slice_get (map (λ r. r.set) rows) n ≡ Some t) × AreAlike t s
  set_numbered s h = let q = stands_numbered s h in (q.0, q.1.set, get_map (λ (r : RowOf). r.set) rows q.0 q.1 q.2, q.3)

  pub field_member : (n : ℕ) (s : SetOf) → slice_get (map (λ r. r.set) rows) n ≡ Some s → (f : FieldAt) → InSet x s f → (m : MemberOf) × IsMember rows n m × (m.field_at ≡ f)
  field_member n s e f i = let r = map_get (λ (r : RowOf). r.set) rows n s e in found_member s f n r.0 (to_found x s f i) r.1 r.2

  pub member_field : (n : ℕ) (s : SetOf) → slice_get (map (λ r. r.set) rows) n ≡ Some s → (m : MemberOf) → IsMember rows n m → InSet x s m.field_at × HasNumber x.entries (map (λ r. r.set) rows) m
  member_field n s e m h =
      let r = map_get (λ (r : RowOf). r.set) rows n s e in
      let w = member_in n r.0 r.1 m h in
      (subst (λ t. InSet x t m.field_at) r.2 w.0, w.1)

  -- what stands in a set that is reached by spreads stands in the set
  pub reached_field : (n k : ℕ) (s t : SetOf) → slice_get (map (λ r. r.set) rows) n ≡ Some s → Reach (n ∷ []) (spreads_at rows) k → slice_get (map (λ r. r.set) rows) k ≡ Some t → (f : FieldAt) → InSet x t f → InSet x s f
  reached_field n k s t e h d f i =
      let r = map_get (λ (r : RowOf). r.set) rows n s e in
      let q = map_get (λ (r : RowOf). r.set) rows k t d in
      subst (λ u. InSet x u f) r.2 (reached_in n r.0 r.1 k h q.0 q.1 f (subst (λ u. InSet x u f) (sym q.2) i))
