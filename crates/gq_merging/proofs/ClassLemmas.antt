-- Classes of fields by their keys.
use Rattle.std.proofs.Common.{◌≡◌, ◌↔◌, ℕ, zero, suc, ◌+◌, ◌<◌, ◌⊎◌, Bool, true, false, IsTrue, List, [], ◌∷◌, ◌++◌, Option, Some, None, is_some, All, Contains, length, map, set, refl, sym, ◌∙◌, ap, subst, arith, inl, inr, not, get_or, take, Vec, Global}
use Rattle.std.specs.List.{slice_get, position, position_or_len, list_any}
use Rattle.std.specs.Option.{option_map, option_map_or, IfSome}
use Rattle.std.specs.Str.{bytes_eq}
use Rattle.std.specs.Cmp.Lexicographic.{bytes_decides}
use Rattle.std.proofs.lemmas.Bool.{cases_eq}
use Rattle.std.proofs.lemmas.Grind.{common_steps}
use Rattle.std.proofs.lemmas.List.{length-set, length_push, map-set, take_more, map-append, length-map}
use Rattle.std.proofs.lemmas.List.Elements.{All-nil, All-cons, All-push, All-set, All-contains, Contains-push, Contains-push_cases}
use Rattle.std.proofs.lemmas.List.Quantifiers.{position-Some}
use Rattle.std.proofs.lemmas.Option.{same_Some, none-some, slice_get-map, slice_get_read}
use Rattle.gq_text.specs.declared.place.Span.{Span}
use Rattle.gq_names.proofs.PlaceLemmas.{is_some_position, position_push_found, position_push_here}
use Rattle.gq_names.proofs.RepeatLemmas.{contains_none, contains_first}
use Rattle.gq_graph.specs.Reach.{Reach, start, step, row}
use Rattle.gq_graph.proofs.Ways.{way_starts, contains_one}
use Rattle.gq_tree.specs.Plain.{TypeOf}
use Rattle.gq_types.specs.Entries.{Text, EntryOf}
use Rattle.gq_document.specs.FieldSets.{FieldAt, key}
use Rattle.gq_merging.specs.Shapes.{shape_of}
use Rattle.gq_merging.specs.Helping.Comparisons.{known_type, same_shapes}
use Rattle.gq_merging.specs.Helping.SetTables.{MemberOf, RowOf, members_at, spreads_at, IsMember}
use Rattle.gq_merging.specs.Helping.GroupTables.{IsOfGroup, IsThrough, known_shape, SayTheSame, IsUnder, AreBelow, ClassesOf, HasClass, AreClasses, HaveClasses, Takes, AreSettled}
use Rattle.gq_merging.specs.Helping.Views.{field_at, member_view, members_view, row_view, rows_view}
use Rattle.gq_merging.specs.Helping.GroupViews.{groups_view, classes_view}
use Rattle.gq_merging.specs.declared.classes.Classes.{Classes}
use Rattle.gq_merging.specs.declared.rows.Member.{Member}
use Rattle.gq_merging.specs.declared.rows.Row.{Row}
use Rattle.gq_merging.proofs.CompareLemmas.{shapes_are}
use Rattle.gq_merging.proofs.MemberLemmas.{get_contains, reach_earlier}
use Rattle.gq_merging.proofs.MemberSteps.{members_of_row, members_past}
use Rattle.gq_merging.proofs.Worklist.{get_longer, get_seam}

-- two known shapes
pub known_shapes : (es : List EntryOf) (a b : FieldAt) (t u : TypeOf Span) (same : Bool) → known_type es a ≡ Some t → known_type es b ≡ Some u → same ≡ same_shapes es t u →
    IsTrue same ↔ (known_shape es a ≡ known_shape es b)
known_shapes es a b t u same ea eb is =
    let left : known_shape es a ≡ Some (shape_of es t) = ap (option_map (shape_of es)) ea in
    let right : known_shape es b ≡ Some (shape_of es u) = ap (option_map (shape_of es)) eb in
    let are = shapes_are es t u in (
      (λ e. left ∙ ap Some (are.0 (sym is ∙ e)) ∙ sym right),
      (λ e. is ∙ are.1 (same_Some (shape_of es t) (shape_of es u) (sym left ∙ e ∙ right))),
    )

-- a way from a number that leads nowhere
stays : (next : ℕ → List ℕ) (n k : ℕ) → next n ≡ [] → Reach (n ∷ []) next k → k ≡ n
stays next n k e (start c) = contains_one n k c
stays next n k e (step {m = m} h c) =
    let at : m ≡ n = stays next n m e h in
    absurd (contains_none k (subst (λ ns. Contains ns k) (ap next at ∙ e) c))

row_at : (table : List (Vec ℕ Global)) (n : ℕ) (v : Vec ℕ Global) → slice_get table n ≡ Some v → row table n ≡ v.items
row_at [] n v e = absurd (cc)
row_at (w ∷ table) zero v e = ap (λ (v : Vec ℕ Global). v.items) (same_Some w v e)
row_at (w ∷ table) (suc n) v e = row_at table n v e

-- one number that leads nowhere reaches itself alone
pub lone_reaches : (table : List (Vec ℕ Global)) (group found : List ℕ) (v : Vec ℕ Global) → length group ≡ 1 →
    slice_get table (get_or group 0 0) ≡ Some v → v.items ≡ [] → found ≡ group →
    All (λ n. Reach group (row table) n) found × ((k : ℕ) → Reach group (row table) k → Contains found k)
lone_reaches table [] found v one at none is = absurd (omega (arith, one))
lone_reaches table (n ∷ []) found v one at none is = (
  subst (λ ns. All (λ m. Reach (n ∷ []) (row table) m) ns) (sym is)
      (All-cons (λ m. Reach (n ∷ []) (row table) m) n [] (start (contains_first n [] n refl)) (All-nil (λ m. Reach (n ∷ []) (row table) m))),
  λ k h. subst (λ ns. Contains ns k) (sym is) (contains_first n [] k (sym (stays (row table) n k (row_at table n v at ∙ none) h))),
)
lone_reaches table (n ∷ m ∷ rest) found v one at none is = absurd (omega (arith, one))

nothing_there : (rows : List RowOf) (n : ℕ) (m : MemberOf) → members_at rows n ≡ [] → spreads_at rows n ≡ [] → IsMember rows n m → ⊥
nothing_there rows n m none no_way h =
    let at : h.reached ≡ n = stays (spreads_at rows) n h.reached no_way h.reach in
    contains_none m (subst (λ ms. Contains ms m) (ap (members_at rows) at ∙ none) h.stands)

spreads_of_row : (rows : List Row) (n : ℕ) (r : Row) → slice_get rows n ≡ Some r → spreads_at (rows_view rows) n ≡ r.spreads.items
spreads_of_row rows n r e = ap (λ (o : Option RowOf). option_map_or (λ (r : RowOf). r.spreads) o []) (slice_get-map row_view rows n ∙ ap (option_map row_view) e)

spreads_past : (rows : List Row) (n : ℕ) → slice_get rows n ≡ None → spreads_at (rows_view rows) n ≡ []
spreads_past rows n e = ap (λ (o : Option RowOf). option_map_or (λ (r : RowOf). r.spreads) o []) (slice_get-map row_view rows n ∙ ap (option_map row_view) e)

pub nothing_in_row : (rows : List Row) (n : ℕ) (r : Row) → slice_get rows n ≡ Some r → r.members.items ≡ [] → r.spreads.items ≡ [] → (m : MemberOf) → IsMember (rows_view rows) n m → ⊥
nothing_in_row rows n r e none no_way m h =
    nothing_there (rows_view rows) n m (members_of_row rows n r e ∙ ap members_view none) (spreads_of_row rows n r e ∙ no_way) h

pub nothing_past : (rows : List Row) (n : ℕ) → slice_get rows n ≡ None → (m : MemberOf) → IsMember (rows_view rows) n m → ⊥
nothing_past rows n e m h = nothing_there (rows_view rows) n m (members_past rows n e) (spreads_past rows n e) h

-- what is reached from a set in which the spread of one fragment stands alone is that set, or is reached from the fragment
on_through : (next : ℕ → List ℕ) (n fragment k : ℕ) → next n ≡ fragment ∷ [] → Reach (n ∷ []) next k → (k ≡ n) ⊎ Reach (fragment ∷ []) next k
on_through next n fragment k one (start c) = inl (contains_one n k c)
on_through next n fragment k one (step {m = m} h c) = elim (on_through next n fragment m one h) [
  | inl at ↦
      let there : Contains (fragment ∷ []) k = subst (λ ns. Contains ns k) (ap next at ∙ one) c in
      inr (start there)
  | inr r ↦ inr (step r c)
]

-- the fields of such a set are those of the fragment
pub through_member : (rows : List RowOf) (n fragment : ℕ) → IsThrough rows n fragment → (m : MemberOf) → IsMember rows n m → IsMember rows fragment m
through_member rows n fragment t m h = elim (on_through (spreads_at rows) n fragment h.reached t.one h.reach) [
  | inl at ↦ absurd (contains_none m (subst (λ ms. Contains ms m) (ap (members_at rows) at ∙ t.none) h.stands))
  | inr r ↦ record { reached = h.reached; reach = r; stands = h.stands }
]

-- and back
pub member_through : (rows : List RowOf) (n fragment : ℕ) → IsThrough rows n fragment → (m : MemberOf) → IsMember rows fragment m → IsMember rows n m
member_through rows n fragment t m h = record {
  reached = h.reached;
  reach = reach_earlier (spreads_at rows) n fragment h.reached (subst (λ ns. Contains ns fragment) (sym t.one) (contains_first fragment [] fragment refl)) h.reach;
  stands = h.stands;
}

-- the row in which no field stands, and one spread
pub is_through : (rows : List Row) (n fragment : ℕ) (r : Row) → slice_get rows n ≡ Some r → r.members.items ≡ [] → length r.spreads.items ≡ 1 → fragment ≡ get_or r.spreads.items 0 fragment →
    IsThrough (rows_view rows) n fragment
is_through rows n fragment r e none one at = record {
  none = members_of_row rows n r e ∙ ap members_view none;
  one = spreads_of_row rows n r e ∙ alone r.spreads.items one at;
}
  where
    alone : (ns : List ℕ) → length ns ≡ 1 → fragment ≡ get_or ns 0 fragment → ns ≡ fragment ∷ []
    alone [] one at = absurd (omega (arith, one))
    alone (k ∷ []) one at = ap (λ j. j ∷ []) (sym at)
    alone (k ∷ j ∷ rest) one at = absurd (omega (arith, one))

-- the fields of a set that stands in a group
pub under_one : (rows : List RowOf) (n : ℕ) (group : List ℕ) → Contains group n → IsUnder rows n group
under_one rows n group c = record {
  each = λ m h. record {
    reached = h.reached;
    reach = way_starts (spreads_at rows) (n ∷ []) group (λ k d. subst (λ j. Contains group j) (sym (contains_one n k d)) c) h.reached h.reach;
    stands = h.stands;
  };
}

pub under_itself : (rows : List RowOf) (n : ℕ) → IsUnder rows n (n ∷ [])
under_itself rows n = under_one rows n (n ∷ []) (contains_first n [] n refl)

-- those of a set in which a spread stands alone are under the fragment
pub under_fragment : (rows : List RowOf) (n fragment : ℕ) → IsThrough rows n fragment → IsUnder rows n (fragment ∷ [])
under_fragment rows n fragment t = record { each = λ m h. let g = through_member rows n fragment t m h in record { reached = g.reached; reach = g.reach; stands = g.stands } }

of_more : (rows : List RowOf) (old new : List ℕ) → ((k : ℕ) → Contains old k → Contains new k) → (m : MemberOf) → IsOfGroup rows old m → IsOfGroup rows new m
of_more rows old new more m h = record {
  reached = h.reached;
  reach = way_starts (spreads_at rows) old new more h.reached h.reach;
  stands = h.stands;
}

under_more : (rows : List RowOf) (n : ℕ) (old new : List ℕ) → ((k : ℕ) → Contains old k → Contains new k) → IsUnder rows n old → IsUnder rows n new
under_more rows n old new more h = record { each = λ m i. of_more rows old new more m (h.each m i) }

-- those of a set are under a group that has a set with the same fields
pub under_pushed : (rows : List RowOf) (n same : ℕ) (old new : List ℕ) → IsUnder rows n (same ∷ []) → new ≡ old ++ same ∷ [] → IsUnder rows n new
under_pushed rows n same old new under is =
    under_more rows n (same ∷ []) new (λ k c. subst (λ j. Contains new j) (sym (contains_one same k c)) (subst (λ ns. Contains ns same) (sym is) (Contains-push old same))) under

pub under_none : (rows : List RowOf) (n : ℕ) (group : List ℕ) → ((m : MemberOf) → IsMember rows n m → ⊥) → IsUnder rows n group
under_none rows n group none = record { each = λ m h. absurd (none m h) }

-- places of a list
pub get_set_same : {A : Type 0} (xs : List A) (i : ℕ) (y z : A) → slice_get xs i ≡ Some z → slice_get (set xs i y) i ≡ Some y
get_set_same [] i y z e = absurd (none-some z e)
get_set_same (x ∷ xs) zero y z e = refl
get_set_same (x ∷ xs) (suc i) y z e = get_set_same xs i y z e

pub get_set_other : {A : Type 0} (xs : List A) (i j : ℕ) (y : A) → (j ≡ i → ⊥) → slice_get (set xs i y) j ≡ slice_get xs j
get_set_other [] i j y apart = refl
get_set_other (x ∷ xs) zero zero y apart = absurd (apart refl)
get_set_other (x ∷ xs) zero (suc j) y apart = refl
get_set_other (x ∷ xs) (suc i) zero y apart = refl
get_set_other (x ∷ xs) (suc i) (suc j) y apart = get_set_other xs i j y (λ e. apart (ap suc e))

place_stays : (p : Text → Bool) (xs : List Text) (y : Text) (i : ℕ) → position p xs ≡ Some i → position p (xs ++ y ∷ []) ≡ Some i
place_stays p xs y i e =
    let any : list_any p xs ≡ true = sym (is_some_position p xs) ∙ ap is_some e in
    position_push_found p xs y any ∙ e

place_new : (p : Text → Bool) (xs : List Text) (y : Text) → position p xs ≡ None → p y ≡ true → position p (xs ++ y ∷ []) ≡ Some (length xs)
place_new p xs y e at =
    let any : list_any p xs ≡ false = sym (is_some_position p xs) ∙ ap is_some e in
    position_push_here p xs y any at

-- the place of a key is one of the classes
place_within : (rows : List RowOf) (classes : ClassesOf) (text : Text) (i : ℕ) → AreClasses rows classes → position (bytes_eq text) classes.keys ≡ Some i →
    (i < length classes.firsts) × (i < length classes.groups)
place_within rows classes text i h e =
    let l : i < length classes.keys = within (bytes_eq text) classes.keys i e in
    (omega (arith, l, h.firsts_count), omega (arith, l, h.groups_count))
  where
    within : (p : Text → Bool) (xs : List Text) (i : ℕ) → position p xs ≡ Some i → i < length xs
    within p xs i e = (position-Some p xs i [] e).0

module _ (es : List EntryOf) (rows : List RowOf) (m : MemberOf) (old new : ClassesOf) (h : AreClasses rows old) where
  -- a class more
  module _ (group : List ℕ) (keys : new.keys ≡ old.keys ++ key m.field_at ∷ []) (firsts : new.firsts ≡ old.firsts ++ m ∷ []) (groups : new.groups ≡ old.groups ++ group ∷ []) where
    pub classes_first : All (λ n. n < length rows) group → AreClasses rows new
    classes_first range = record {
      firsts_count = ap length firsts ∙ length_push old.firsts m ∙ ap (λ n. n + 1) h.firsts_count ∙ sym (ap length keys ∙ length_push old.keys (key m.field_at));
      groups_count = ap length groups ∙ length_push old.groups group ∙ ap (λ n. n + 1) h.groups_count ∙ sym (ap length keys ∙ length_push old.keys (key m.field_at));
      range = subst (AreBelow rows) (sym groups) (All-push (λ group. All (λ n. n < length rows) group) old.groups group h.range range);
    }

    kept_first : (w : MemberOf) → HasClass es rows old w → HasClass es rows new w
    kept_first w c = record {
      place = c.place;
      is = ap (position (bytes_eq (key w.field_at))) keys ∙ place_stays (bytes_eq (key w.field_at)) old.keys (key m.field_at) c.place c.is;
      first = c.first;
      is_first = ap (λ ms. slice_get ms c.place) firsts ∙ get_longer old.firsts (m ∷ []) c.place c.first c.is_first;
      same = c.same;
      group = c.group;
      is_group = ap (λ gs. slice_get gs c.place) groups ∙ get_longer old.groups (group ∷ []) c.place c.group c.is_group;
      under = c.under;
    }

    class_new : position (bytes_eq (key m.field_at)) old.keys ≡ None → IsUnder rows m.below group → HasClass es rows new m
    class_new absent under = record {
      place = length old.keys;
      is = ap (position (bytes_eq (key m.field_at))) keys ∙ place_new (bytes_eq (key m.field_at)) old.keys (key m.field_at) absent ((bytes_decides (key m.field_at) (key m.field_at)).1 refl);
      first = m;
      is_first = ap (λ ms. slice_get ms (length old.keys)) firsts ∙ ap (slice_get (old.firsts ++ m ∷ [])) (sym h.firsts_count) ∙ get_seam old.firsts m [];
      same = record { one_name = refl; one_row = refl; one_shape = refl };
      group = group;
      is_group = ap (λ gs. slice_get gs (length old.keys)) groups ∙ ap (slice_get (old.groups ++ group ∷ [])) (sym h.groups_count) ∙ get_seam old.groups group [];
      under = under;
    }

    pub takes_first : position (bytes_eq (key m.field_at)) old.keys ≡ None → IsUnder rows m.below group → Takes es rows m old new
    takes_first absent under = record {
      have = λ ms k. record {
        each = λ w c. elim (Contains-push_cases ms m w c) [
          | inl d ↦ kept_first w (k.each w d)
          | inr e ↦ subst (HasClass es rows new) e (class_new absent under)
        ];
      };
    }

  -- a class with one field more
  module _ (place : ℕ) (group more : List ℕ) (keys : new.keys ≡ old.keys) (firsts : new.firsts ≡ old.firsts) (groups : new.groups ≡ set old.groups place more) where
    pub classes_other : All (λ n. n < length rows) more → AreClasses rows new
    classes_other range = record {
      firsts_count = ap length firsts ∙ h.firsts_count ∙ sym (ap length keys);
      groups_count = ap length groups ∙ length-set old.groups place more ∙ h.groups_count ∙ sym (ap length keys);
      range = subst (AreBelow rows) (sym groups) (All-set (λ group. All (λ n. n < length rows) group) old.groups place more range h.range);
    }

    kept_other : slice_get old.groups place ≡ Some group → ((k : ℕ) → Contains group k → Contains more k) → (w : MemberOf) → HasClass es rows old w → HasClass es rows new w
    kept_other at keeps w c = elim (cases_eq c.place place) [
      | inl same ↦
          let one : c.group ≡ group = same_Some c.group group (sym c.is_group ∙ ap (slice_get old.groups) same ∙ at) in
          record {
            place = c.place;
            is = ap (position (bytes_eq (key w.field_at))) keys ∙ c.is;
            first = c.first;
            is_first = ap (λ ms. slice_get ms c.place) firsts ∙ c.is_first;
            same = c.same;
            group = more;
            is_group = ap (λ gs. slice_get gs c.place) groups ∙ ap (slice_get (set old.groups place more)) same ∙ get_set_same old.groups place more group at;
            under = under_more rows w.below group more keeps (subst (IsUnder rows w.below) one c.under);
          }
      | inr apart ↦ record {
        place = c.place;
        is = ap (position (bytes_eq (key w.field_at))) keys ∙ c.is;
        first = c.first;
        is_first = ap (λ ms. slice_get ms c.place) firsts ∙ c.is_first;
        same = c.same;
        group = c.group;
        is_group = ap (λ gs. slice_get gs c.place) groups ∙ get_set_other old.groups place c.place more apart ∙ c.is_group;
        under = c.under;
      }
    ]

    pub takes_other : (first : MemberOf) → position (bytes_eq (key m.field_at)) old.keys ≡ Some place → slice_get old.firsts place ≡ Some first → SayTheSame es first.field_at m.field_at →
        slice_get old.groups place ≡ Some group → ((k : ℕ) → Contains group k → Contains more k) → IsUnder rows m.below more → Takes es rows m old new
    takes_other first is is_first same at keeps under = record {
      have = λ ms k. record {
        each = λ w c. elim (Contains-push_cases ms m w c) [
          | inl d ↦ kept_other at keeps w (k.each w d)
          | inr e ↦ subst (HasClass es rows new) e (record {
            place = place;
            is = ap (position (bytes_eq (key m.field_at))) keys ∙ is;
            first = first;
            is_first = ap (λ ms. slice_get ms place) firsts ∙ is_first;
            same = same;
            group = more;
            is_group = ap (λ gs. slice_get gs place) groups ∙ get_set_same old.groups place more group at;
            under = under;
          })
        ];
      };
    }

-- what says the same as one field says the same
same_as_one : (es : List EntryOf) (first a b : FieldAt) → SayTheSame es first a → SayTheSame es first b → SayTheSame es a b
same_as_one es first a b h k = record {
  one_name = sym h.one_name ∙ k.one_name;
  one_row = sym h.one_row ∙ k.one_row;
  one_shape = sym h.one_shape ∙ k.one_shape;
}

-- fields in classes are settled
pub settled_classes : (es : List EntryOf) (rows : List RowOf) (classes : ClassesOf) (ms : List MemberOf) → HaveClasses es rows classes ms → AreSettled es rows classes.groups ms
settled_classes es rows classes ms h = record {
  each = λ a b ca cb k.
      let p = h.each a ca in
      let q = h.each b cb in
      let place : p.place ≡ q.place = same_Some p.place q.place (sym p.is ∙ ap (λ t. position (bytes_eq t) classes.keys) k ∙ q.is) in
      let first : q.first ≡ p.first = same_Some q.first p.first (sym q.is_first ∙ ap (slice_get classes.firsts) (sym place) ∙ p.is_first) in
      let group : q.group ≡ p.group = same_Some q.group p.group (sym q.is_group ∙ ap (slice_get classes.groups) (sym place) ∙ p.is_group) in
      record {
        same = same_as_one es p.first.field_at a.field_at b.field_at p.same (subst (λ (f : MemberOf). SayTheSame es f.field_at b.field_at) first q.same);
        group = p.group;
        is_group = get_contains classes.groups p.place p.group p.is_group;
        left = p.under;
        right = subst (IsUnder rows b.below) group q.under;
      };
}

pub turned_false : (b : Bool) → not b ≡ false → b ≡ true
turned_false true e = refl
turned_false false e = absurd (cc)

-- the code's lists
pub group_at : (vs : List (Vec ℕ Global)) (i : ℕ) (v : Vec ℕ Global) → i < length vs → v ≡ get_or vs i v → slice_get (groups_view vs) i ≡ Some v.items
group_at vs i v l e = slice_get-map (λ v. v.items) vs i ∙ ap (option_map (λ v. v.items)) (slice_get_read vs (length vs) i v refl l e)

pub member_at : (ms : List Member) (i : ℕ) (m : Member) → i < length ms → m ≡ get_or ms i m → slice_get (members_view ms) i ≡ Some (member_view m)
member_at ms i m l e = slice_get-map member_view ms i ∙ ap (option_map member_view) (slice_get_read ms (length ms) i m refl l e)

pub group_in_range : (rows : List RowOf) (vs : List (Vec ℕ Global)) (i : ℕ) (v : Vec ℕ Global) → i < length vs → v ≡ get_or vs i v → AreBelow rows (groups_view vs) → All (λ n. n < length rows) v.items
group_in_range rows vs i v l e range = All-contains (λ group. All (λ n. n < length rows) group) (groups_view vs) v.items range (get_contains (groups_view vs) i v.items (group_at vs i v l e))

pub groups_set : (vs : List (Vec ℕ Global)) (i : ℕ) (v : Vec ℕ Global) → groups_view (set vs i v) ≡ set (groups_view vs) i v.items
groups_set vs i v = map-set (λ v. v.items) vs i v

pub members_more : (ms : List Member) (i : ℕ) (m : Member) → i < length ms → get_or ms i m ≡ m → members_view (take (i + 1) ms) ≡ members_view (take i ms) ++ member_view m ∷ []
members_more ms i m l e = ap members_view (take_more ms i m l ∙ ap (λ w. take i ms ++ w ∷ []) e) ∙ map-append member_view (take i ms) (m ∷ [])

-- the first place in a list where the test passes, from a list that it is made of
position_map : {A B : Type 0} (p : B → Bool) (f : A → B) (xs : List A) → position p (map f xs) ≡ position (λ x. p (f x)) xs
position_map p f xs =
    let count : length (map f xs) ≡ length xs = length-map xs f in
    let place : position_or_len p (map f xs) ≡ position_or_len (λ x. p (f x)) xs = place_map xs in
    rw (count, place) refl
  where
    place_map : (xs : List _) → position_or_len p (map f xs) ≡ position_or_len (λ x. p (f x)) xs
    place_map [] = refl
    place_map (x ∷ xs) = grind (arith, common_steps, place_map xs)

-- the class of a key, looked for among the first fields
pub position_keys : (text : Text) (classes : Classes) → position (bytes_eq text) (classes_view classes).keys ≡ position (λ (m : Member). bytes_eq text (key (field_at m.it))) classes.firsts.items
position_keys text classes =
    position_map (bytes_eq text) (λ (m : MemberOf). key m.field_at) (members_view classes.firsts.items)
    ∙ position_map (λ (m : MemberOf). bytes_eq text (key m.field_at)) member_view classes.firsts.items

-- one element more
pub firsts_push : (old new : List Member) (m : Member) → new ≡ old ++ m ∷ [] → members_view new ≡ members_view old ++ member_view m ∷ []
firsts_push old new m e = ap members_view e ∙ map-append member_view old (m ∷ [])

pub groups_push : (old new : List (Vec ℕ Global)) (v : Vec ℕ Global) → new ≡ old ++ v ∷ [] → groups_view new ≡ groups_view old ++ v.items ∷ []
groups_push old new v e = ap groups_view e ∙ map-append (λ v. v.items) old (v ∷ [])

pub keys_push : (old new : List Member) (m : Member) → new ≡ old ++ m ∷ [] →
    map (λ (m : MemberOf). key m.field_at) (members_view new) ≡ map (λ (m : MemberOf). key m.field_at) (members_view old) ++ key (field_at m.it) ∷ []
keys_push old new m e = ap (map (λ (m : MemberOf). key m.field_at)) (firsts_push old new m e) ∙ map-append (λ (m : MemberOf). key m.field_at) (members_view old) (member_view m ∷ [])

-- the table of the keys, if there is one, with a key more
pub keyed_push : (old new : Option (List Text)) (keys more : List Text) (text : Text) → new ≡ option_map (λ names. names ++ text ∷ []) old → more ≡ keys ++ text ∷ [] →
    IfSome old (λ names. names ≡ keys) → IfSome new (λ names. names ≡ more)
keyed_push None new keys more text e f h = subst (λ (o : Option (List Text)). IfSome o (λ names. names ≡ more)) (sym e) tt
keyed_push (Some names) new keys more text e f h =
    subst (λ (o : Option (List Text)). IfSome o (λ names. names ≡ more)) (sym e) (ap (λ ns. ns ++ text ∷ []) h ∙ sym f)

pub places_within : (rows : List RowOf) (classes : Classes) (text : Text) (i : ℕ) → AreClasses rows (classes_view classes) → position (bytes_eq text) (classes_view classes).keys ≡ Some i →
    (i < length classes.firsts.items) × (i < length classes.groups.items)
places_within rows classes text i h e =
    let l = place_within rows (classes_view classes) text i h e in
    (omega (arith, l.0, length-map classes.firsts.items member_view), omega (arith, l.1, length-map classes.groups.items (λ v. v.items)))
