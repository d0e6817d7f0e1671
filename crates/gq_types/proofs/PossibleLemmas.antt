-- The list of possible objects holds what the relation says, and nothing twice.
use Rattle.std.proofs.Common.{◌≡◌, ◌≢◌, ℕ, zero, suc, ◌+◌, ◌<◌, ◌≤◌, Bool, true, false, List, [], ◌∷◌, ◌++◌, length, drop, get_or, drop-cons, add-one, refl, sym, ap, ◌∙◌, subst, arith, Contains, flat_map, map, append_assoc, append-nil, ◌⊎◌, ⊎_elim, inl, inr, ◌↔◌, Option, Some, None, cond, ltb}
use Rattle.std.specs.Prelude.{nat_eq, not, filter, find, slice_get, slice_index_or, if◌then◌else◌, option_and_then, ◌&&◌}
use Rattle.std.specs.List.{list_any, AllPairs, position_or_len}
use Rattle.std.specs.Option.{option_map_or}
use Rattle.std.specs.Str.{bytes_eq}
use Rattle.std.specs.Cmp.Lexicographic.{bytes_decides}
use Rattle.std.proofs.lemmas.Bool.Decides.{Decides-eqb, Decides-ltb}
use Rattle.std.proofs.lemmas.List.{map-append}
use Rattle.std.proofs.lemmas.Grind.{flat_map-append}
use Rattle.std.proofs.lemmas.List.Elements.{Contains-append_left, Contains-append_right, Contains-append_cases, Contains-get_or, Contains-push, Contains-push_cases}
use Rattle.std.proofs.lemmas.List.Folds.{find_at}
use Rattle.std.proofs.lemmas.List.Kept.{AllPairs-filter}
use Rattle.std.proofs.lemmas.Option.{cond_some, slice_get_within}
use Rattle.gq_text.specs.declared.place.Span.{Span}
use Rattle.gq_tree.specs.Plain.{NameOf, scalar_type, object_type, interface_type, union_type, enum_type, input_type, TypeSystemOf, schema, type_definition, directive_definition}
use Rattle.gq_types.specs.declared.entry.TypeKind.{TypeKind}
use Rattle.gq_types.specs.declared.entry.TypeKind.TheVariants as kind
use Rattle.gq_types.specs.Entries.{Text, EntryOf, Numbered, numbered, numbered_from}
use Rattle.gq_types.specs.Joined.{In, is_type_named, kind_in, kind_named, type_number, members_in_body, members_of}
use Rattle.gq_types.specs.Look.{joined_numbers}
use Rattle.gq_types.specs.LookUps.{has_kind, declares_in, object_name, is_first, is_implementer, implementers, parts_of_entry}
use Rattle.gq_types.specs.Possible.{IsPossible, itself, member, declaring}
use Rattle.gq_types.specs.Helping.PossiblePlaces.{object_at, name_in, objects_at, object_after, objects_after, name_texts, member_texts, object_itself, object_members, possible_of, possible_texts}
use Rattle.gq_types.proofs.Gathered.{and_parts, and_both, not_true, not_false, nothing_in, first, later, cases_cons, only, from_flat, to_flat, from_map, to_map, from_filter, to_filter, from_any, to_any, found, tested}
use Rattle.gq_types.proofs.KindLemmas.{has_kind_decides}
use Rattle.gq_types.proofs.PartLemmas.{numbered_at, numbered_has, from_parts, to_parts}

pub objects_after-append : (es : List EntryOf) (before xs ys : List Text) → objects_after es before (xs ++ ys) ≡ objects_after es before xs ++ objects_after es (before ++ xs) ys
objects_after-append es before [] ys = rw append-nil refl
objects_after-append es before (x ∷ xs) ys =
    let e = objects_after-append es (before ++ x ∷ []) xs ys in
    let f : (before ++ x ∷ []) ++ xs ≡ before ++ (x ∷ xs) = append_assoc before (x ∷ []) xs in
    let g = append_assoc (object_after es before x) (objects_after es (before ++ x ∷ []) xs) (objects_after es (before ++ x ∷ xs) ys) in
    ap (λ zs. object_after es before x ++ zs) (e ∙ ap (λ zs. objects_after es (before ++ x ∷ []) xs ++ objects_after es zs ys) f) ∙ sym g

-- for a walk over members
pub ruleset memberwise = (objects_after-append, map-append, append-nil, append_assoc, flat_map-append)

-- one definition or extension more of a union
pub member_turn : (es : List EntryOf) (parts : List ℕ) (i : ℕ) (old new before after whole : List Text) → i < length parts →
    new ≡ old ++ objects_after es before (name_texts (parts_of_entry members_in_body es (get_or parts i 0))) →
    after ≡ before ++ name_texts (parts_of_entry members_in_body es (get_or parts i 0)) →
    old ++ objects_after es before (member_texts es (drop i parts)) ≡ whole →
    new ++ objects_after es after (member_texts es (drop (i + 1) parts)) ≡ whole
member_turn es parts i old new before after whole lt n a w =
    let here = name_texts (parts_of_entry members_in_body es (get_or parts i 0)) in
    let rest = member_texts es (drop (i + 1) parts) in
    let cut : drop i parts ≡ get_or parts i 0 ∷ drop (i + 1) parts = rw add-one (drop-cons parts i 0 lt) in
    let whole_is : old ++ objects_after es before (here ++ rest) ≡ whole = subst (λ ks. old ++ objects_after es before (member_texts es ks) ≡ whole) cut w in
    let both = objects_after-append es before here rest in
    let moved = append_assoc old (objects_after es before here) (objects_after es (before ++ here) rest) in
    ap (λ xs. xs ++ objects_after es after rest) n ∙ ap (λ ys. (old ++ objects_after es before here) ++ objects_after es ys rest) a ∙ moved ∙ ap (λ zs. old ++ zs) (sym both) ∙ whole_is

-- pairs of a list
module _ {X : Type 0} (R : X → X → Type 0) where
  pairs_none : (i j : ℕ) (d : X) → i < j → j < length {A = X} [] → R (slice_index_or [] i d) (slice_index_or [] j d)
  pairs_none i j d lt l = absurd (omega (arith, l))

  pairs_cons : (x : X) (xs : List X) → ((y : X) → Contains xs y → R x y) → AllPairs R xs → (i j : ℕ) (d : X) → i < j → j < length (x ∷ xs) → R (slice_index_or (x ∷ xs) i d) (slice_index_or (x ∷ xs) j d)
  pairs_cons x xs h p zero zero d lt l = absurd (omega (arith, lt))
  pairs_cons x xs h p zero (suc j) d lt l = h (get_or xs j d) (Contains-get_or xs j d (omega (arith, l)))
  pairs_cons x xs h p (suc i) zero d lt l = absurd (omega (arith, lt))
  pairs_cons x xs h p (suc i) (suc j) d lt l = p i j d (omega (arith, lt)) (omega (arith, l))

  pairs_head : (x : X) (xs : List X) → AllPairs R (x ∷ xs) → (y : X) → Contains xs y → R x y
  pairs_head x xs p y c = subst (λ z. R x z) c.2 (p 0 (suc c.0) y (omega arith) (omega (arith, c.1)))

  pairs_tail : (x : X) (xs : List X) → AllPairs R (x ∷ xs) → AllPairs R xs
  pairs_tail x xs p = λ i j d lt l. p (suc i) (suc j) d (omega (arith, lt)) (omega (arith, l))

-- a name among others
is_among : (t : Text) (ts : List Text) → list_any (bytes_eq t) ts ≡ true → Contains ts t
is_among t ts h = let x = from_any (bytes_eq t) ts h in subst (λ s. Contains ts s) (sym ((bytes_decides t x.0).0 x.2)) x.1

among : (t : Text) (ts : List Text) → Contains ts t → list_any (bytes_eq t) ts ≡ true
among t ts c = to_any (bytes_eq t) ts t c ((bytes_decides t t).1 refl)

not_among : (t : Text) (ts : List Text) → (Contains ts t → ⊥) → list_any (bytes_eq t) ts ≡ false
not_among t ts n = by_test (list_any (bytes_eq t) ts) refl
  where
    by_test : (b : Bool) → list_any (bytes_eq t) ts ≡ b → list_any (bytes_eq t) ts ≡ false
    by_test true e = absurd (n (is_among t ts e))
    by_test false e = e

-- objects behind others
module _ (es : List EntryOf) where
  abbrev tests : List Text → Text → Bool
  tests before x = not (list_any (bytes_eq x) before) && has_kind es kind.Object x

  one_from : (before : List Text) (x t : Text) (b : Bool) → tests before x ≡ b → Contains (if b then x ∷ [] else []) t → (t ≡ x) × (tests before x ≡ true)
  one_from before x t true e c = (only x t c, e)
  one_from before x t false e c = nothing_in t c

  after_from : (before texts : List Text) (t : Text) → Contains (objects_after es before texts) t → Contains texts t × (Contains before t → ⊥) × (kind_named es t ≡ Some kind.Object)
  after_from before [] t c = nothing_in t c
  after_from before (x ∷ xs) t c = ⊎_elim
      (λ a.
      let one = one_from before x t (tests before x) refl a in
      let parts = and_parts (not (list_any (bytes_eq x) before)) (has_kind es kind.Object x) one.1 in (
        first x t xs (sym one.0),
        λ d.
            let yes = among x before (subst (λ s. Contains before s) one.0 d) in
            let refused = not_true (list_any (bytes_eq x) before) parts.0 in
            cc,
        subst (λ s. kind_named es s ≡ Some kind.Object) (sym one.0) ((has_kind_decides es kind.Object x).0 parts.1),
      ))
      (λ b. let r = after_from (before ++ x ∷ []) xs t b in (later x t xs r.0, λ d. r.1 (Contains-append_left before (x ∷ []) t d), r.2))
      (Contains-append_cases (object_after es before x) (objects_after es (before ++ x ∷ []) xs) t c)

  after_to : (before texts : List Text) (t : Text) → Contains texts t → (Contains before t → ⊥) → kind_named es t ≡ Some kind.Object → Contains (objects_after es before texts) t
  after_to before [] t c n k = nothing_in t c
  after_to before (x ∷ xs) t c n k = by_test (bytes_eq x t) refl (λ d m. after_to (before ++ x ∷ []) xs t d m k)
    where
      by_test : (b : Bool) → bytes_eq x t ≡ b → (Contains xs t → (Contains (before ++ x ∷ []) t → ⊥) → Contains (objects_after es (before ++ x ∷ []) xs) t) → Contains (objects_after es before (x ∷ xs)) t
      by_test true e rest =
          let same = (bytes_decides x t).0 e in
          let passes : tests before x ≡ true = subst (λ s. tests before s ≡ true) (sym same)
          (and_both (not (list_any (bytes_eq t) before)) (has_kind es kind.Object t) (not_false (list_any (bytes_eq t) before) (not_among t before n)) ((has_kind_decides es kind.Object t).1 k)) in
          Contains-append_left (object_after es before x) (objects_after es (before ++ x ∷ []) xs) t
          (subst (λ b. Contains (if b then x ∷ [] else []) t) (sym passes) (first x t [] same))
      by_test false e rest =
          let apart : x ≡ t → ⊥ = λ same. let yes = (bytes_decides x t).1 same in cc in
          Contains-append_right (object_after es before x) (objects_after es (before ++ x ∷ []) xs) t
          (rest (⊎_elim (λ same. absurd (apart same)) (λ d. d) (cases_cons x t xs c)) (λ d. ⊎_elim n apart (Contains-push_cases before x t d)))

  once_one : (before : List Text) (x : Text) (xs : List Text) → AllPairs (λ a b. a ≢ b) (objects_after es (before ++ x ∷ []) xs) → (b : Bool) → AllPairs (λ a b. a ≢ b) ((if b then x ∷ [] else []) ++ objects_after es (before ++ x ∷ []) xs)
  once_one before x xs rest true = pairs_cons (λ a b. a ≢ b) x (objects_after es (before ++ x ∷ []) xs)
      (λ y c same. (after_from (before ++ x ∷ []) xs y c).1 (subst (λ s. Contains (before ++ x ∷ []) s) same (Contains-push before x))) rest
  once_one before x xs rest false = rest

  after_once : (before texts : List Text) → AllPairs (λ a b. a ≢ b) (objects_after es before texts)
  after_once before [] = pairs_none (λ a b. a ≢ b)
  after_once before (x ∷ xs) = once_one before x xs (after_once (before ++ x ∷ []) xs) (tests before x)

-- the first definition of an object type
chained : {A B : Type 0} (f : A → Option B) (o : Option A) (y : B) → option_and_then f o ≡ Some y → (x : A) × (o ≡ Some x) × (f x ≡ Some y)
chained f None y h = absurd (cc)
chained f (Some x) y h = (x, refl, h)

named_object : (text : Text) (d : TypeSystemOf Span) → is_type_named text d ≡ true → kind_in d ≡ Some kind.Object → object_name d ≡ Some text
named_object text (schema extends description directives roots place) h k = absurd (cc)
named_object text (type_definition true description name directives body place) h k = absurd (cc)
named_object text (type_definition false description name directives scalar_type place) h k = absurd (cc)
named_object text (type_definition false description name directives (object_type interfaces fields) place) h k = ap Some (sym ((bytes_decides text name.text).0 h))
named_object text (type_definition false description name directives (interface_type interfaces fields) place) h k = absurd (cc)
named_object text (type_definition false description name directives (union_type members) place) h k = absurd (cc)
named_object text (type_definition false description name directives (enum_type values) place) h k = absurd (cc)
named_object text (type_definition false description name directives (input_type fields) place) h k = absurd (cc)
named_object text (directive_definition description name arguments repeatable locations place) h k = absurd (cc)

object_kind : (text : Text) (d : TypeSystemOf Span) → object_name d ≡ Some text → kind_in d ≡ Some kind.Object
object_kind text (schema extends description directives roots place) h = absurd (cc)
object_kind text (type_definition true description name directives body place) h = absurd (cc)
object_kind text (type_definition false description name directives scalar_type place) h = absurd (cc)
object_kind text (type_definition false description name directives (object_type interfaces fields) place) h = refl
object_kind text (type_definition false description name directives (interface_type interfaces fields) place) h = absurd (cc)
object_kind text (type_definition false description name directives (union_type members) place) h = absurd (cc)
object_kind text (type_definition false description name directives (enum_type values) place) h = absurd (cc)
object_kind text (type_definition false description name directives (input_type fields) place) h = absurd (cc)
object_kind text (directive_definition description name arguments repeatable locations place) h = absurd (cc)

module _ (es : List EntryOf) where
  abbrev is_named : Text → EntryOf → Bool
  is_named text e = is_type_named text e.definition

  found_there : (text : Text) (k : ℕ) (e : EntryOf) → type_number es text ≡ Some k → slice_get es k ≡ Some e → find (is_named text) es ≡ Some e
  found_there text k e t s =
      let at = (cond_some (ltb (position_or_len (is_named text) es) (length es)) (position_or_len (is_named text) es) k t).1 in
      find_at (is_named text) es ∙ ap (slice_get es) at ∙ s

  object_known : (text : Text) (k : ℕ) → type_number es text ≡ Some k → object_at es k ≡ Some text → kind_named es text ≡ Some kind.Object
  object_known text k t o =
      let e = chained (λ (e : EntryOf). object_name e.definition) (slice_get es k) text o in
      ap (option_and_then (λ (e : EntryOf). kind_in e.definition)) (found_there text k e.0 t e.1) ∙ object_kind text e.0.definition e.2

  object_defined : (text : Text) → kind_named es text ≡ Some kind.Object → (k : ℕ) × (type_number es text ≡ Some k) × (object_at es k ≡ Some text)
  object_defined text h =
      let e = chained (λ (e : EntryOf). kind_in e.definition) (find (is_named text) es) kind.Object h in
      let k = position_or_len (is_named text) es in
      let there : slice_get es k ≡ Some e.0 = sym (find_at (is_named text) es) ∙ e.1 in
      let inside : ltb k (length es) ≡ true = (Decides-ltb k (length es)).1 (slice_get_within es k e.0 there) in
      let named = found (is_named text) es e.0 e.1 in
      (k, ap (λ b. cond b (Some k) None) inside, ap (option_and_then (λ (e : EntryOf). object_name e.definition)) there ∙ named_object text e.0.definition named.1 e.2)

  -- objects by their numbers
  name_from : (o : Option Text) (t : Text) → Contains (name_in o) t → o ≡ Some t
  name_from None t c = nothing_in t c
  name_from (Some s) t c = ap Some (sym (only s t c))

  objects_from : (ks : List ℕ) (t : Text) → Contains (objects_at es ks) t → (k : ℕ) × Contains ks k × (object_at es k ≡ Some t)
  objects_from ks t c =
      let k = from_flat (λ n. name_in (object_at es n)) ks t c in
      (k.0, k.1, name_from (object_at es k.0) t k.2)

  objects_to : (ks : List ℕ) (k : ℕ) (t : Text) → Contains ks k → object_at es k ≡ Some t → Contains (objects_at es ks) t
  objects_to ks k t c e = to_flat (λ n. name_in (object_at es n)) ks k t c (subst (λ o. Contains (name_in o) t) (sym e) (first t t [] refl))

  first_is : (t : Text) (k : ℕ) → is_first es t k ≡ true → type_number es t ≡ Some k
  first_is t k h = let n = tested (nat_eq k) (type_number es t) h in n.1 ∙ ap Some (sym ((Decides-eqb k n.0).0 n.2))

  implementer_parts : (interface : Text) (n : Numbered) → Contains (filter (is_implementer es interface) (numbered es)) n → (t : Text) → object_at es n.number ≡ Some t → (type_number es t ≡ Some n.number) × (declares_in es n.number interface ≡ true)
  implementer_parts interface n c t o =
      let kept = from_filter (is_implementer es interface) (numbered es) n c in
      let there = numbered_at es n kept.0 in
      let text = tested (λ text. is_first es text n.number && declares_in es n.number interface) (object_name n.entry.definition) kept.1 in
      let named : object_at es n.number ≡ Some text.0 = ap (option_and_then (λ (e : EntryOf). object_name e.definition)) there ∙ text.1 in
      let same : text.0 ≡ t = cc in
      let parts = and_parts (is_first es text.0 n.number) (declares_in es n.number interface) text.2 in
      (first_is t n.number (subst (λ s. is_first es s n.number ≡ true) same parts.0), parts.1)

  implementer_from : (interface : Text) (k : ℕ) (t : Text) → Contains (implementers es interface) k → object_at es k ≡ Some t → (type_number es t ≡ Some k) × (declares_in es k interface ≡ true)
  implementer_from interface k t c o =
      let n = from_map (λ (n : Numbered). n.number) (filter (is_implementer es interface) (numbered es)) k c in
      subst (λ j. (type_number es t ≡ Some j) × (declares_in es j interface ≡ true)) n.2 (implementer_parts interface n.0 n.1 t (subst (λ j. object_at es j ≡ Some t) (sym n.2) o))

  implementer_to : (interface : Text) (k : ℕ) (t : Text) → type_number es t ≡ Some k → object_at es k ≡ Some t → declares_in es k interface ≡ true → Contains (implementers es interface) k
  implementer_to interface k t n o d =
      let e = chained (λ (e : EntryOf). object_name e.definition) (slice_get es k) t o in
      let one : Numbered = record { number = k; entry = e.0 } in
      let is_the_first : is_first es t k ≡ true = subst (λ o. option_map_or (nat_eq k) o false ≡ true) (sym n) ((Decides-eqb k k).1 refl) in
      let passes : is_implementer es interface one ≡ true =
      subst (λ o. option_map_or (λ text. is_first es text k && declares_in es k interface) o false ≡ true) (sym e.2) (and_both (is_first es t k) (declares_in es k interface) is_the_first d) in
      to_map (λ (n : Numbered). n.number) (filter (is_implementer es interface) (numbered es)) one (to_filter (is_implementer es interface) (numbered es) one (numbered_has es k e.0 e.1) passes)

  -- each name once
  objects_once : (ns : List Numbered) → AllPairs (λ a b. a.number ≢ b.number) ns → ((n : Numbered) → Contains ns n → (t : Text) → object_at es n.number ≡ Some t → type_number es t ≡ Some n.number) →
      AllPairs (λ a b. a ≢ b) (objects_at es (map (λ n. n.number) ns))
  objects_once [] p h = pairs_none (λ a b. a ≢ b)
  objects_once (n ∷ ns) p h =
      by_name (object_at es n.number) refl (objects_once ns (pairs_tail (λ (a b : Numbered). a.number ≢ b.number) n ns p) (λ m c. h m (later n m ns c)))
    where
      by_name : (o : Option Text) → object_at es n.number ≡ o → AllPairs (λ a b. a ≢ b) (objects_at es (map (λ n. n.number) ns)) → AllPairs (λ a b. a ≢ b) (name_in o ++ objects_at es (map (λ n. n.number) ns))
      by_name None e rest = rest
      by_name (Some t) e rest = pairs_cons (λ a b. a ≢ b) t (objects_at es (map (λ n. n.number) ns))
          (λ y c same.
          let k = objects_from (map (λ n. n.number) ns) y c in
          let m = from_map (λ (n : Numbered). n.number) ns k.0 k.1 in
          let mine = h n (first n n ns refl) t e in
          let other = h m.0 (later n m.0 ns m.1) y (ap (object_at es) m.2 ∙ k.2) in
          let both : type_number es t ≡ Some m.0.number = ap (type_number es) same ∙ other in
          let alike : n.number ≡ m.0.number = cc in
          pairs_head (λ (a b : Numbered). a.number ≢ b.number) n ns p m.0 m.1 alike)
          rest

numbers_least : (k : ℕ) (es : List EntryOf) (n : Numbered) → Contains (numbered_from k es) n → k ≤ n.number
numbers_least k [] n c = nothing_in n c
numbers_least k (e ∷ es) n c = ⊎_elim
    (λ same. let alike : k ≡ n.number = ap (λ (m : Numbered). m.number) same in omega (arith, alike))
    (λ d. let more = numbers_least (k + 1) es n d in omega (arith, more))
    (cases_cons (record { number = k; entry = e }) n (numbered_from (k + 1) es) c)

numbers_once : (k : ℕ) (es : List EntryOf) → AllPairs (λ a b. a.number ≢ b.number) (numbered_from k es)
numbers_once k [] = pairs_none (λ (a b : Numbered). a.number ≢ b.number)
numbers_once k (e ∷ es) = pairs_cons (λ (a b : Numbered). a.number ≢ b.number) (record { number = k; entry = e }) (numbered_from (k + 1) es)
    (λ n c same. let more = numbers_least (k + 1) es n c in absurd (omega (arith, more, same))) (numbers_once (k + 1) es)

-- members of a union
module _ (es : List EntryOf) (number : ℕ) (t : Text) where
  members_from : Contains (member_texts es (joined_numbers es number)) t → list_any (λ m. bytes_eq t m.it.text) (members_of es number) ≡ true
  members_from c =
      let k = from_flat (λ n. name_texts (parts_of_entry members_in_body es n)) (joined_numbers es number) t c in
      let x = from_map (λ (n : NameOf Span). n.text) (parts_of_entry members_in_body es k.0) t k.2 in
      let p = to_parts members_in_body es number k.0 x.0 k.1 x.1 in
      let same : t ≡ p.0.it.text = sym (ap (λ (n : NameOf Span). n.text) p.2 ∙ x.2) in
      to_any (λ (m : In (NameOf Span)). bytes_eq t m.it.text) (members_of es number) p.0 p.1 ((bytes_decides t p.0.it.text).1 same)

  members_to : list_any (λ m. bytes_eq t m.it.text) (members_of es number) ≡ true → Contains (member_texts es (joined_numbers es number)) t
  members_to h =
      let p = from_any (λ (m : In (NameOf Span)). bytes_eq t m.it.text) (members_of es number) h in
      let k = from_parts members_in_body es number p.0 p.1 in
      let same = (bytes_decides t p.0.it.text).0 p.2 in
      to_flat (λ n. name_texts (parts_of_entry members_in_body es n)) (joined_numbers es number) k.0 t k.1
      (subst (λ s. Contains (name_texts (parts_of_entry members_in_body es k.0)) s) (sym same) (to_map (λ (n : NameOf Span). n.text) (parts_of_entry members_in_body es k.0) p.0.it k.2))

-- possible objects
module _ (es : List EntryOf) (text object : Text) where
  from_itself : kind_named es text ≡ Some kind.Object → Contains (object_itself es (type_number es text)) object → IsPossible es text object
  from_itself k c =
      let d = object_defined es text k in
      let n = objects_from es (d.0 ∷ []) object (subst (λ o. Contains (object_itself es o) object) d.1 c) in
      let here : n.0 ≡ d.0 = only d.0 n.0 n.1 in
      let named : object_at es n.0 ≡ Some text = ap (object_at es) here ∙ d.2 in
      let same : text ≡ object = let e = n.2 in cc in
      subst (λ t. IsPossible es text t) same (itself k)

  from_members : kind_named es text ≡ Some kind.Union → (o : Option ℕ) → type_number es text ≡ o → Contains (object_members es o) object → IsPossible es text object
  from_members k None e c = nothing_in object c
  from_members k (Some number) e c =
      let a = after_from es [] (member_texts es (joined_numbers es number)) object c in
      member k (subst (λ o. option_map_or (λ n. list_any (λ m. bytes_eq object m.it.text) (members_of es n)) o false ≡ true) (sym e) (members_from es number object a.0)) a.2

  from_declaring : kind_named es text ≡ Some kind.Interface → Contains (objects_at es (implementers es text)) object → IsPossible es text object
  from_declaring k c =
      let n = objects_from es (implementers es text) object c in
      let parts = implementer_from es text n.0 object n.1 n.2 in
      declaring k (subst (λ o. option_map_or (λ n. declares_in es n text) o false ≡ true) (sym parts.0) parts.1) (object_known es object n.0 parts.0 n.2)

  from_possible_of : (o : Option TypeKind) → kind_named es text ≡ o → Contains (possible_of es text o) object → IsPossible es text object
  from_possible_of (Some kind.Object) e c = from_itself e c
  from_possible_of (Some kind.Union) e c = from_members e (type_number es text) refl c
  from_possible_of (Some kind.Interface) e c = from_declaring e c
  from_possible_of (Some kind.Scalar) e c = nothing_in object c
  from_possible_of (Some kind.Enum) e c = nothing_in object c
  from_possible_of (Some kind.InputObject) e c = nothing_in object c
  from_possible_of None e c = nothing_in object c

to_possible_texts : (es : List EntryOf) {text object : Text} → IsPossible es text object → Contains (possible_texts es text) object
to_possible_texts es (itself {object = object} k) =
    let d = object_defined es object k in
    subst (λ o. Contains (possible_of es object o) object) (sym k)
    (subst (λ o. Contains (object_itself es o) object) (sym d.1) (objects_to es (d.0 ∷ []) d.0 object (first d.0 d.0 [] refl) d.2))
to_possible_texts es (member {union = union} {object = object} u h k) =
    let n = tested (λ n. list_any (λ m. bytes_eq object m.it.text) (members_of es n)) (type_number es union) h in
    subst (λ o. Contains (possible_of es union o) object) (sym u)
    (subst (λ o. Contains (object_members es o) object) (sym n.1) (after_to es [] (member_texts es (joined_numbers es n.0)) object (members_to es n.0 object n.2) (λ c. nothing_in object c) k))
to_possible_texts es (declaring {interface = text} {object = object} i h k) =
    let d = object_defined es object k in
    let declared : declares_in es d.0 text ≡ true = subst (λ o. option_map_or (λ n. declares_in es n text) o false ≡ true) d.1 h in
    subst (λ o. Contains (possible_of es text o) object) (sym i) (objects_to es (implementers es text) d.0 object (implementer_to es text d.0 object d.1 d.2 declared) d.2)

pub possible_texts_are : (es : List EntryOf) (text object : Text) → Contains (possible_texts es text) object ↔ IsPossible es text object
possible_texts_are es text object = (from_possible_of es text object (kind_named es text) refl, to_possible_texts es)

members_once : (es : List EntryOf) (o : Option ℕ) → AllPairs (λ a b. a ≢ b) (object_members es o)
members_once es None = pairs_none (λ a b. a ≢ b)
members_once es (Some number) = after_once es [] (member_texts es (joined_numbers es number))

one_name : (o : Option Text) → AllPairs (λ a b. a ≢ b) (name_in o ++ [])
one_name None = pairs_none (λ a b. a ≢ b)
one_name (Some t) = pairs_cons (λ a b. a ≢ b) t [] (λ y c. nothing_in y c) (pairs_none (λ a b. a ≢ b))

itself_once : (es : List EntryOf) (o : Option ℕ) → AllPairs (λ a b. a ≢ b) (object_itself es o)
itself_once es None = pairs_none (λ a b. a ≢ b)
itself_once es (Some number) = one_name (object_at es number)

possible_of_once : (es : List EntryOf) (text : Text) (o : Option TypeKind) → AllPairs (λ a b. a ≢ b) (possible_of es text o)
possible_of_once es text (Some kind.Object) = itself_once es (type_number es text)
possible_of_once es text (Some kind.Union) = members_once es (type_number es text)
possible_of_once es text (Some kind.Interface) =
    objects_once es (filter (is_implementer es text) (numbered es)) (AllPairs-filter (λ (a b : Numbered). a.number ≢ b.number) (is_implementer es text) (numbered es) (numbers_once 0 es))
    (λ n c t o. (implementer_parts es text n c t o).0)
possible_of_once es text (Some kind.Scalar) = pairs_none (λ a b. a ≢ b)
possible_of_once es text (Some kind.Enum) = pairs_none (λ a b. a ≢ b)
possible_of_once es text (Some kind.InputObject) = pairs_none (λ a b. a ≢ b)
possible_of_once es text None = pairs_none (λ a b. a ≢ b)

pub possible_texts_once : (es : List EntryOf) (text : Text) → AllPairs (λ a b. a ≢ b) (possible_texts es text)
possible_texts_once es text = possible_of_once es text (kind_named es text)
