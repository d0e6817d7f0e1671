-- Types that have a possible object type in common.
use Rattle.std.proofs.Common.{◌≡◌, ◌↔◌, ℕ, Bool, true, false, nat_eq, List, [], Some, None, cond, get_or, Contains, refl, sym, ◌∙◌, ap, subst, eqb-true}
use Rattle.std.specs.Bool.{Decides}
use Rattle.std.specs.HashMap.{HashMap, get, IsUnchanged}
use Rattle.std.specs.List.{list_any}
use Rattle.std.specs.Map.{lookup}
use Rattle.std.specs.Cmp.Lexicographic.{bytes_decides}
use Rattle.std.proofs.lemmas.List.Quantifiers.{position-Some}
use Rattle.std.proofs.lemmas.Option.{same_Some}
use Rattle.gq_text.specs.declared.place.Span.{Span}
use Rattle.gq_tree.specs.Plain.{TypeSystemOf, schema, type_definition, directive_definition}
use Rattle.gq_types.specs.declared.entry.TypeKind.TheVariants as kind
use Rattle.gq_types.specs.Entries.{Text, EntryOf}
use Rattle.gq_types.specs.Joined.{kind_named, type_number, is_type_named}
use Rattle.gq_types.specs.LookUps.{has_kind}
use Rattle.gq_types.specs.Possible.{IsPossible, itself, member, declaring}
use Rattle.gq_types.specs.Helping.PossiblePlaces.{possible_texts}
use Rattle.gq_types.specs.SubtypesTests.{is_possible}
use Rattle.gq_types.proofs.Gathered.{and_parts, from_any, to_any}
use Rattle.gq_types.proofs.KindLemmas.{has_kind_decides}
use Rattle.gq_types.proofs.PossibleLemmas.{possible_texts_are}
use Rattle.gq_types.proofs.SubtypeLemmas.{possible_decides}
use Rattle.gq_fragments.specs.Helping.FragmentPlaces.{share_object}
use Rattle.gq_fragments.specs.Helping.SharedObjectsPlaces.{same_pair, IsAnswer, AreAnswers}

-- an object type is possible for both
abbrev pub Share : List EntryOf → (one other : Text) → Type 0
Share es one other = (object : Text) × IsPossible es one object × IsPossible es other object

turned : (es : List EntryOf) (one other : Text) → Share es one other → Share es other one
turned es one other s = (s.0, s.2, s.1)

-- two tests of one statement agree
pub same_answer : (P : Type 0) (a b : Bool) → Decides a P → Decides b P → a ≡ b
same_answer P true true d e = refl
same_answer P true false d e = absurd (let h = e.1 (d.0 refl) in cc)
same_answer P false true d e = absurd (let h = d.1 (e.0 refl) in cc)
same_answer P false false d e = refl

-- the test of one type's possible objects
any_decides : (es : List EntryOf) (one other : Text) (objects : List Text) → ((object : Text) → Contains objects object ↔ IsPossible es one object) →
    Decides (list_any (is_possible es other) objects) (Share es one other)
any_decides es one other objects all = (
  λ h. let r = from_any (is_possible es other) objects h in (r.0, (all r.0).0 r.1, (possible_decides es other r.0).0 r.2),
  λ s. to_any (is_possible es other) objects s.0 ((all s.0).1 s.1) ((possible_decides es other s.0).1 s.2),
)

pub share_decides : (es : List EntryOf) (one other : Text) → Decides (share_object es one other) (Share es one other)
share_decides es one other = any_decides es one other (possible_texts es one) (λ object. possible_texts_are es one object)

-- by the possible objects of the first, and of the second
pub by_first : (es : List EntryOf) (one other : Text) (objects : List Text) → ((object : Text) → Contains objects object ↔ IsPossible es one object) →
    list_any (is_possible es other) objects ≡ share_object es one other
by_first es one other objects all =
    same_answer (Share es one other) (list_any (is_possible es other) objects) (share_object es one other) (any_decides es one other objects all) (share_decides es one other)

pub by_second : (es : List EntryOf) (one other : Text) (objects : List Text) → ((object : Text) → Contains objects object ↔ IsPossible es other object) →
    list_any (is_possible es one) objects ≡ share_object es one other
by_second es one other objects all =
    let d = any_decides es other one objects all in
    same_answer (Share es one other) (list_any (is_possible es one) objects) (share_object es one other) (λ h. turned es other one (d.0 h), λ s. d.1 (turned es one other s)) (share_decides es one other)

-- an object type has no object type but itself
object_only : (es : List EntryOf) (one object : Text) → kind_named es one ≡ Some kind.Object → IsPossible es one object → one ≡ object
object_only es one object k (itself e) = refl
object_only es one object k (member e h f) = absurd (let c = sym k ∙ e in cc)
object_only es one object k (declaring e h f) = absurd (let c = sym k ∙ e in cc)

pub by_object : (es : List EntryOf) (one other : Text) (b : Bool) → has_kind es kind.Object one ≡ true → Decides b (IsPossible es other one) → b ≡ share_object es one other
by_object es one other b is_object d =
    let k = (has_kind_decides es kind.Object one).0 is_object in
    same_answer (Share es one other) b (share_object es one other)
    (λ h. (one, itself k, d.0 h), λ s. d.1 (subst (λ t. IsPossible es other t) (sym (object_only es one s.0 k s.1)) s.2))
    (share_decides es one other)

pub by_other_object : (es : List EntryOf) (one other : Text) (b : Bool) → has_kind es kind.Object other ≡ true → Decides b (IsPossible es one other) → b ≡ share_object es one other
by_other_object es one other b is_object d =
    let k = (has_kind_decides es kind.Object other).0 is_object in
    same_answer (Share es one other) b (share_object es one other)
    (λ h. (other, d.0 h, itself k), λ s. d.1 (subst (λ t. IsPossible es one t) (sym (object_only es other s.0 k s.2)) s.1))
    (share_decides es one other)

-- names of one number are one name
named_alike : (a b : Text) (d : TypeSystemOf Span) → is_type_named a d ≡ true → is_type_named b d ≡ true → a ≡ b
named_alike a b (schema extends description directives roots place) h k = absurd (cc)
named_alike a b (type_definition true description name directives body place) h k = absurd (cc)
named_alike a b (type_definition false description name directives body place) h k = (bytes_decides a name.text).0 h ∙ sym ((bytes_decides b name.text).0 k)
named_alike a b (directive_definition description name arguments repeatable locations place) h k = absurd (cc)

pub same_name : (es : List EntryOf) (a b : Text) (number : ℕ) → type_number es a ≡ Some number → type_number es b ≡ Some number → a ≡ b
same_name es a b number h k =
    let at_a = position-Some (λ e. is_type_named a e.definition) es number nothing h in
    let at_b = position-Some (λ e. is_type_named b e.definition) es number nothing k in
    named_alike a b (get_or es number nothing).definition at_a.1 at_b.1
  where
    nothing : EntryOf
    nothing = record { file = 0; definition = schema true None [] [] (record { start = 0; end = 0 }) }

-- what is kept
same_numbers : (a b : ℕ × ℕ) → same_pair a b ≡ true → a ≡ b
same_numbers a b h =
    let both = and_parts (nat_eq a.0 b.0) (nat_eq a.1 b.1) h in
    let first = eqb-true a.0 b.0 both.0 in
    let second = eqb-true a.1 b.1 both.1 in
    λ i. (first i, second i)

pub is_answer : (es : List EntryOf) (one other : Text) (numbers : ℕ × ℕ) (answer : Bool) → type_number es one ≡ Some numbers.0 → type_number es other ≡ Some numbers.1 →
    answer ≡ share_object es one other → IsAnswer es numbers answer
is_answer es one other numbers answer first second is = λ a b h k.
    let same = same_name es one a numbers.0 first h in
    let alike = same_name es other b numbers.1 second k in
    is ∙ (λ i. share_object es (same i) (alike i))

pub kept_after : {S : Type 0} (es : List EntryOf) (old new : HashMap (ℕ × ℕ) Bool S) (numbers : ℕ × ℕ) (answer : Bool) → AreAnswers es old → IsAnswer es numbers answer →
    ((q : ℕ × ℕ) → get same_pair new q ≡ cond (same_pair numbers q) (Some answer) (get same_pair old q)) → AreAnswers es new
kept_after es old new numbers answer right is updates q found at = by_same (same_pair numbers q) refl (sym (updates q) ∙ at)
  where
    by_same : (b : Bool) → same_pair numbers q ≡ b → cond b (Some answer) (get same_pair old q) ≡ Some found → IsAnswer es q found
    by_same true same told =
        let told_is : answer ≡ found = same_Some answer found told in
        subst (λ n. IsAnswer es n found) (same_numbers numbers q same) (subst (λ a. IsAnswer es numbers a) told_is is)
    by_same false same told = right q found told

pub kept_unchanged : {S : Type 0} (es : List EntryOf) (old new : HashMap (ℕ × ℕ) Bool S) → AreAnswers es old → IsUnchanged old new → AreAnswers es new
kept_unchanged es old new right same q found at = right q found (ap (λ entries. lookup (same_pair q) entries) (sym same) ∙ at)
