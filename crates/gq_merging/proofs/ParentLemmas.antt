-- Fields by the types of their parents: which stand together, and one field more.
use Rattle.std.proofs.Common.{◌≡◌, ◌↔◌, ◌⊎◌, ℕ, ◌<◌, Bool, true, false, not, ◌&&◌, ◌||◌, List, [], ◌∷◌, ◌++◌, Option, Some, None, is_some, Contains, length, refl, sym, ◌∙◌, ap, subst, inl, inr}
use Rattle.std.specs.Option.{option_map_or}
use Rattle.std.specs.Str.{bytes_eq}
use Rattle.std.specs.Cmp.Lexicographic.{bytes_decides}
use Rattle.std.proofs.lemmas.List.Elements.{Contains-push, Contains-push_cases, Contains-append_left, Contains-append_right, Contains-append_cases}
use Rattle.gq_names.proofs.RepeatLemmas.{contains_none}
use Rattle.gq_types.specs.Entries.{Text, EntryOf}
use Rattle.gq_types.specs.Joined.{kind_named}
use Rattle.gq_types.specs.LookUps.{has_kind}
use Rattle.gq_types.specs.declared.entry.TypeKind.TheVariants as kind
use Rattle.gq_types.proofs.Gathered.{tested}
use Rattle.gq_merging.specs.FieldsMerge.{can_coincide}
use Rattle.gq_merging.specs.Helping.NameTables.{ByNameOf, list_at, AreListed}
use Rattle.gq_merging.specs.Helping.ParentTables.{parent_text, is_of_object, is_of_other, AreByParent}
use Rattle.gq_merging.specs.Helping.SetTables.{MemberOf}
use Rattle.gq_merging.proofs.NameLemmas.{listed_at, listed_somewhere}

-- the fields that pass a test, one more looked at
module _ (test : MemberOf → Bool) (some ms : List MemberOf) (m : MemberOf) (are : (w : MemberOf) → Contains some w ↔ (Contains ms w × (test w ≡ true))) where
  passed_more : test m ≡ true → (w : MemberOf) → Contains (some ++ m ∷ []) w ↔ (Contains (ms ++ m ∷ []) w × (test w ≡ true))
  passed_more passes w = (
    (λ c. elim (Contains-push_cases some m w c) [
      | inl d ↦ let h = (are w).0 d in (Contains-append_left ms (m ∷ []) w h.0, h.1)
      | inr e ↦ (subst (Contains (ms ++ m ∷ [])) e (Contains-push ms m), ap test (sym e) ∙ passes)
    ]),
    (λ h. elim (Contains-push_cases ms m w h.0) [
      | inl d ↦ Contains-append_left some (m ∷ []) w ((are w).1 (d, h.1))
      | inr e ↦ subst (Contains (some ++ m ∷ [])) e (Contains-push some m)
    ]),
  )

  failed_more : test m ≡ false → (w : MemberOf) → Contains some w ↔ (Contains (ms ++ m ∷ []) w × (test w ≡ true))
  failed_more fails w = (
    (λ c. let h = (are w).0 c in (Contains-append_left ms (m ∷ []) w h.0, h.1)),
    (λ h. elim (Contains-push_cases ms m w h.0) [
      | inl d ↦ (are w).1 (d, h.1)
      | inr e ↦ let passes : test m ≡ true = ap test e ∙ h.1 in absurd (cc)
    ]),
  )

-- the name of the type of a parent that is known
pub text_is : (m : MemberOf) (parent : Text) → m.field_at.parent ≡ Some parent → parent_text m ≡ parent
text_is m parent e = ap (λ o. option_map_or (λ t. t) o []) e

-- before any field
pub none_by_parent : (es : List EntryOf) (t : ByNameOf) → AreListed parent_text t [] → AreByParent es t [] []
none_by_parent es t listed = record {
  objects = [];
  listed = listed;
  are_objects = λ m. ((λ c. absurd (contains_none m c)), (λ h. absurd (contains_none m h.0)));
  are_others = λ m. ((λ c. absurd (contains_none m c)), (λ h. absurd (contains_none m h.0)));
}

-- one field more
module _ (es : List EntryOf) (t : ByNameOf) (others ms : List MemberOf) (m : MemberOf) (are : AreByParent es t others ms) where
  -- of which the parent is not known
  pub by_parent_unknown : m.field_at.parent ≡ None → AreByParent es t others (ms ++ m ∷ [])
  by_parent_unknown none = record {
    objects = are.objects;
    listed = are.listed;
    are_objects = failed_more (is_of_object es) are.objects ms m are.are_objects (ap (λ o. option_map_or (has_kind es kind.Object) o false) none);
    are_others = failed_more (is_of_other es) others ms m are.are_others (ap (λ o. option_map_or (λ t. is_some (kind_named es t) && not (has_kind es kind.Object t)) o false) none);
  }

  module _ (parent : Text) (is : m.field_at.parent ≡ Some parent) where
    of_object : (b : Bool) → has_kind es kind.Object parent ≡ b → is_of_object es m ≡ b
    of_object b e = ap (λ o. option_map_or (has_kind es kind.Object) o false) is ∙ e

    of_other : (known b : Bool) → is_some (kind_named es parent) ≡ known → has_kind es kind.Object parent ≡ b → is_of_other es m ≡ (known && not b)
    of_other known b k e = ap (λ o. option_map_or (λ t. is_some (kind_named es t) && not (has_kind es kind.Object t)) o false) is ∙ ap (λ p. p && not (has_kind es kind.Object parent)) k ∙ ap (λ p. known && not p) e

    -- of an object type
    pub by_parent_object : (new : ByNameOf) → has_kind es kind.Object parent ≡ true → AreListed parent_text new (are.objects ++ m ∷ []) → AreByParent es new others (ms ++ m ∷ [])
    by_parent_object new object listed = record {
      objects = are.objects ++ m ∷ [];
      listed = listed;
      are_objects = passed_more (is_of_object es) are.objects ms m are.are_objects (of_object true object);
      are_others = failed_more (is_of_other es) others ms m are.are_others (no_other (is_some (kind_named es parent)) refl);
    }
      where
        no_other : (known : Bool) → is_some (kind_named es parent) ≡ known → is_of_other es m ≡ false
        no_other true k = of_other true true k object
        no_other false k = of_other false true k object

    -- of another type that is known
    pub by_parent_other : has_kind es kind.Object parent ≡ false → is_some (kind_named es parent) ≡ true → AreByParent es t (others ++ m ∷ []) (ms ++ m ∷ [])
    by_parent_other object known = record {
      objects = are.objects;
      listed = are.listed;
      are_objects = failed_more (is_of_object es) are.objects ms m are.are_objects (of_object false object);
      are_others = passed_more (is_of_other es) others ms m are.are_others (of_other true false known object);
    }

    -- of a type that is not known
    pub by_parent_neither : has_kind es kind.Object parent ≡ false → is_some (kind_named es parent) ≡ false → AreByParent es t others (ms ++ m ∷ [])
    by_parent_neither object known = record {
      objects = are.objects;
      listed = are.listed;
      are_objects = failed_more (is_of_object es) are.objects ms m are.are_objects (of_object false object);
      are_others = failed_more (is_of_other es) others ms m are.are_others (of_other false false known object);
    }

-- a field whose parent is of an object type, and one whose parent is of another that is known
record IsOfObject (es : List EntryOf) (m : MemberOf) : Type 0 where
  parent : Text
  is : m.field_at.parent ≡ Some parent
  object : has_kind es kind.Object parent ≡ true
  known : is_some (kind_named es parent) ≡ true

record IsOfOther (es : List EntryOf) (m : MemberOf) : Type 0 where
  parent : Text
  is : m.field_at.parent ≡ Some parent
  object : has_kind es kind.Object parent ≡ false
  known : is_some (kind_named es parent) ≡ true

object_of : (es : List EntryOf) (m : MemberOf) → is_of_object es m ≡ true → IsOfObject es m
object_of es m h =
    let p = tested (has_kind es kind.Object) m.field_at.parent h in
    record { parent = p.0; is = p.1; object = p.2; known = ap is_some ((tested _ (kind_named es p.0) p.2).1) }

both_hold : (known object : Bool) → (known && not object) ≡ true → (known ≡ true) × (object ≡ false)
both_hold true true h = absurd (cc)
both_hold true false h = (refl, refl)
both_hold false object h = absurd (cc)

other_of : (es : List EntryOf) (m : MemberOf) → is_of_other es m ≡ true → IsOfOther es m
other_of es m h =
    let p = tested (λ t. is_some (kind_named es t) && not (has_kind es kind.Object t)) m.field_at.parent h in
    let q = both_hold (is_some (kind_named es p.0)) (has_kind es kind.Object p.0) p.2 in
    record { parent = p.0; is = p.1; object = q.1; known = q.0 }

-- whether two known types can be one
abbrev meets : Bool → Bool → Bool → Bool → Bool → Bool
meets known known' same object object' = known && known' && (same || not (object && object'))

module _ (es : List EntryOf) where
  coincides : (a b : MemberOf) (left right : Text) → a.field_at.parent ≡ Some left → b.field_at.parent ≡ Some right → can_coincide es a.field_at.parent b.field_at.parent ≡
      meets (is_some (kind_named es left)) (is_some (kind_named es right)) (bytes_eq left right) (has_kind es kind.Object left) (has_kind es kind.Object right)
  coincides a b left right e e' = ap (λ o. can_coincide es o b.field_at.parent) e ∙ ap (λ o. can_coincide es (Some left) o) e'

  meets_as : (known known' same object object' : Bool) (k k' s o o' : Bool) → known ≡ k → known' ≡ k' → same ≡ s → object ≡ o → object' ≡ o' → meets known known' same object object' ≡ meets k k' s o o'
  meets_as known known' same object object' k k' s o o' ek ek' es' eo eo' =
      λ i. meets (ek i) (ek' i) (es' i) (eo i) (eo' i)

  meet_otherwise : (same object' : Bool) → meets true true same false object' ≡ true
  meet_otherwise true object' = refl
  meet_otherwise false object' = refl

  meet_objects : (same : Bool) → meets true true same true false ≡ true
  meet_objects true = refl
  meet_objects false = refl

  other_first : (a b : MemberOf) → IsOfOther es a → (right : Text) → b.field_at.parent ≡ Some right → is_some (kind_named es right) ≡ true → can_coincide es a.field_at.parent b.field_at.parent ≡ true
  other_first a b h right e known =
      let same = bytes_eq h.parent right in
      let object' = has_kind es kind.Object right in
      coincides a b h.parent right h.is e
      ∙ meets_as (is_some (kind_named es h.parent)) (is_some (kind_named es right)) same (has_kind es kind.Object h.parent) object' true true same false object' h.known known refl h.object refl
      ∙ meet_otherwise same object'

  object_first : (a b : MemberOf) → IsOfObject es a → IsOfOther es b → can_coincide es a.field_at.parent b.field_at.parent ≡ true
  object_first a b h k =
      let same = bytes_eq h.parent k.parent in
      coincides a b h.parent k.parent h.is k.is
      ∙ meets_as (is_some (kind_named es h.parent)) (is_some (kind_named es k.parent)) same (has_kind es kind.Object h.parent) (has_kind es kind.Object k.parent) true true same true false h.known k.known refl h.object k.object
      ∙ meet_objects same

  one_type : (a b : MemberOf) → IsOfObject es a → IsOfObject es b → parent_text a ≡ parent_text b → can_coincide es a.field_at.parent b.field_at.parent ≡ true
  one_type a b h k e =
      let same : bytes_eq h.parent k.parent ≡ true = (bytes_decides h.parent k.parent).1 (sym (text_is a h.parent h.is) ∙ e ∙ text_is b k.parent k.is) in
      coincides a b h.parent k.parent h.is k.is
      ∙ meets_as (is_some (kind_named es h.parent)) (is_some (kind_named es k.parent)) (bytes_eq h.parent k.parent) (has_kind es kind.Object h.parent) (has_kind es kind.Object k.parent) true true true true true h.known k.known same h.object k.object

  -- object types that can be one are one
  same_type : (a b : MemberOf) → IsOfObject es a → IsOfObject es b → can_coincide es a.field_at.parent b.field_at.parent ≡ true → parent_text b ≡ parent_text a
  same_type a b h k e =
      let are : meets true true (bytes_eq h.parent k.parent) true true ≡ true =
      sym (meets_as (is_some (kind_named es h.parent)) (is_some (kind_named es k.parent)) (bytes_eq h.parent k.parent) (has_kind es kind.Object h.parent) (has_kind es kind.Object k.parent) true true (bytes_eq h.parent k.parent) true true h.known k.known refl h.object k.object)
      ∙ sym (coincides a b h.parent k.parent h.is k.is) ∙ e in
      text_is b k.parent k.is ∙ sym ((bytes_decides h.parent k.parent).0 (said (bytes_eq h.parent k.parent) are)) ∙ sym (text_is a h.parent h.is)
    where
      said : (same : Bool) → meets true true same true true ≡ true → same ≡ true
      said true t = refl
      said false t = t

  -- what is known of the parents of two fields that can be one
  known_first : (k k' same object object' : Bool) → meets k k' same object object' ≡ true → k ≡ true
  known_first true k' same object object' h = refl
  known_first false k' same object object' h = absurd (cc)

  known_second : (k k' same object object' : Bool) → meets k k' same object object' ≡ true → k' ≡ true
  known_second true true same object object' h = refl
  known_second true false same object object' h = absurd (cc)
  known_second false k' same object object' h = absurd (cc)

  -- a field whose parent is of a known type is of one of the two sorts
  sort_of : (m : MemberOf) (parent : Text) → m.field_at.parent ≡ Some parent → is_some (kind_named es parent) ≡ true → (is_of_object es m ≡ true) ⊎ (is_of_other es m ≡ true)
  sort_of m parent e known = by_test (has_kind es kind.Object parent) refl
    where
      by_test : (b : Bool) → has_kind es kind.Object parent ≡ b → (is_of_object es m ≡ true) ⊎ (is_of_other es m ≡ true)
      by_test true object = inl (ap (λ o. option_map_or (has_kind es kind.Object) o false) e ∙ object)
      by_test false object =
          let tests : is_of_other es m ≡ not (has_kind es kind.Object parent) = ap (λ o. option_map_or (λ t. is_some (kind_named es t) && not (has_kind es kind.Object t)) o false) e
          ∙ ap (λ p. p && not (has_kind es kind.Object parent)) known in
          inr (tests ∙ ap not object)

  sorts_of : (a b : MemberOf) (left right : Option Text) → a.field_at.parent ≡ left → b.field_at.parent ≡ right → can_coincide es left right ≡ true →
      ((is_of_object es a ≡ true) ⊎ (is_of_other es a ≡ true)) × ((is_of_object es b ≡ true) ⊎ (is_of_other es b ≡ true))
  sorts_of a b None right e e' h = absurd (cc)
  sorts_of a b (Some left) None e e' h = absurd (cc)
  sorts_of a b (Some left) (Some right) e e' h =
      let known = is_some (kind_named es left) in
      let known' = is_some (kind_named es right) in
      let same = bytes_eq left right in
      let object = has_kind es kind.Object left in
      let object' = has_kind es kind.Object right in
      (sort_of a left e (known_first known known' same object object' h), sort_of b right e' (known_second known known' same object object' h))

module _ (es : List EntryOf) (t : ByNameOf) (others ms : List MemberOf) (are : AreByParent es t others ms) where
  other_one : (m : MemberOf) → Contains others m → IsOfOther es m
  other_one m c = other_of es m ((are.are_others m).0 c).1

  object_one : (i : ℕ) → i < length t.lists → (m : MemberOf) → Contains (list_at t.lists i) m → IsOfObject es m
  object_one i l m c = object_of es m ((are.are_objects m).0 (listed_at parent_text t are.objects are.listed i l m c).0).1

  -- they are some of these fields
  pub others_of_these : (m : MemberOf) → Contains others m → Contains ms m
  others_of_these m c = ((are.are_others m).0 c).0

  pub list_of_these : (i : ℕ) → i < length t.lists → (m : MemberOf) → Contains (list_at t.lists i ++ others) m → Contains ms m
  list_of_these i l m c = elim (Contains-append_cases (list_at t.lists i) others m c) [
    | inl d ↦ ((are.are_objects m).0 (listed_at parent_text t are.objects are.listed i l m d).0).0
    | inr d ↦ others_of_these m d
  ]

  -- Fields that stand among the others have parents that can coincide, and so have those that stand in one of the lists or among
  -- the others.
  pub others_coincide : (a b : MemberOf) → Contains others a → Contains others b → can_coincide es a.field_at.parent b.field_at.parent ≡ true
  others_coincide a b c d = let k = other_one b d in other_first es a b (other_one a c) k.parent k.is k.known

  pub list_coincides : (i : ℕ) → i < length t.lists → (a b : MemberOf) → Contains (list_at t.lists i ++ others) a → Contains (list_at t.lists i ++ others) b → can_coincide es a.field_at.parent b.field_at.parent ≡ true
  list_coincides i l a b c d = elim (Contains-append_cases (list_at t.lists i) others a c) [
    | inl p ↦ elim (Contains-append_cases (list_at t.lists i) others b d) [
      | inl q ↦
          one_type es a b (object_one i l a p) (object_one i l b q)
          ((listed_at parent_text t are.objects are.listed i l a p).1 ∙ sym (listed_at parent_text t are.objects are.listed i l b q).1)
      | inr q ↦ object_first es a b (object_one i l a p) (other_one b q)
    ]
    | inr p ↦ elim (Contains-append_cases (list_at t.lists i) others b d) [
      | inl q ↦ let k = object_one i l b q in other_first es a b (other_one a p) k.parent k.is k.known
      | inr q ↦ others_coincide a b p q
    ]
  ]

  -- Fields of which the parents can coincide stand together: both among the others, or both in one of the lists or among the
  -- others.
  pub coincide_somewhere : (a b : MemberOf) → Contains ms a → Contains ms b → can_coincide es a.field_at.parent b.field_at.parent ≡ true →
      (Contains others a × Contains others b) ⊎ ((i : ℕ) × (i < length t.lists) × Contains (list_at t.lists i ++ others) a × Contains (list_at t.lists i ++ others) b)
  coincide_somewhere a b c d e = let s = sorts_of es a b a.field_at.parent b.field_at.parent refl refl e in by_sorts s.0 s.1
    where
      by_sorts : (is_of_object es a ≡ true) ⊎ (is_of_other es a ≡ true) → (is_of_object es b ≡ true) ⊎ (is_of_other es b ≡ true) →
          (Contains others a × Contains others b) ⊎ ((i : ℕ) × (i < length t.lists) × Contains (list_at t.lists i ++ others) a × Contains (list_at t.lists i ++ others) b)
      by_sorts (inl p) (inl q) =
          let x = (are.are_objects a).1 (c, p) in
          let y = (are.are_objects b).1 (d, q) in
          let w = listed_somewhere parent_text t are.objects are.listed a x in
          inr (w.0, w.1, Contains-append_left (list_at t.lists w.0) others a (w.2 a x refl), Contains-append_left (list_at t.lists w.0) others b (w.2 b y (same_type es a b (object_of es a p) (object_of es b q) e)))
      by_sorts (inl p) (inr q) =
          let x = (are.are_objects a).1 (c, p) in
          let w = listed_somewhere parent_text t are.objects are.listed a x in
          inr (w.0, w.1, Contains-append_left (list_at t.lists w.0) others a (w.2 a x refl), Contains-append_right (list_at t.lists w.0) others b ((are.are_others b).1 (d, q)))
      by_sorts (inr p) (inl q) =
          let y = (are.are_objects b).1 (d, q) in
          let w = listed_somewhere parent_text t are.objects are.listed b y in
          inr (w.0, w.1, Contains-append_right (list_at t.lists w.0) others a ((are.are_others a).1 (c, p)), Contains-append_left (list_at t.lists w.0) others b (w.2 b y refl))
      by_sorts (inr p) (inr q) = inl ((are.are_others a).1 (c, p), (are.are_others b).1 (d, q))
