-- Two types for which one object is possible can coincide as parents of fields (section 5.3.2).
use Rattle.std.proofs.Common.{◌≡◌, ◌⊎◌, inl, inr, Bool, true, false, not, ◌&&◌, ◌||◌, List, Option, Some, is_some, refl, sym, ap, ◌∙◌}
use Rattle.std.specs.Option.{option_map_or}
use Rattle.std.specs.Str.{bytes_eq}
use Rattle.gq_types.specs.Entries.{Text, EntryOf}
use Rattle.gq_types.specs.Joined.{kind_named}
use Rattle.gq_types.specs.Kinds.{same_kind}
use Rattle.gq_types.specs.LookUps.{has_kind}
use Rattle.gq_types.specs.declared.entry.TypeKind.{TypeKind}
use Rattle.gq_types.specs.declared.entry.TypeKind.TheVariants as kind
use Rattle.gq_types.specs.Possible.{IsPossible, itself, member, declaring}
use Rattle.gq_types.specs.SubtypesTests.{is_possible}
use Rattle.gq_types.proofs.SubtypeLemmas.{possible_decides}
use Rattle.gq_merging.specs.FieldsMerge.{can_coincide}
use Rattle.gq_meaning.proofs.TextLemmas.{text_same}

some_is : {A : Type 0} (o : Option A) (a : A) → o ≡ Some a → is_some o ≡ true
some_is o a e = ap is_some e

pub possible_known : (es : List EntryOf) {t o : Text} → IsPossible es t o → (k : TypeKind) × (kind_named es t ≡ Some k)
possible_known es (itself k) = (kind.Object, k)
possible_known es (member e h k) = (kind.Union, e)
possible_known es (declaring e h k) = (kind.Interface, e)

-- an object type is possible only for itself
itself_or_no_object : (es : List EntryOf) {t o : Text} → IsPossible es t o → (t ≡ o) ⊎ (has_kind es kind.Object t ≡ false)
itself_or_no_object es (itself k) = inl refl
itself_or_no_object es (member e h k) = inr (ap (λ z. option_map_or (same_kind kind.Object) z false) e)
itself_or_no_object es (declaring e h k) = inr (ap (λ z. option_map_or (same_kind kind.Object) z false) e)

overlap : (equal left right : Bool) → (equal ≡ true) ⊎ ((left ≡ false) ⊎ (right ≡ false)) → (equal || not (left && right)) ≡ true
overlap true left right h = refl
overlap false false right h = refl
overlap false true false h = refl
overlap false true true (inl e) = absurd (cc)
overlap false true true (inr (inl e)) = absurd (cc)
overlap false true true (inr (inr e)) = absurd (cc)

all_three : (a b c : Bool) → a ≡ true → b ≡ true → c ≡ true → (a && b && c) ≡ true
all_three true true true e f h = refl
all_three true true false e f h = h
all_three true false c e f h = f
all_three false b c e f h = e

pub coincide : (es : List EntryOf) (s t o : Text) → is_possible es s o ≡ true → is_possible es t o ≡ true → can_coincide es (Some s) (Some t) ≡ true
coincide es s t o p q =
    let left = (possible_decides es s o).0 p in
    let right = (possible_decides es t o).0 q in
    let known = possible_known es left in
    let known' = possible_known es right in
    all_three (is_some (kind_named es s)) (is_some (kind_named es t)) (bytes_eq s t || not (has_kind es kind.Object s && has_kind es kind.Object t))
    (some_is (kind_named es s) known.0 known.1) (some_is (kind_named es t) known'.0 known'.1) (overlap (bytes_eq s t) (has_kind es kind.Object s) (has_kind es kind.Object t) (by_kinds (itself_or_no_object es left) (itself_or_no_object es right)))
  where
    by_kinds : (s ≡ o) ⊎ (has_kind es kind.Object s ≡ false) → (t ≡ o) ⊎ (has_kind es kind.Object t ≡ false) → (bytes_eq s t ≡ true) ⊎ ((has_kind es kind.Object s ≡ false) ⊎ (has_kind es kind.Object t ≡ false))
    by_kinds (inl e) (inl f) = inl (text_same s t (e ∙ sym f))
    by_kinds (inl e) (inr f) = inr (inr f)
    by_kinds (inr e) f = inr (inl e)
