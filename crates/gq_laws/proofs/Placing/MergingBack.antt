-- Two fields that meet do so the other way round, two that differ do, and of two in one document one stands no later.
use Rattle.std.proofs.Common.{◌≡◌, ◌⊎◌, ⊎_elim, inl, inr, Bool, true, false, List, Option, Some, None, refl, sym, ap, ◌∙◌, arith}
use Rattle.std.specs.Prelude.{◌&&◌, ◌||◌, not, is_some}
use Rattle.std.specs.Str.{bytes_eq}
use Rattle.std.specs.Cmp.Lexicographic.{bytes_decides}
use Rattle.std.proofs.lemmas.Bool.{false_from_ne_true, cases_lt}
use Rattle.gq_types.specs.declared.entry.TypeKind.TheVariants as kind
use Rattle.gq_types.specs.Entries.{Text, EntryOf}
use Rattle.gq_types.specs.Joined.{kind_named}
use Rattle.gq_types.specs.LookUps.{has_kind}
use Rattle.gq_document.specs.Executable.{ExecutableOf}
use Rattle.gq_document.specs.FieldSets.{SetOf, FieldAt}
use Rattle.gq_merging.specs.declared.purpose.Purpose.{Purpose}
use Rattle.gq_merging.specs.declared.purpose.Purpose.TheVariants.{Shapes, Names}
use Rattle.gq_merging.specs.FieldsMerge.{HaveOneKey, can_coincide, leads_on, Meet, together, deeper, Differ, in_shape, in_call, IsNoLater}
use Rattle.gq_merging.proofs.EquivalenceLemmas.{arguments_back}

-- texts are compared either way round
texts_back : (a b : Text) → bytes_eq a b ≡ bytes_eq b a
texts_back a b = by (bytes_eq a b) refl
  where
    by : (t : Bool) → bytes_eq a b ≡ t → t ≡ bytes_eq b a
    by true e = sym ((bytes_decides b a).1 (sym ((bytes_decides a b).0 e)))
    by false e = sym (false_from_ne_true _ (λ h. let f : true ≡ false = sym ((bytes_decides a b).1 (sym ((bytes_decides b a).0 h))) ∙ e in cc))

-- both are known, and they are equal or one of them is no object
abbrev coincide : (left_known right_known equal left_object right_object : Bool) → Bool
coincide k l e o p = k && l && (e || not (o && p))

tests_back : (k l e o p : Bool) → coincide k l e o p ≡ coincide l k e p o
tests_back true true e true true = refl
tests_back true true e true false = refl
tests_back true true e false true = refl
tests_back true true e false false = refl
tests_back true false e o p = refl
tests_back false true e o p = refl
tests_back false false e o p = refl

coincide_back : (es : List EntryOf) (left right : Option Text) → can_coincide es left right ≡ can_coincide es right left
coincide_back es None None = refl
coincide_back es None (Some right) = refl
coincide_back es (Some left) None = refl
coincide_back es (Some left) (Some right) =
    let k = is_some (kind_named es left) in
    let l = is_some (kind_named es right) in
    let o = has_kind es kind.Object left in
    let p = has_kind es kind.Object right in
    tests_back k l (bytes_eq left right) o p ∙ ap (λ e. coincide l k e p o) (texts_back left right)

leads_back : (es : List EntryOf) (purpose : Purpose) (a b : FieldAt) → leads_on es purpose a b ≡ leads_on es purpose b a
leads_back es Shapes a b = refl
leads_back es Names a b = coincide_back es a.parent b.parent

key_back : {x : ExecutableOf} {s t : SetOf} {a b : FieldAt} → HaveOneKey x s t a b → HaveOneKey x t s b a
key_back h = record { first = h.second; second = h.first; one_key = sym h.one_key }

pub meet_back : {x : ExecutableOf} {purpose : Purpose} {a b : FieldAt} → Meet x purpose a b → Meet x purpose b a
meet_back (together s h) = together s (key_back h)
meet_back {x} {purpose} (deeper {a = a} {b = b} m l h) = deeper (meet_back m) (leads_back x.entries purpose b a ∙ l) (key_back h)

pub differ_back : {es : List EntryOf} {purpose : Purpose} {a b : FieldAt} → Differ es purpose a b → Differ es purpose b a
differ_back (in_shape left right h k apart) = in_shape right left k h (λ e. apart (sym e))
differ_back {es} (in_call {a = a} {b = b} c apart) =
    in_call (coincide_back es b.parent a.parent ∙ c) (λ s. apart (record { one_name = sym s.one_name; same_arguments = arguments_back b.arguments a.arguments s.same_arguments }))

-- of two fields in one document one stands no later
pub one_is_no_later : (a b : FieldAt) → a.file ≡ b.file → IsNoLater a b ⊎ IsNoLater b a
one_is_no_later a b e = ⊎_elim (λ l. inl (inr (e, omega (arith, l)))) (λ l. inr (inr (sym e, l))) (cases_lt a.place.start b.place.start)
