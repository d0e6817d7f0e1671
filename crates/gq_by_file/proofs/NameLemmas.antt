-- The names of fragments in each file: one file by its number, one file more, and one replaced.
use Rattle.std.proofs.Common.{◌≡◌, ℕ, zero, suc, ◌+◌, ◌<◌, ◌≤◌, List, [], ◌∷◌, ◌++◌, Option, Some, None, Bool, true, get_or, map, slice_get, slice_set, length, take}
use Rattle.std.proofs.Common.{refl, sym, ap, ◌∙◌, subst, arith}
use Rattle.std.proofs.lemmas.List.{map-append, take_more}
use Rattle.std.proofs.lemmas.Option.{none-some, same_Some}
use Rattle.std.specs.Bool.{Decides}
use Rattle.std.specs.List.{insert}
use Rattle.std.specs.Cmp.Lexicographic.{bytes_decides, pointwise, pointwise_decides}
use Rattle.std.specs.Option.{option_eq}
use Rattle.std.specs.Str.{bytes_eq}
use Rattle.gq_types.specs.Entries.{Text}
use Rattle.gq_tree.specs.Readings.{ParsedOf}
use Rattle.gq_by_file.specs.Names.{AreNames, AreNamesIn, none, more}
use Rattle.gq_by_file.specs.declared.names.FileNames.{FileNames}
use Rattle.gq_by_file.specs.Helping.SameNames.{AreSameNames}

pub names_count : {rs : List ParsedOf} {names : List FileNames} → AreNames rs names → length names ≡ length rs
names_count none = refl
names_count (more h hs) = ap suc (names_count hs)

-- another file in the place of one
pub names_set : (at : ℕ) (r : ParsedOf) (one : FileNames) {rs : List ParsedOf} {names : List FileNames} → AreNamesIn r one → AreNames rs names → AreNames (slice_set rs at r) (slice_set names at one)
names_set at r one is none = none
names_set zero r one is (more h hs) = more is hs
names_set (suc at) r one is (more h hs) = more h (names_set at r one is hs)

-- one file more at some place
pub names_insert : (at : ℕ) (r : ParsedOf) (one : FileNames) {rs : List ParsedOf} {names : List FileNames} → at ≤ length names → AreNamesIn r one → AreNames rs names →
    AreNames (insert rs at r) (insert names at one)
names_insert zero r one h is none = more is none
names_insert (suc at) r one h is none = absurd (omega (arith, h))
names_insert zero r one h is (more p ps) = more is (more p ps)
names_insert (suc at) r one h is (more p ps) = more p (names_insert at r one (omega (arith, h)) is ps)

-- one file more at the end
pub names_push : (r : ParsedOf) (one : FileNames) {rs : List ParsedOf} {names : List FileNames} → AreNamesIn r one → AreNames rs names → AreNames (rs ++ r ∷ []) (names ++ one ∷ [])
names_push r one is none = more is none
names_push r one is (more h hs) = more h (names_push r one is hs)

pub names_next : {A : Type 0} (view : A → ParsedOf) (readings : List A) (i : ℕ) (reading : A) (old new : List FileNames) (one : FileNames) → i < length readings → reading ≡ get_or readings i reading →
    AreNamesIn (view reading) one →
    AreNames (map view (take i readings)) old → new ≡ old ++ one ∷ [] → AreNames (map view (take (i + 1) readings)) new
names_next {A} view readings i reading old new one below at is are more_is =
    let longer : take (i + 1) readings ≡ take i readings ++ reading ∷ [] = take_more readings i reading below ∙ ap (λ (z : A). take i readings ++ z ∷ []) (sym at) in
    let same : map view (take (i + 1) readings) ≡ map view (take i readings) ++ view reading ∷ [] = ap (λ (xs : List A). map view xs) longer ∙ map-append view (take i readings) (reading ∷ []) in
    subst (λ (rs : List ParsedOf). AreNames rs new) (sym same)
    (subst (λ (names : List FileNames). AreNames (map view (take i readings) ++ view reading ∷ []) names) (sym more_is) (names_push (view reading) one is are))

-- the same where the names stay
pub names_stay : (at : ℕ) (r : ParsedOf) (one : FileNames) {rs : List ParsedOf} {names : List FileNames} → AreNamesIn r one → slice_get names at ≡ Some one → AreNames rs names → AreNames (slice_set rs at r) names
names_stay at r one is there none = none
names_stay zero r one is there (more {one = other} h hs) = more (subst (λ (z : FileNames). AreNamesIn r z) (sym (same_Some other one there)) is) hs
names_stay (suc at) r one is there (more h hs) = more h (names_stay at r one is there hs)

pub names_as : (r : ParsedOf) (one other : FileNames) → AreSameNames one other → AreNamesIn r other → AreNamesIn r one
names_as r one other same is = record { operations = same.operations ∙ is.operations; spreads = same.spreads ∙ is.spreads; fragments = same.fragments ∙ is.fragments }

-- the comparison of names
pub texts_decide : (xs ys : List Text) → Decides (pointwise bytes_eq xs ys) (xs ≡ ys)
texts_decide xs ys = pointwise_decides bytes_decides xs ys

optional_decide : (a b : Option Text) → Decides (option_eq bytes_eq a b) (a ≡ b)
optional_decide None None = (λ e. refl, λ e. refl)
optional_decide None (Some b) = (λ e. absurd (cc), λ e. absurd (cc))
optional_decide (Some a) None = (λ e. absurd (cc), λ e. absurd (cc))
optional_decide (Some a) (Some b) = (λ e. ap Some ((bytes_decides a b).0 e), λ e. (bytes_decides a b).1 (same_Some a b e))

pub operations_decide : (xs ys : List (Option Text)) → Decides (pointwise (option_eq bytes_eq) xs ys) (xs ≡ ys)
operations_decide xs ys = pointwise_decides optional_decide xs ys

pub all_compared : (a b : FileNames) (p q r : Bool) → p ≡ pointwise (option_eq bytes_eq) a.operations.items b.operations.items → q ≡ pointwise bytes_eq a.spreads.items b.spreads.items →
    r ≡ pointwise bytes_eq a.fragments.items b.fragments.items → p ≡ true → q ≡ true → Decides r (AreSameNames a b)
all_compared a b p q r of_operations of_spreads of_fragments first second = (
  (λ e. record {
    operations = (operations_decide a.operations.items b.operations.items).0 (sym of_operations ∙ first);
    spreads = (texts_decide a.spreads.items b.spreads.items).0 (sym of_spreads ∙ second);
    fragments = (texts_decide a.fragments.items b.fragments.items).0 (sym of_fragments ∙ e);
  }),
  (λ h. of_fragments ∙ (texts_decide a.fragments.items b.fragments.items).1 h.fragments),
)

-- the file of a number, and its names
pub names_at : {rs : List ParsedOf} {names : List FileNames} (n : ℕ) (r : ParsedOf) (one : FileNames) → slice_get rs n ≡ Some r → slice_get names n ≡ Some one → AreNames rs names → AreNamesIn r one
names_at n r one read there none = absurd (none-some r read)
names_at zero r one read there (more {r = q} {one = other} h hs) =
    subst (λ (z : ParsedOf). AreNamesIn z one) (same_Some q r read) (subst (λ (z : FileNames). AreNamesIn q z) (same_Some other one there) h)
names_at (suc n) r one read there (more h hs) = names_at n r one read there hs

pub names_there : {rs : List ParsedOf} {names : List FileNames} (n : ℕ) (r : ParsedOf) → slice_get rs n ≡ Some r → AreNames rs names → (one : FileNames) × (slice_get names n ≡ Some one) × AreNamesIn r one
names_there n r read none = absurd (none-some r read)
names_there zero r read (more {r = q} {one = one} h hs) = (one, refl, subst (λ (z : ParsedOf). AreNamesIn z one) (same_Some q r read) h)
names_there (suc n) r read (more h hs) = names_there n r read hs

pub reading_there : {rs : List ParsedOf} {names : List FileNames} (n : ℕ) (one : FileNames) → slice_get names n ≡ Some one → AreNames rs names → (r : ParsedOf) × (slice_get rs n ≡ Some r) × AreNamesIn r one
reading_there n one there none = absurd (none-some one there)
reading_there zero one there (more {r = r} {one = other} h hs) = (r, refl, subst (λ (z : FileNames). AreNamesIn r z) (same_Some other one there) h)
reading_there (suc n) one there (more h hs) = reading_there n one there hs
