-- Items of a list whose text stands earlier in it.
use Rattle.std.specs.Prelude.{◌≡◌, ℕ, ◌<◌, List, [], ◌∷◌, ◌++◌, ◌⊎◌, if◌then◌else◌, length, slice_index_or, Contains}
use Rattle.std.specs.List.{list_any}
use Rattle.std.specs.Str.{bytes_eq}

-- the items whose text is one of `before`, or stands earlier in the list
abbrev pub repeated_after : {A : Type 0} → (A → List ℕ) → List (List ℕ) → List A → List A
repeated_after text before [] = []
repeated_after text before (x ∷ xs) = (if list_any (bytes_eq (text x)) before then x ∷ [] else []) ++ repeated_after text (before ++ text x ∷ []) xs

-- the items whose text stands earlier in the list
abbrev pub repeated : {A : Type 0} → (A → List ℕ) → List A → List A
repeated text xs = repeated_after text [] xs

-- x stands at the place i
abbrev pub StandsAt : {A : Type 0} → List A → ℕ → A → Type 0
StandsAt xs i x = (i < length xs) × (slice_index_or xs i x ≡ x)

-- x stands at the place i, and at an earlier place stands one of the same text
pub record IsRepeatedAt {A : Type 0} (text : A → List ℕ) (xs : List A) (i : ℕ) (x : A) : Type 0 where
  pub here : StandsAt xs i x
  pub earlier : ℕ
  pub is_earlier : earlier < i
  pub other : A
  pub stands_earlier : StandsAt xs earlier other
  pub same_text : text other ≡ text x

abbrev pub IsRepeated : {A : Type 0} → (A → List ℕ) → List A → A → Type 0
IsRepeated text xs x = (i : ℕ) × IsRepeatedAt text xs i x

-- x stands in the list, and its text is one of `before`, or stands earlier in the list
abbrev pub IsRepeatedAfter : {A : Type 0} → (A → List ℕ) → List (List ℕ) → List A → A → Type 0
IsRepeatedAfter text before xs x = (Contains xs x × Contains before (text x)) ⊎ IsRepeated text xs x

-- some item is repeated at the place i
abbrev pub IsRepeatedPlace : {A : Type 0} → (A → List ℕ) → List A → ℕ → Type 0
IsRepeatedPlace {A} text xs i = (x : A) × IsRepeatedAt text xs i x
