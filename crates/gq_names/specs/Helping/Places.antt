-- What the tables of first places hold. Only the invariant of `NameList` speaks of it.
use Rattle.std.specs.Prelude.{◌≡◌, cond, bit_and, ◌==◌, ◌<◌, ◌+◌, ◌*◌, ◌%◌, ◌^◌, ◌-◌, ◌/◌, ℕ, List, [], ◌∷◌, Option, Some, None, IsSome, get_or, length, position}
use Rattle.std.specs.BTreeMap.{get_by_text}
use Rattle.std.specs.Str.{bytes_eq}
use Rattle.gq_names.specs.declared.places.FirstPlaces.{FirstPlaces}

-- what a number of 64 bits becomes where a part of a text is added to it
abbrev pub mixed : ℕ → ℕ → ℕ
mixed number part = (number + part) % 2 ^ 64 * 11400714819323198485 % 2 ^ 64

-- the number of four bytes, the lowest first
abbrev pub joined : ℕ → ℕ → ℕ → ℕ → ℕ
joined a b c d = a + b * 256 + c * 65536 + d * 16777216

-- a number of 64 bits made of a text's bytes, four at a time; most texts have one of their own
abbrev pub digest_from : ℕ → List ℕ → ℕ
digest_from number (a ∷ b ∷ c ∷ d ∷ rest) = digest_from (mixed number (joined a b c d)) rest
digest_from number (a ∷ b ∷ c ∷ []) = mixed (mixed (mixed number a) b) c
digest_from number (a ∷ b ∷ []) = mixed (mixed number a) b
digest_from number (a ∷ []) = mixed number a
digest_from number [] = number

abbrev pub digest : List ℕ → ℕ
digest text = digest_from 0 text

-- the two of that many buckets in which a text of that number may be
abbrev pub first_of : ℕ → ℕ → ℕ
first_of count number = bit_and (number / 2 ^ 32) (count - 1)

abbrev pub second_of : ℕ → ℕ → ℕ
second_of count number = bit_and (number / 2 ^ 44) (count - 1)

-- what is found of a name in a bucket with that place: nothing where it has none, that place where the name stands there, and else the rest
abbrev pub found_in : List (List ℕ) → List ℕ → Option ℕ → Option ℕ → Option ℕ
found_in names name None rest = None
found_in names name (Some place) rest = cond (bytes_eq name (get_or names place [])) (Some place) rest

-- what is found of a name in two buckets, and then under its text
abbrev pub found_by : ℕ → (ℕ → Option ℕ) → (List ℕ → Option ℕ) → List (List ℕ) → List ℕ → Option ℕ
found_by count at under names name = found_in names name (at (first_of count (digest name))) (found_in names name (at (second_of count (digest name))) (under name))

-- at each place of a bucket, and under each text, is the first place of its name, and each name that stands in the list is found
pub record Finds (count : ℕ) (at : ℕ → Option ℕ) (under : List ℕ → Option ℕ) (names : List (List ℕ)) : Type 0 where
  pub some : 0 < count
  pub inside : (bucket place : ℕ) → at bucket ≡ Some place → place < length names
  pub of_buckets : (bucket place : ℕ) → at bucket ≡ Some place → position (bytes_eq (get_or names place [])) names ≡ Some place
  pub of_others : (name : List ℕ) (place : ℕ) → under name ≡ Some place → position (bytes_eq name) names ≡ Some place
  pub all : (name : List ℕ) (place : ℕ) → position (bytes_eq name) names ≡ Some place → found_by count at under names name ≡ Some place

-- a place that is kept as one more, or 0 for none
abbrev pub place_of : ℕ → Option ℕ
place_of kept = cond (kept == 0) None (Some (kept - 1))

-- the place that a bucket keeps
abbrev pub in_bucket : List ℕ → ℕ → Option ℕ
in_bucket buckets bucket = place_of (get_or buckets bucket 0)

-- the bucket keeps a place
abbrev pub IsTaken : List ℕ → ℕ → Type 0
IsTaken buckets bucket = IsSome (in_bucket buckets bucket)

abbrev pub FindFirstPlaces : FirstPlaces → List (List ℕ) → Type 0
FindFirstPlaces places names = Finds (length places.of_buckets.items) (in_bucket places.of_buckets.items) (get_by_text places.of_others) names
