-- The keys of the files of a folder.
use Rattle.std.specs.Prelude.{◌≡◌, ℕ, ◌<◌, ◌≤◌, ◌^◌, Bool, true, false, not, ◌==◌, ◌||◌, ◌&&◌, List, [], ◌∷◌, ◌++◌, length, if◌then◌else◌, codes}
use Rattle.std.specs.List.{flat_map, starts_with, ends_with, list_all, slice_split}
use Rattle.std.specs.Str.{IsUtf8}
use Rattle.percent_encoding.specs.Percent.{percent_encode_byte}
use Rattle.gq_rpc.specs.Keys.{is_slash, is_unreserved}
use Rattle.gq_events.specs.declared.event.LoadedContent.{LoadedContent}
use Rattle.gq_events.specs.declared.event.LoadedContent.TheVariants.{Text, Gone, Unfit}

-- the bytes of a path that a key keeps: slashes, and the unreserved characters of RFC 3986, section 2.3
abbrev pub is_kept : ℕ → Bool
is_kept b = is_slash b || is_unreserved b

-- a byte of a path, as an escape in upper-case hexadecimal unless it is kept
abbrev pub path_byte : ℕ → List ℕ
path_byte b = if is_kept b then b ∷ [] else percent_encode_byte b

-- the key of the file with that path
abbrev pub file_key : List ℕ → List ℕ
file_key path = codes "file://" ++ flat_map path_byte path

-- the name or the key is one of a file of GraphQL
abbrev pub is_graphql : List ℕ → Bool
is_graphql name = ends_with (λ a b. a == b) name (codes ".graphql") || ends_with (λ a b. a == b) name (codes ".gql")

-- the key begins as those of the folder do, and ends as that of a file of GraphQL
abbrev pub is_key_of : List ℕ → List ℕ → Bool
is_key_of prefix key = starts_with (λ a b. a == b) key prefix && is_graphql key

-- a part of a path names an entry: it is neither empty nor `.` nor `..`
abbrev pub is_name : List ℕ → Bool
is_name [] = false
is_name (a ∷ []) = not (a == 46)
is_name (a ∷ b ∷ []) = not (a == 46 && b == 46)
is_name (a ∷ b ∷ c ∷ rest) = true

-- each part between slashes is a name
abbrev pub are_names : List ℕ → Bool
are_names parts = list_all is_name (slice_split is_slash parts)

-- the path of a folder: names, each behind a slash
abbrev pub IsRoot : List ℕ → Type 0
IsRoot path = (parts : List ℕ) × (path ≡ 47 ∷ parts) × (are_names parts ≡ true)

-- What is told of a file with these bytes: its text, which has at most 4 MiB; or that it has none, being longer or not UTF-8.
abbrev pub Holds : List ℕ → LoadedContent → Type 0
Holds bytes (Text text) = (text ≡ bytes) × (length bytes ≤ 2 ^ 22)
Holds bytes Gone = ⊥
Holds bytes Unfit = IsUtf8 bytes → 2 ^ 22 < length bytes
