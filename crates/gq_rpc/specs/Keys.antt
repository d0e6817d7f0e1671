-- The key of a document: its URI as the URL Standard reads it, its path escaped in one way.
use Rattle.std.specs.Prelude.{ℕ, Bool, ◌==◌, ◌||◌, List, [], ◌∷◌, ◌++◌, map, if◌then◌else◌, Option, Some, None, Result, Ok, Err}
use Rattle.std.specs.Char.{is_ascii_alphanumeric}
use Rattle.std.specs.List.{flat_map, slice_split, join_with_byte}
use Rattle.percent_encoding.specs.Percent.{percent_encode_byte, percent_decode}
use Rattle.url.specs.declared.error.ParseError.{ParseError}
use Rattle.url.specs.declared.slicing.Position.TheVariants.{BeforeScheme, BeforePath, AfterPath, AfterFragment}
use Rattle.url.specs.Parser.{parse_url}
use Rattle.url.specs.Parts.{Parts, text_between}

-- the unreserved characters of RFC 3986, section 2.3: letters, digits, `-`, `.`, `_` and `~`
abbrev pub is_unreserved : ℕ → Bool
is_unreserved b = is_ascii_alphanumeric b || b == 45 || b == 46 || b == 95 || b == 126

-- a byte, as an escape in upper-case hexadecimal unless it is unreserved
abbrev pub escaped_byte : ℕ → List ℕ
escaped_byte b = if is_unreserved b then b ∷ [] else percent_encode_byte b

-- a part of the path, decoded and escaped again
abbrev pub part_key : List ℕ → List ℕ
part_key part = flat_map escaped_byte (percent_decode part)

abbrev pub is_slash : ℕ → Bool
is_slash b = b == 47

-- a path, each part between slashes escaped in one way
abbrev pub path_key : List ℕ → List ℕ
path_key path = join_with_byte 47 (map part_key (slice_split is_slash path))

-- the text of a URL with its path escaped in one way
abbrev pub url_key : Parts → List ℕ
url_key url = text_between url BeforeScheme BeforePath ++ path_key url.path ++ text_between url AfterPath AfterFragment

abbrev pub key_of_url : Result Parts ParseError → Option (List ℕ)
key_of_url (Ok url) = Some (url_key url)
key_of_url (Err e) = None

-- the key of a URI, if it is a URL
abbrev pub key_of_uri : List ℕ → Option (List ℕ)
key_of_uri uri = key_of_url (parse_url None uri)
