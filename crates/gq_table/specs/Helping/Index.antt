-- What a table keeps beside its rows. No contract of a public call is about it.
use Rattle.std.specs.Prelude.{◌≡◌, ◌<◌, ◌==◌, ◌+◌, ◌*◌, ◌%◌, ◌^◌, ℕ, Bool, List, [], ◌∷◌, ◌++◌, Option, Some, None, if◌then◌else◌, find, length, slice_get, slice_index_or, option_and_then}
use Rattle.std.specs.Str.{bytes_eq}
use Rattle.gq_names.specs.UnderNames.{UnderNames, items_under, one_if}
use Rattle.gq_meaning.specs.Values.{Text}
use Rattle.gq_meaning.specs.Results.{Answer, Call}
use Rattle.gq_table.specs.Rows.{RowOf, row_of, same_call}
use Rattle.gq_table.specs.Helping.CallTexts.{call_text}
use Rattle.gq_table.specs.declared.index.Index.{Index}

-- numbers of 64 bits made of a number and a text's bytes
abbrev pub text_digest : ℕ → Text → ℕ
text_digest number [] = number
text_digest number (byte ∷ bytes) = text_digest ((number * 257 % 2 ^ 64 + byte) % 2 ^ 64) bytes

-- one number for another, far from those of its neighbours
abbrev pub spread_out : ℕ → ℕ
spread_out number = number * 11400714819323198485 % 2 ^ 64

-- a number for each field of an object; most have one of their own
abbrev pub call_digest : Call → ℕ
call_digest c = text_digest (spread_out (text_digest (spread_out c.number) c.type_name)) c.field

-- the bucket of a call among so many
abbrev pub bucket_of : ℕ → Call → ℕ
bucket_of count c = call_digest c % count

abbrev pub is_in : ℕ → ℕ → RowOf → Bool
is_in count bucket r = bucket_of count r.call == bucket

-- the rows behind the first one in that bucket
abbrev pub behind_first : ℕ → ℕ → List RowOf → List RowOf
behind_first count bucket [] = []
behind_first count bucket (r ∷ rs) = if is_in count bucket r then rs else behind_first count bucket rs

-- the row with that number
abbrev pub row_numbered : List RowOf → Option ℕ → Option RowOf
row_numbered rows number = option_and_then (slice_get rows) number

-- the result of a row, if it is of this call
abbrev pub result_if : Call → Option RowOf → Option Answer
result_if call None = None
result_if call (Some r) = if same_call call r.call then Some r.result else None

abbrev pub first_of : Option Answer → Option Answer → Option Answer
first_of None other = other
first_of (Some x) other = Some x

-- the result of the first row among those with these numbers that is of this call
abbrev pub result_among : List RowOf → Call → List ℕ → Option Answer
result_among rows call [] = None
result_among rows call (n ∷ ns) = first_of (result_if call (slice_get rows n)) (result_among rows call ns)

-- how many buckets there are
abbrev pub bucket_count : Index → ℕ
bucket_count index = length index.firsts.items

-- the number of the first row in a bucket
abbrev pub first_in : Index → ℕ → Option ℕ
first_in index bucket = slice_index_or index.firsts.items bucket None

-- of each bucket the first of these rows that is in it, and the others under the texts of their calls
pub record IsIndex (index : Index) (rows these : List RowOf) : Type 0 where
  pub buckets : 0 < bucket_count index
  pub firsts : (bucket : ℕ) → bucket < bucket_count index → row_numbered rows (first_in index bucket) ≡ find (is_in (bucket_count index) bucket) these
  pub others : (call : Call) → result_among rows call (items_under index.others (call_text call)) ≡ row_of (behind_first (bucket_count index) (bucket_of (bucket_count index) call) these) call

-- a number was put under the text of a call, behind those that are there
abbrev pub IsPutUnder : Call → ℕ → UnderNames ℕ → UnderNames ℕ → Type 0
IsPutUnder call number old new = (text : Text) → items_under new text ≡ items_under old text ++ one_if (bytes_eq text (call_text call)) number
