-- What is found at an offset is the target that it means.
use Rattle.std.proofs.Common.{◌≡◌, ◌↔◌, ℕ, ◌<◌, ◌≤◌, Bool, true, false, cond, List, Option, Some, None, length, take, refl, sym, ap, subst, ◌∙◌, arith, get_or}
use Rattle.std.specs.Prelude.{nat_lt, slice_get, position}
use Rattle.std.specs.List.{position_or_len}
use Rattle.std.specs.Option.{option_map}
use Rattle.std.proofs.lemmas.Bool.Decides.{nat_tests}
use Rattle.std.proofs.lemmas.Option.{slice_get-get_or, slice_get-map, slice_get_past, slice_get_read}
use Rattle.std.proofs.lemmas.List.{take-map}
use Rattle.gq_project.specs.declared.document.Doc.{Doc}
use Rattle.gq_project.specs.Documents.{has_key}
use Rattle.gq_parse.specs.Parsed.{AreParsed}
use Rattle.gq_parse.specs.Parsed as readings
use Rattle.gq_tree.specs.Readings as reading
use Rattle.gq_tree.specs.Readings.{ParsedOf, SharedParsed, definitions_read, shared_view, readings_view}
use Rattle.gq_index.specs.Occurrences.{executables}
use Rattle.gq_mentions.specs.declared.target.Target.{Target}
use Rattle.gq_mentions.specs.Renameables.{renameables}
use Rattle.gq_mentions.specs.Targets.{target}
use Rattle.gq_rename.specs.Asks.{IsTarget, target_of}
use Rattle.gq_rename.specs.Prepare.{IsPrepared}
use Rattle.gq_rename.specs.Sound.{OffsetsMeanOneTarget}
use Rattle.gq_rename.proofs.Numbering.{first_of, read_at, read_nowhere, some_place, no_place}

-- what is found of one reading is what is told of each
pub is_target : OffsetsMeanOneTarget → (documents : List Doc) (key : List ℕ) (offset : ℕ) (found : Option Target) (rs : List ParsedOf) → AreParsed documents rs → found ≡ target_of documents rs key offset → (t : Target) → (found ≡ Some t) ↔ IsTarget documents key offset t
is_target law documents key offset found rs are of t = (
  (λ e. record { readings = rs; are_readings = are; here = sym of ∙ e }),
  (λ w. of ∙ law documents rs w.readings key offset are w.are_readings ∙ w.here),
)

-- the same of lists that are one
pub is_target_listed : OffsetsMeanOneTarget → (listed held documents : List Doc) (key : List ℕ) (offset : ℕ) (found : Option Target) (rs : List ParsedOf) → listed ≡ held → held ≡ documents → AreParsed listed rs → (AreParsed held rs → found ≡ target_of held rs key offset) → (t : Target) → (found ≡ Some t) ↔ IsTarget documents key offset t
is_target_listed law listed held documents key offset found rs all same are of t =
    let A : List Doc → Type 0 = λ ds. AreParsed ds rs in
    let here : AreParsed held rs = subst A all are in
    is_target law documents key offset found rs (subst A same here) (of here ∙ ap (λ (ds : List Doc). target_of ds rs key offset) same) t

-- under a key that no document has
pub found_nowhere : (documents : List Doc) (key : List ℕ) (offset : ℕ) (rs : List ParsedOf) → AreParsed documents rs → None ≡ position (has_key key) documents → None ≡ target_of documents rs key offset
found_nowhere documents key offset rs are none =
    let past = no_place (has_key key) documents (sym none) in
    sym (ap (target offset) (read_nowhere key 0 documents rs are past))

pub as_many : {documents : List Doc} {rs : List ParsedOf} → AreParsed documents rs → length documents ≡ length rs
as_many readings.none = refl
as_many (readings.more p ps) = let e = as_many ps in omega (arith, e)

-- a place that was found is one
place_within : (documents : List Doc) (key : List ℕ) (file : ℕ) → Some file ≡ position (has_key key) documents → file < length documents
place_within documents key file at = by (nat_lt (position_or_len (has_key key) documents) (length documents)) refl (sym at)
  where
    by : (b : Bool) → nat_lt (position_or_len (has_key key) documents) (length documents) ≡ b → cond b (Some (position_or_len (has_key key) documents)) None ≡ Some file → file < length documents
    by true t e =
        let same : position_or_len (has_key key) documents ≡ file = cc in
        grind (arith, nat_tests)
    by false t e = absurd (cc)

-- in the document of the key
pub found_there : (documents : List Doc) (key : List ℕ) (offset : ℕ) (rs : List ParsedOf) (file : ℕ) (found : Option Target) → AreParsed documents rs → Some file ≡ position (has_key key) documents →
    ((r : ParsedOf) → slice_get rs file ≡ Some r → found ≡ target offset (renameables (length (executables (take file rs))) (definitions_read r))) → found ≡ target_of documents rs key offset
found_there documents key offset rs file found are at of =
    let place = some_place (has_key key) documents file (sym at) in
    let within : file < length rs = omega (arith, place_within documents key file at, as_many are) in
    let one : ParsedOf = get_or rs file (reading.syntax 0) in
    let here : slice_get rs file ≡ Some one = slice_get-get_or rs file (reading.syntax 0) within in
    let count : length (executables (take file rs)) ≡ first_of file 0 0 rs = omega arith in
    of one here
    ∙ ap (λ (n : ℕ). target offset (renameables n (definitions_read one))) count
    ∙ ap (target offset) (sym (read_at key file 0 0 documents rs one are place here))

-- what is found of one reading of some, by its place
pub found_at : (rs : List SharedParsed) (file offset first : ℕ) (read : SharedParsed) (found : Option Target) → file < length rs → read ≡ get_or rs file read → first ≡ length (executables (readings_view (take file rs))) →
    found ≡ target offset (renameables first (definitions_read (shared_view read))) → (r : ParsedOf) → slice_get (readings_view rs) file ≡ Some r → found ≡ target offset (renameables (length (executables (take file (readings_view rs)))) (definitions_read r))
found_at rs file offset first read found within is count of r at =
    let here : slice_get rs file ≡ Some read = slice_get_read rs (length rs) file read refl within is in
    let viewed : slice_get (readings_view rs) file ≡ Some (shared_view read) = slice_get-map shared_view rs file ∙ ap (option_map shared_view) here in
    let same : shared_view read ≡ r = cc in
    of
    ∙ ap (λ (n : ℕ). target offset (renameables n (definitions_read (shared_view read)))) (count ∙ ap (λ (l : List ParsedOf). length (executables l)) (sym (take-map shared_view file rs)))
    ∙ ap (λ (x : ParsedOf). target offset (renameables (length (executables (take file (readings_view rs)))) (definitions_read x))) same

pub nothing_at : (rs : List SharedParsed) (file : ℕ) → length rs ≤ file → (r : ParsedOf) → slice_get (readings_view rs) file ≡ Some r → ⊥
nothing_at rs file past r at =
    let viewed : slice_get (readings_view rs) file ≡ None = slice_get-map shared_view rs file ∙ ap (option_map shared_view) (slice_get_past rs file past) in
    cc

-- what is prepared of a target that was found
pub is_prepared : (documents : List Doc) (key : List ℕ) (offset : ℕ) (rs : List ParsedOf) (found : Option Target) → AreParsed documents rs → (AreParsed documents rs → found ≡ target_of documents rs key offset) → IsPrepared documents key offset (option_map (λ t. t.name.span) found)
is_prepared documents key offset rs found are of = record { readings = rs; are_readings = are; is_token = ap (option_map (λ (t : Target). t.name.span)) (of are) }
