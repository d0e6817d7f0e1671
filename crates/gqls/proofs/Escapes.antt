-- Which bytes of a path are escaped.
use Rattle.std.proofs.Common.{◌≡◌, ℕ, ◌<◌, ◌++◌, Bool, true, false, not, ◌||◌, cond, List, [], ◌∷◌, refl, ap, sym, ◌∙◌, arith}
use Rattle.std.specs.Char.{is_ascii}
use Rattle.std.specs.List.{flat_map}
use Rattle.std.proofs.lemmas.Bool.{agree_below, agree_below_at}
use Rattle.std.proofs.lemmas.Bool.Decides.{nat_tests}
use Rattle.percent_encoding.specs.AsciiSet.{contains, should_percent_encode}
use Rattle.percent_encoding.specs.Percent.{percent_encode, percent_encode_byte}
use Rattle.gqls.specs.declared.folder.TheConstants.{ESCAPED_IN_PATHS}
use Rattle.gqls.specs.Helping.Folder.{is_kept, path_byte}

agrees : agree_below (contains ESCAPED_IN_PATHS) (λ b. not (is_kept b)) 128 ≡ true
agrees = refl

-- of the ASCII bytes, the set has those that are not kept
contains_others : (b : ℕ) → b < 128 → contains ESCAPED_IN_PATHS b ≡ not (is_kept b)
contains_others b h = agree_below_at (contains ESCAPED_IN_PATHS) (λ b. not (is_kept b)) 128 b agrees h

-- a byte that is kept is ASCII
kept_is_ascii : (b : ℕ) → is_ascii b ≡ false → is_kept b ≡ false
kept_is_ascii b h = grind (arith, nat_tests)

below_ascii : (b : ℕ) → is_ascii b ≡ true → b < 128
below_ascii b h = grind (arith, nat_tests)

escapes_step : (t : Bool) (b : ℕ) → is_ascii b ≡ t → should_percent_encode ESCAPED_IN_PATHS b ≡ not (is_kept b)
unfolding should_percent_encode
escapes_step true b h = ap (λ t. not t || contains ESCAPED_IN_PATHS b) h ∙ contains_others b (below_ascii b h)
escapes_step false b h = ap (λ t. not t || contains ESCAPED_IN_PATHS b) h ∙ sym (ap not (kept_is_ascii b h))

-- a byte is escaped unless it is kept
escapes_others : (b : ℕ) → should_percent_encode ESCAPED_IN_PATHS b ≡ not (is_kept b)
escapes_others b = escapes_step (is_ascii b) b refl

cond-not : (t u : Bool) (x y : List ℕ) → t ≡ not u → cond t x y ≡ cond u y x
cond-not t true x y h = ap (λ b. cond b x y) h
cond-not t false x y h = ap (λ b. cond b x y) h

-- the constant set escapes bytes as paths in keys do
pub percent_encode-path : (bytes : List ℕ) → percent_encode ESCAPED_IN_PATHS bytes ≡ flat_map path_byte bytes
unfolding percent_encode
percent_encode-path [] = refl
percent_encode-path (b ∷ bytes) =
    ap (λ rest. cond (should_percent_encode ESCAPED_IN_PATHS b) (percent_encode_byte b) (b ∷ []) ++ rest) (percent_encode-path bytes)
    ∙ ap (λ front. front ++ flat_map path_byte bytes) (cond-not (should_percent_encode ESCAPED_IN_PATHS b) (is_kept b) (percent_encode_byte b) (b ∷ []) (escapes_others b))
