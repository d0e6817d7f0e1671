-- Which bytes are escaped.
use Rattle.std.proofs.Common.{◌≡◌, ℕ, ◌<◌, ◌++◌, Bool, true, false, not, ◌||◌, cond, List, [], ◌∷◌, refl, ap, sym, ◌∙◌, arith}
use Rattle.std.specs.Char.{is_ascii}
use Rattle.std.specs.List.{flat_map}
use Rattle.std.proofs.lemmas.Bool.{agree_below, agree_below_at}
use Rattle.std.proofs.lemmas.Bool.Decides.{nat_tests}
use Rattle.percent_encoding.specs.AsciiSet.{contains, should_percent_encode}
use Rattle.percent_encoding.specs.Percent.{percent_encode, percent_encode_byte}
use Rattle.gq_rpc.specs.declared.keys.TheConstants.{ESCAPED}
use Rattle.gq_rpc.specs.Keys.{is_unreserved, escaped_byte}

agrees : agree_below (contains ESCAPED) (λ b. not (is_unreserved b)) 128 ≡ true
agrees = refl

-- of the ASCII bytes, the set has those that are not unreserved
pub contains_others : (b : ℕ) → b < 128 → contains ESCAPED b ≡ not (is_unreserved b)
contains_others b h = agree_below_at (contains ESCAPED) (λ b. not (is_unreserved b)) 128 b agrees h

-- an unreserved byte is ASCII
unreserved_is_ascii : (b : ℕ) → is_ascii b ≡ false → is_unreserved b ≡ false
unreserved_is_ascii b h = grind (arith, nat_tests)

below_ascii : (b : ℕ) → is_ascii b ≡ true → b < 128
below_ascii b h = grind (arith, nat_tests)

escapes_step : (t : Bool) (b : ℕ) → is_ascii b ≡ t → should_percent_encode ESCAPED b ≡ not (is_unreserved b)
unfolding should_percent_encode
escapes_step true b h = ap (λ t. not t || contains ESCAPED b) h ∙ contains_others b (below_ascii b h)
escapes_step false b h = ap (λ t. not t || contains ESCAPED b) h ∙ sym (ap not (unreserved_is_ascii b h))

-- a byte is escaped unless it is unreserved
pub escapes_others : (b : ℕ) → should_percent_encode ESCAPED b ≡ not (is_unreserved b)
escapes_others b = escapes_step (is_ascii b) b refl

cond-not : (t u : Bool) (x y : List ℕ) → t ≡ not u → cond t x y ≡ cond u y x
cond-not t true x y h = ap (λ b. cond b x y) h
cond-not t false x y h = ap (λ b. cond b x y) h

-- the constant set escapes bytes as keys do
pub percent_encode-escaped : (bytes : List ℕ) → percent_encode ESCAPED bytes ≡ flat_map escaped_byte bytes
unfolding percent_encode
percent_encode-escaped [] = refl
percent_encode-escaped (b ∷ bytes) =
    ap (λ rest. cond (should_percent_encode ESCAPED b) (percent_encode_byte b) (b ∷ []) ++ rest) (percent_encode-escaped bytes)
    ∙ ap (λ front. front ++ flat_map escaped_byte bytes) (cond-not (should_percent_encode ESCAPED b) (is_unreserved b) (percent_encode_byte b) (b ∷ []) (escapes_others b))
