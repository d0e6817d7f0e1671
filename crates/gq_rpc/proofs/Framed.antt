-- Frames that are written are cut back.
use Rattle.std.proofs.Common.{◌≡◌, ℕ, suc, ◌+◌, ◌-◌, ◌^◌, ◌<◌, ◌≤◌, min, List, [], ◌∷◌, ◌++◌, length, take, drop, true, false, not, ◌&&◌, cond, Option, Some, None, refl, ap, sym, ◌∙◌, subst, arith, append_assoc, length-append, add-one}
use Rattle.std.specs.Prelude.{codes, decimal, nat_lt, nat_le, option_map, unwrap_or, slice_index, slice_range, ◌==◌}
use Rattle.std.specs.Char.{digit_value, is_ascii_digit}
use Rattle.std.specs.List.{flat_map, list_all, position_or_len}
use Rattle.std.specs.Str.Parse.{AllDigits, digits_value}
use Rattle.std.proofs.Math.Seq.{drop-append_seam, drop-append-add, drop-length, take-append_seam, take-length, get_or-append_seam}
use Rattle.std.proofs.lemmas.Bool.Decides.{nat_tests}
use Rattle.std.proofs.lemmas.Fmt.{decimal_is_IsNumeral, length-decimal-le}
use Rattle.std.proofs.lemmas.Str.Parse.{digit_from_value}
use Rattle.gq_rpc.specs.Lines.{is_line_feed, is_no_space, onto, ended_lines, length_cap, length_in, length_field, field_in, field_of, known_after, head_of}
use Rattle.gq_rpc.specs.Frames.{max_header, max_body, with_head, scan_of, Cuts, frame}
use Rattle.gq_rpc.specs.Cutting.{FramesAreCutBack}
use Rattle.gq_rpc.specs.declared.header.Field.TheVariants.{Length, Malformed}
use Rattle.gq_rpc.specs.declared.header.FrameFault.TheVariants.{BadHeader, TooLong}
use Rattle.gq_rpc.specs.declared.header.Head.TheVariants as head
use Rattle.gq_rpc.specs.declared.header.Scan.TheVariants.{Whole, Partial, Bad}
use Rattle.gq_rpc.proofs.Streams.{Cuts-trans}

-- ---- the lines of the header part

digit_is_no_feed : (d : ℕ) → digit_value d < 10 → is_line_feed d ≡ false
digit_is_no_feed d h = let range = digit_from_value d h in grind (arith, nat_tests)

-- digits, CR and LF end a line
digits_line : (ds rest : List ℕ) → AllDigits 10 ds → ended_lines (ds ++ 13 ∷ 10 ∷ rest) ≡ (ds ++ 13 ∷ []) ∷ ended_lines rest
digits_line [] rest h = refl
digits_line (d ∷ ds) rest h =
    ap (λ t. cond t ([] ∷ ended_lines (ds ++ 13 ∷ 10 ∷ rest)) (onto d (ended_lines (ds ++ 13 ∷ 10 ∷ rest)))) (digit_is_no_feed d h.0)
    ∙ ap (onto d) (digits_line ds rest h.1)

-- a text in front of an unfinished line
abbrev all_onto : List ℕ → List (List ℕ) → List (List ℕ)
all_onto [] lines = lines
all_onto (b ∷ bs) lines = onto b (all_onto bs lines)

-- the one field of a header part that is written
abbrev written_field : ℕ → List ℕ
written_field n = codes "Content-Length: " ++ decimal n

written_lines : (ds rest : List ℕ) → AllDigits 10 ds
    → ended_lines (((codes "Content-Length: " ++ ds) ++ codes "\r\n\r\n") ++ rest) ≡ ((codes "Content-Length: " ++ ds) ++ 13 ∷ []) ∷ (13 ∷ []) ∷ ended_lines rest
written_lines ds rest h =
    ap (λ t. all_onto (codes "Content-Length: ") (ended_lines t)) (append_assoc ds (codes "\r\n\r\n") rest)
    ∙ ap (all_onto (codes "Content-Length: ")) (digits_line ds (13 ∷ 10 ∷ rest) h)

-- ---- the length that its field gives

digits_are_no_spaces : (ds : List ℕ) → AllDigits 10 ds → position_or_len is_no_space ds ≡ 0
digits_are_no_spaces [] h = refl
digits_are_no_spaces (d ∷ ds) h =
    let range = digit_from_value d h.0 in
    let digit : not (is_no_space d) ≡ false = grind (arith, nat_tests) in
    ap (λ t. cond t (1 + position_or_len is_no_space ds) 0) digit

digits_count : (ds : List ℕ) → AllDigits 10 ds → position_or_len (λ b. not (is_ascii_digit b)) ds ≡ length ds
digits_count [] h = refl
digits_count (d ∷ ds) h =
    let range = digit_from_value d h.0 in
    let digit : not (not (is_ascii_digit d)) ≡ true = grind (arith, nat_tests) in
    let count = digits_count ds h.1 in
    ap (λ t. cond t (1 + position_or_len (λ b. not (is_ascii_digit b)) ds) 0) digit ∙ omega (arith, count)

-- the number of the first digits, where only spaces follow them
abbrev number_at : List ℕ → ℕ → Option ℕ
number_at digits count = cond (nat_lt 0 count && list_all (λ b. b == 32) (drop count digits)) (Some (min (digits_value 10 (take count digits)) length_cap)) None

number_at_end : (ds : List ℕ) → 0 < length ds → number_at ds (length ds) ≡ Some (min (digits_value 10 ds) length_cap)
number_at_end ds h =
    let some : nat_lt 0 (length ds) ≡ true = grind (arith, nat_tests) in
    ap (λ t. cond (t && list_all (λ b. b == 32) (drop (length ds) ds)) (Some (min (digits_value 10 (take (length ds) ds)) length_cap)) None) some
    ∙ ap (λ rest. cond (list_all (λ b. b == 32) rest) (Some (min (digits_value 10 (take (length ds) ds)) length_cap)) None) (drop-length ds)
    ∙ ap (λ front. Some (min (digits_value 10 front) length_cap)) (take-length ds)

length_in-digits : (ds : List ℕ) → 0 < length ds → AllDigits 10 ds → length_in (32 ∷ ds) ≡ Some (min (digits_value 10 ds) length_cap)
length_in-digits ds some h =
    ap (λ p. let digits = drop (1 + p) (32 ∷ ds) in number_at digits (position_or_len (λ b. not (is_ascii_digit b)) digits)) (digits_are_no_spaces ds h)
    ∙ ap (number_at ds) (digits_count ds h)
    ∙ number_at_end ds some

-- the field without its CR
field_in-written : (ds : List ℕ) → field_in (codes "Content-Length: " ++ ds) ≡ length_field (length_in (32 ∷ ds))
field_in-written ds =
    let long : nat_lt 14 (length (codes "Content-Length: " ++ ds)) ≡ true = grind (arith, nat_tests) in
    ap (λ t. cond t (length_field (length_in (32 ∷ ds))) Malformed) long

-- a line without its CR
field_of-line : (line : List ℕ) → field_of (line ++ 13 ∷ []) ≡ field_in line
field_of-line line =
    let whole : List ℕ = line ++ 13 ∷ [] in
    let len : length whole ≡ suc (length line) = length-append line (13 ∷ []) ∙ add-one (length line) in
    let some : nat_lt 0 (suc (length line)) ≡ true = grind (arith, nat_tests) in
    let less : suc (length line) - 1 ≡ length line = omega arith in
    let last : slice_index whole (suc (length line) - 1) ≡ 13 = ap (slice_index whole) less ∙ get_or-append_seam line 13 [] 0 in
    ap (λ n. cond (nat_lt 0 n && slice_index whole (n - 1) == 13) (field_in (take (n - 1) whole)) Malformed) len
    ∙ ap (λ t. cond (t && slice_index whole (suc (length line) - 1) == 13) (field_in (take (suc (length line) - 1) whole)) Malformed) some
    ∙ ap (λ b. cond (b == 13) (field_in (take (suc (length line) - 1) whole)) Malformed) last
    ∙ ap field_in (ap (λ n. take n whole) less ∙ take-append_seam line (13 ∷ []))

field_of-written : (n : ℕ) → n ≤ max_body → field_of (written_field n ++ 13 ∷ []) ≡ Length n
field_of-written n h =
    let small : n < 2 ^ 64 = omega arith in
    let numeral = decimal_is_IsNumeral n small in
    field_of-line (written_field n) ∙ field_in-written (decimal n)
    ∙ ap length_field (length_in-digits (decimal n) numeral.0.0 numeral.0.1)
    ∙ ap (λ k. Length (min k length_cap)) numeral.1
    ∙ ap Length (omega arith)

-- ---- the frame

-- the header part of a body of n bytes
abbrev header : ℕ → List ℕ
header n = written_field n ++ codes "\r\n\r\n"

header_len : (n : ℕ) → 0 + (length (written_field n ++ 13 ∷ []) + 1) + 2 ≡ length (header n)
header_len n = omega (arith, length-append (written_field n) (13 ∷ []), length-append (written_field n) (codes "\r\n\r\n"))

header_fits : (n : ℕ) → n ≤ max_body → length (header n) ≤ max_header
header_fits n h =
    let small : n < 2 ^ 64 = omega arith in
    let few : n < 10 ^ 8 = omega arith in
    let digits = length-decimal-le 8 n (omega arith) few small in
    omega (arith, length-append (written_field n) (codes "\r\n\r\n"), digits)

head_of-written : (n : ℕ) (rest : List ℕ) → n ≤ max_body → head_of 0 None (ended_lines (header n ++ rest)) ≡ head.Done (length (header n)) (Some n)
head_of-written n rest h =
    let small : n < 2 ^ 64 = omega arith in
    let numeral = decimal_is_IsNumeral n small in
    ap (head_of 0 None) (written_lines (decimal n) rest numeral.0.1)
    ∙ ap (λ f. unwrap_or (option_map (λ known. head_of (0 + (length (written_field n ++ 13 ∷ []) + 1)) known ((13 ∷ []) ∷ ended_lines rest)) (known_after f None)) head.Malformed)
    (field_of-written n h)
    ∙ ap (λ size. head.Done size (Some n)) (header_len n)

with_head-fits : (size n len : ℕ) → size ≤ max_header → n ≤ max_body → size + n ≤ len → with_head (head.Done size (Some n)) len ≡ Whole size (size + n)
with_head-fits size n len a b c =
    let short : nat_lt max_header size ≡ false = grind (arith, nat_tests) in
    let small : nat_lt max_body n ≡ false = grind (arith, nat_tests) in
    let there : nat_le (size + n) len ≡ true = grind (arith, nat_tests) in
    ap (λ t. cond t (Bad BadHeader) (cond (nat_lt max_body n) (Bad TooLong) (cond (nat_le (size + n) len) (Whole size (size + n)) Partial))) short
    ∙ ap (λ t. cond t (Bad TooLong) (cond (nat_le (size + n) len) (Whole size (size + n)) Partial)) small
    ∙ ap (λ t. cond t (Whole size (size + n)) Partial) there

scan_of-written : (body more : List ℕ) → length body ≤ max_body
    → scan_of (frame body ++ more) ≡ Whole (length (header (length body))) (length (header (length body)) + length body)
scan_of-written body more h =
    let front = header (length body) in
    let room : length front + length body ≤ length (front ++ (body ++ more)) = omega (arith, length-append front (body ++ more), length-append body more) in
    ap scan_of (append_assoc front body more)
    ∙ ap (λ d. with_head d (length (front ++ (body ++ more)))) (head_of-written (length body) (body ++ more) h)
    ∙ with_head-fits (length front) (length body) (length (front ++ (body ++ more))) (header_fits (length body) h) h room

-- a frame that is written is cut back, whatever follows it
pub Cuts-frame : (body more : List ℕ) → length body ≤ max_body → Cuts (frame body ++ more) (body ∷ []) more
Cuts-frame body more h =
    let front = header (length body) in
    let text : frame body ++ more ≡ front ++ (body ++ more) = append_assoc front body more in
    let less : length front + length body - length front ≡ length body = omega arith in (
      length front,
      length front + length body,
      scan_of-written body more h,
      sym (
          ap (λ t. slice_range t (length front) (length front + length body)) text
          ∙ ap (λ n. take n (drop (length front) (front ++ (body ++ more)))) less
          ∙ ap (take (length body)) (drop-append_seam front (body ++ more))
          ∙ take-append_seam body more
          ),
      ap (drop (length front + length body)) text ∙ drop-append-add front (body ++ more) (length body) ∙ drop-append_seam body more,
    )

-- so are frames one after another
pub frames_cut_back : FramesAreCutBack
frames_cut_back [] more h = refl
frames_cut_back (body ∷ bodies) more h =
    let later = flat_map frame bodies ++ more in
    subst (λ t. Cuts t (body ∷ bodies) more) (sym (append_assoc (frame body) (flat_map frame bodies) more))
    (Cuts-trans (frame body ++ later) (body ∷ []) later bodies more
    (Cuts-frame body later (h 0 body (omega arith)))
    (frames_cut_back bodies more (λ k d within. h (suc k) d (omega arith))))
