-- A fault stays when more bytes come.
use Rattle.std.proofs.Common.{◌≡◌, ℕ, suc, ◌+◌, ◌<◌, ◌≤◌, List, [], ◌∷◌, ◌++◌, length, Bool, true, false, cond, Option, Some, None, refl, ap, sym, ◌∙◌, subst, arith, length-append}
use Rattle.std.specs.Prelude.{bytes_eq, nat_lt, nat_le}
use Rattle.std.proofs.lemmas.Bool.Decides.{nat_tests}
use Rattle.std.proofs.lemmas.Slice.Eq.{bytes_eq-Decides}
use Rattle.gq_rpc.specs.Lines.{ended_lines, onto, is_line_feed, head_of, known_after, field_of}
use Rattle.gq_rpc.specs.Frames.{scan_of, with_head, with_length, max_header, max_body}
use Rattle.gq_rpc.specs.Cutting.{FaultsStay}
use Rattle.gq_rpc.specs.declared.header.FrameFault.{FrameFault}
use Rattle.gq_rpc.specs.declared.header.FrameFault.TheVariants.{BadHeader, TooLong}
use Rattle.gq_rpc.specs.declared.header.Head.{Head}
use Rattle.gq_rpc.specs.declared.header.Head.TheVariants as head
use Rattle.gq_rpc.specs.declared.header.Scan.TheVariants.{Whole, Partial, Bad}
use Rattle.gq_rpc.proofs.Stable.{head_of-append, ended_lines-append, Known}

-- ---- lines, and what follows the last that has ended

-- how many bytes ended lines take
abbrev lines_len : List (List ℕ) → ℕ
lines_len [] = 0
lines_len (line ∷ lines) = length line + 1 + lines_len lines

-- the first line, if there is one, has at least so many bytes
abbrev FirstIsLong : ℕ → List (List ℕ) → Type 0
FirstIsLong n [] = Unit {0}
FirstIsLong n (line ∷ lines) = n ≤ length line

-- behind the lines that have ended stands the front of the next one
record Splits (text : List ℕ) (lines : List (List ℕ)) : Type 0 where
  tail : List ℕ
  whole : lines_len lines + length tail ≡ length text
  goes_on : (more : List ℕ) → ended_lines (text ++ more) ≡ lines ++ ended_lines (tail ++ more)
  long : (more : List ℕ) → FirstIsLong (length tail) (ended_lines (tail ++ more))

any_is_long : (lines : List (List ℕ)) → FirstIsLong 0 lines
any_is_long [] = tt
any_is_long (line ∷ lines) = omega arith

onto_is_long : (n b : ℕ) (lines : List (List ℕ)) → FirstIsLong n lines → FirstIsLong (suc n) (onto b lines)
onto_is_long n b [] h = tt
onto_is_long n b (line ∷ lines) h = omega arith

-- a byte that is no LF goes in front of the first line
onto_front : (b : ℕ) (text : List ℕ) → is_line_feed b ≡ false → ended_lines (b ∷ text) ≡ onto b (ended_lines text)
onto_front b text e = ap (λ t. cond t ([] ∷ ended_lines text) (onto b (ended_lines text))) e

splits_step : (t : Bool) (b : ℕ) (text : List ℕ) (lines : List (List ℕ)) → is_line_feed b ≡ t → Splits text lines → Splits (b ∷ text) (cond t ([] ∷ lines) (onto b lines))
splits_step true b text lines e s = record {
  tail = s.tail;
  whole = let w = s.whole in omega (arith, w);
  goes_on = λ more. ap (λ t. cond t ([] ∷ ended_lines (text ++ more)) (onto b (ended_lines (text ++ more)))) e ∙ ap (λ l. [] ∷ l) (s.goes_on more);
  long = s.long;
}
splits_step false b text [] e s = record {
  tail = b ∷ s.tail;
  whole = let w = s.whole in omega (arith, w);
  goes_on = λ more. onto_front b (text ++ more) e ∙ ap (onto b) (s.goes_on more) ∙ sym (onto_front b (s.tail ++ more) e);
  long = λ more. subst (FirstIsLong (suc (length s.tail))) (sym (onto_front b (s.tail ++ more) e)) (onto_is_long (length s.tail) b (ended_lines (s.tail ++ more)) (s.long more));
}
splits_step false b text (line ∷ lines) e s = record {
  tail = s.tail;
  whole = let w = s.whole in omega (arith, w);
  goes_on = λ more. onto_front b (text ++ more) e ∙ ap (onto b) (s.goes_on more);
  long = s.long;
}

splits : (text : List ℕ) → Splits text (ended_lines text)
splits [] = record { tail = []; whole = refl; goes_on = λ more. refl; long = λ more. any_is_long (ended_lines more) }
splits (b ∷ text) = splits_step (is_line_feed b) b text (ended_lines text) refl (splits text)

-- ---- header parts that have not ended

-- a header part that ends, ends behind so many bytes
abbrev IsBeyond : ℕ → Head → Type 0
IsBeyond n head.Open = Unit {0}
IsBeyond n (head.Done size found) = n < size
IsBeyond n head.Malformed = Unit {0}

beyond_step : (t : Bool) (n size : ℕ) (found : Option ℕ) (known : Option (Option ℕ)) (next : Option ℕ → Head)
    → (t ≡ true → n < size) → ((k : Option ℕ) → IsBeyond n (next k)) → IsBeyond n (cond t (head.Done size found) (Known known next))
beyond_step true n size found known next ends goes = ends refl
beyond_step false n size found None next ends goes = tt
beyond_step false n size found (Some k) next ends goes = goes k

ends_beyond : (lines : List (List ℕ)) (n size : ℕ) (found : Option ℕ) → n ≤ size → IsBeyond n (head_of size found lines)
ends_beyond [] n size found h = tt
ends_beyond (line ∷ lines) n size found h =
    beyond_step (bytes_eq line (13 ∷ [])) n (size + 2) found (known_after (field_of line) found) _ (λ _. omega arith)
    (λ k. ends_beyond lines n (size + (length line + 1)) k (omega arith))

short_line : (line : List ℕ) → bytes_eq line (13 ∷ []) ≡ true → length line ≡ 1
short_line line h = ap length ((bytes_eq-Decides line (13 ∷ [])).0 h)

long_beyond : (lines : List (List ℕ)) (n size : ℕ) (found : Option ℕ) → FirstIsLong n lines → IsBeyond (size + n) (head_of size found lines)
long_beyond [] n size found h = tt
long_beyond (line ∷ lines) n size found h =
    beyond_step (bytes_eq line (13 ∷ [])) (size + n) (size + 2) found (known_after (field_of line) found) _ (λ e. let one = short_line line e in omega arith)
    (λ k. ends_beyond lines (size + n) (size + (length line + 1)) k (omega arith))

-- an open header part goes on behind its lines
record GoesOn (lines : List (List ℕ)) (size : ℕ) (found : Option ℕ) : Type 0 where
  later : Option ℕ
  same : (more : List (List ℕ)) → head_of size found (lines ++ more) ≡ head_of (size + lines_len lines) later more

open_step : (t : Bool) (known : Option (Option ℕ)) (size : ℕ) (found : Option ℕ) (next : Option ℕ → Head) (P : Option ℕ → Type 0)
    → cond t (head.Done size found) (Known known next) ≡ head.Open → ((k : Option ℕ) → known ≡ Some k → t ≡ false → next k ≡ head.Open → P k)
    → (k : Option ℕ) × (known ≡ Some k) × (t ≡ false) × P k
open_step true known size found next P e h = absurd (cc)
open_step false None size found next P e h = absurd (cc)
open_step false (Some k) size found next P e h = (k, refl, refl, h k refl refl e)

open_goes_on : (lines : List (List ℕ)) (size : ℕ) (found : Option ℕ) → head_of size found lines ≡ head.Open → GoesOn lines size found
open_goes_on [] size found h = record { later = found; same = λ more. ap (λ n. head_of n found more) (omega arith) }
open_goes_on (line ∷ lines) size found h =
    let step = open_step (bytes_eq line (13 ∷ [])) (known_after (field_of line) found) (size + 2) found _ (λ k. GoesOn lines (size + (length line + 1)) k) h
    (λ k known not_last e. open_goes_on lines (size + (length line + 1)) k e) in
    record {
      later = step.3.later;
      same = λ more.
          ap (λ t. cond t (head.Done (size + 2) found) (Known (known_after (field_of line) found) (λ k. head_of (size + (length line + 1)) k (lines ++ more)))) step.2
          ∙ ap (λ known. Known known (λ k. head_of (size + (length line + 1)) k (lines ++ more))) step.1
          ∙ step.3.same more
          ∙ ap (λ n. head_of n step.3.later more) (omega arith);
    }

-- ---- bad header parts

malformed_step : (t : Bool) (size : ℕ) (found : Option ℕ) (known : Option (Option ℕ)) (next later : Option ℕ → Head)
    → ((k : Option ℕ) → next k ≡ head.Malformed → later k ≡ head.Malformed)
    → cond t (head.Done size found) (Known known next) ≡ head.Malformed → cond t (head.Done size found) (Known known later) ≡ head.Malformed
malformed_step true size found known next later h e = absurd (cc)
malformed_step false size found None next later h e = refl
malformed_step false size found (Some k) next later h e = h k e

malformed_stays : (lines more : List (List ℕ)) (size : ℕ) (found : Option ℕ) → head_of size found lines ≡ head.Malformed → head_of size found (lines ++ more) ≡ head.Malformed
malformed_stays [] more size found e = absurd (cc)
malformed_stays (line ∷ lines) more size found e =
    malformed_step (bytes_eq line (13 ∷ [])) (size + 2) found (known_after (field_of line) found) _ _
    (λ k. malformed_stays lines more (size + (length line + 1)) k) e

-- ---- scans

no_fault : (t : Bool) (size end : ℕ) (fault : FrameFault) → cond t (Whole size end) Partial ≡ Bad fault → ⊥
no_fault true size end fault h = cc
no_fault false size end fault h = cc

length_step : (t : Bool) (size n len more : ℕ) (fault : FrameFault) → cond t (Bad TooLong) (cond (nat_le (size + n) len) (Whole size (size + n)) Partial) ≡ Bad fault
    → cond t (Bad TooLong) (cond (nat_le (size + n) (len + more)) (Whole size (size + n)) Partial) ≡ Bad fault
length_step true size n len more fault h = h
length_step false size n len more fault h = absurd (no_fault (nat_le (size + n) len) size (size + n) fault h)

with_length-bad : (size : ℕ) (found : Option ℕ) (len more : ℕ) (fault : FrameFault) → with_length size found len ≡ Bad fault → with_length size found (len + more) ≡ Bad fault
with_length-bad size None len more fault h = h
with_length-bad size (Some n) len more fault h = length_step (nat_lt max_body n) size n len more fault h

done_step : (t : Bool) (size : ℕ) (found : Option ℕ) (len more : ℕ) (fault : FrameFault) → cond t (Bad BadHeader) (with_length size found len) ≡ Bad fault
    → cond t (Bad BadHeader) (with_length size found (len + more)) ≡ Bad fault
done_step true size found len more fault h = h
done_step false size found len more fault h = with_length-bad size found len more fault h

beyond_is_bad : (h : Head) (n len : ℕ) → max_header < n → n ≤ len → IsBeyond n h → with_head h len ≡ Bad BadHeader
beyond_is_bad head.Open n len much within beyond =
    let long : nat_lt max_header len ≡ true = grind (arith, nat_tests) in
    ap (λ t. cond t (Bad BadHeader) Partial) long
beyond_is_bad (head.Done size found) n len much within beyond =
    let long : nat_lt max_header size ≡ true = grind (arith, nat_tests) in
    ap (λ t. cond t (Bad BadHeader) (with_length size found len)) long
beyond_is_bad head.Malformed n len much within beyond = refl

open_bad : (t : Bool) (fault : FrameFault) → cond t (Bad BadHeader) Partial ≡ Bad fault → (t ≡ true) × (Bad BadHeader ≡ Bad fault)
open_bad true fault h = (refl, h)
open_bad false fault h = absurd (cc)

is_more : (n len : ℕ) → nat_lt n len ≡ true → n < len
is_more n len h = grind (arith, nat_tests)

-- an open header part ends behind all of the text
open_beyond : (text more : List ℕ) → head_of 0 None (ended_lines text) ≡ head.Open → IsBeyond (length text) (head_of 0 None (ended_lines (text ++ more)))
open_beyond text more e =
    let parts = splits text in
    let on = open_goes_on (ended_lines text) 0 None e in
    let same = ap (head_of 0 None) (parts.goes_on more) ∙ on.same (ended_lines (parts.tail ++ more)) in
    let size : 0 + lines_len (ended_lines text) + length parts.tail ≡ length text = let w = parts.whole in omega (arith, w) in
    let beyond = long_beyond (ended_lines (parts.tail ++ more)) (length parts.tail) (0 + lines_len (ended_lines text)) on.later (parts.long more) in
    subst (IsBeyond (length text)) (sym same) (subst (λ n. IsBeyond n (head_of (0 + lines_len (ended_lines text)) on.later (ended_lines (parts.tail ++ more)))) size beyond)

stays : (h : Head) (text more : List ℕ) (fault : FrameFault) → head_of 0 None (ended_lines text) ≡ h → with_head h (length text) ≡ Bad fault → scan_of (text ++ more) ≡ Bad fault
stays head.Open text more fault e bad =
    let known = open_bad (nat_lt max_header (length text)) fault bad in
    beyond_is_bad (head_of 0 None (ended_lines (text ++ more))) (length text) (length (text ++ more)) (is_more max_header (length text) known.0)
    (omega (arith, length-append text more)) (open_beyond text more e)
    ∙ known.1
stays (head.Done size found) text more fault e bad =
    let lines = ended_lines-append text more in
    ap (λ d. with_head d (length (text ++ more))) (ap (head_of 0 None) lines.whole ∙ head_of-append (ended_lines text) lines.more 0 size None found e)
    ∙ ap (with_head (head.Done size found)) (length-append text more)
    ∙ done_step (nat_lt max_header size) size found (length text) (length more) fault bad
stays head.Malformed text more fault e bad =
    let lines = ended_lines-append text more in
    ap (λ d. with_head d (length (text ++ more))) (ap (head_of 0 None) lines.whole ∙ malformed_stays (ended_lines text) lines.more 0 None e) ∙ bad

pub faults_stay : FaultsStay
faults_stay text more fault h = stays (head_of 0 None (ended_lines text)) text more fault refl h
