-- Reading on ends: each read that completes no body makes the beginning of a frame that is held longer.
use Rattle.std.proofs.Common.{◌≡◌, ◌<◌, ◌≤◌, ◌+◌, ◌-◌, ℕ, suc, List, [], ◌∷◌, length, Bool, true, false, cond, Option, Some, None, refl, arith}
use Rattle.std.specs.Prelude.{nat_lt, nat_le}
use Rattle.std.specs.Option.{option_map_or}
use Rattle.std.proofs.lemmas.Bool.Decides.{nat_tests}
use Rattle.gq_rpc.specs.Lines.{ended_lines, head_of}
use Rattle.gq_rpc.specs.Frames.{scan_of, with_head, max_header, max_body}
use Rattle.gq_rpc.specs.declared.header.FrameFault.TheVariants.{BadHeader, NoLength, TooLong}
use Rattle.gq_rpc.specs.declared.header.Head.{Head}
use Rattle.gq_rpc.specs.declared.header.Head.TheVariants as head
use Rattle.gq_rpc.specs.declared.header.Scan.TheVariants.{Whole, Partial, Bad}
use Rattle.gq_reader.specs.declared.reader.NoMore.{NoMore}
use Rattle.gq_reader.specs.Reader.{View}

-- the beginning of a frame is shorter
abbrev pub held_max : ℕ
held_max = 16781312

nat_lt-not : (a b : ℕ) → nat_lt a b ≡ false → b ≤ a
nat_lt-not a b h = grind (arith, nat_tests)

nat_le-not : (a b : ℕ) → nat_le a b ≡ false → b < a
nat_le-not a b h = grind (arith, nat_tests)

open_step : (t : Bool) (len : ℕ) → (t ≡ false → len ≤ max_header) → cond t (Bad BadHeader) Partial ≡ Partial → len < held_max
open_step true len h e = absurd (cc)
open_step false len h e = let short = h refl in omega arith

done_step : (t u v : Bool) (size n len : ℕ) → (t ≡ false → size ≤ max_header) → (u ≡ false → n ≤ max_body) → (v ≡ false → len < size + n)
    → cond t (Bad BadHeader) (cond u (Bad TooLong) (cond v (Whole size (size + n)) Partial)) ≡ Partial → len < held_max
done_step true u v size n len a b c e = absurd (cc)
done_step false true v size n len a b c e = absurd (cc)
done_step false false true size n len a b c e = absurd (cc)
done_step false false false size n len a b c e = let header = a refl in let body = b refl in let short = c refl in omega arith

none_step : (t : Bool) (len : ℕ) → cond t (Bad BadHeader) (Bad NoLength) ≡ Partial → len < held_max
none_step true len e = absurd (cc)
none_step false len e = absurd (cc)

head_short : (h : Head) (len : ℕ) → with_head h len ≡ Partial → len < held_max
head_short head.Open len e = open_step (nat_lt max_header len) len (nat_lt-not max_header len) e
head_short (head.Done size None) len e = none_step (nat_lt max_header size) len e
head_short (head.Done size (Some n)) len e =
    done_step (nat_lt max_header size) (nat_lt max_body n) (nat_le (size + n) len) size n len (nat_lt-not max_header size) (nat_lt-not max_body n) (nat_le-not (size + n) len) e
head_short head.Malformed len e = absurd (cc)

pub partial_short : (text : List ℕ) → scan_of text ≡ Partial → length text < held_max
partial_short text e = head_short (head_of 0 None (ended_lines text)) (length text) e

-- how much may still be read before there is a body, or no more to read
abbrev pub more_to_read : List (List ℕ) → Option NoMore → ℕ → ℕ
more_to_read [] None n = n
more_to_read [] (Some why) n = 0
more_to_read (body ∷ bodies) no_more n = 0

abbrev pub to_read : View → ℕ
to_read v = more_to_read v.bodies v.no_more (suc held_max - option_map_or length v.framer 0)
