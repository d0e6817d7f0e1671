-- The frames in a stream of bytes.
use Rattle.std.specs.Prelude.{◌≡◌, codes, decimal, ℕ, ◌+◌, ◌<◌, ◌≤◌, ◌⊎◌, map, Vec, Result, Ok, Err, MatchResult, OnOk, List, [], ◌∷◌, ◌++◌, length, drop, nat_lt, nat_le, Option, Some, None, slice_range, if◌then◌else◌}
use Rattle.std.specs.declared.alloc.Global.{Global}
use Rattle.gq_rpc.specs.Lines.{ended_lines, head_of}
use Rattle.gq_rpc.specs.declared.header.Head.{Head}
use Rattle.gq_rpc.specs.declared.header.Head.TheVariants as head
use Rattle.gq_rpc.specs.declared.header.FrameFault.{FrameFault}
use Rattle.gq_rpc.specs.declared.header.FrameFault.TheVariants.{BadHeader, NoLength, TooLong, NoMemory, Failed, Truncated}
use Rattle.gq_rpc.specs.declared.header.Scan.{Scan}
use Rattle.gq_rpc.specs.declared.header.Scan.TheVariants.{Whole, Partial, Bad}

-- a body in its frame, as it is written
abbrev pub frame : List ℕ → List ℕ
frame body = codes "Content-Length: " ++ decimal (length body) ++ codes "\r\n\r\n" ++ body

abbrev pub max_header : ℕ
max_header = 4096

abbrev pub max_body : ℕ
max_body = 16777216

-- a header part of `size` bytes that gives this length, at the front of `len` bytes
abbrev pub with_length : ℕ → Option ℕ → ℕ → Scan
with_length size None len = Bad NoLength
with_length size (Some n) len = if nat_lt max_body n then Bad TooLong else (if nat_le (size + n) len then Whole size (size + n) else Partial)

abbrev pub with_head : Head → ℕ → Scan
with_head head.Malformed len = Bad BadHeader
with_head head.Open len = if nat_lt max_header len then Bad BadHeader else Partial
with_head (head.Done size found) len = if nat_lt max_header size then Bad BadHeader else with_length size found len

-- what stands at the front of a text: a whole frame, less than one, or none
abbrev pub scan_of : List ℕ → Scan
scan_of text = with_head (head_of 0 None (ended_lines text)) (length text)

-- the text is the frames of these bodies, one after another, and then the rest
abbrev pub Cuts : List ℕ → List (List ℕ) → List ℕ → Type 0
Cuts text [] rest = text ≡ rest
Cuts text (body ∷ bodies) rest = (start : ℕ) × (end : ℕ) × (scan_of text ≡ Whole start end) × (body ≡ slice_range text start end) × Cuts (drop end text) bodies rest

-- where a whole frame lies
abbrev pub IsWithin : Scan → ℕ → Type 0
IsWithin (Whole start end) len = (0 < start) × (start ≤ end) × (end ≤ len)
IsWithin Partial len = Unit {0}
IsWithin (Bad fault) len = Unit {0}

-- the contents of vectors
abbrev pub contents : List (Vec ℕ Global) → List (List ℕ)
contents vectors = map (λ v. v.items) vectors

-- the bodies that were added are those at the front of the text, and this is the rest
pub record Reads (text : List ℕ) (old new : List (List ℕ)) (rest : List ℕ) : Type 0 where
  pub bodies : List (List ℕ)
  pub added : new ≡ old ++ bodies
  pub cuts : Cuts text bodies rest

-- why reading stopped here
abbrev pub Stops : Result (Unit {0}) FrameFault → List ℕ → Type 0
Stops (Ok u) rest = scan_of rest ≡ Partial
Stops (Err fault) rest = (scan_of rest ≡ Bad fault) ⊎ (fault ≡ NoMemory)

-- a framer that held these bytes took a piece: what it then holds is what follows the frames, and after a fault it has failed
pub record Feeds (held piece : List ℕ) (old new : List (List ℕ)) (result : Result (Unit {0}) FrameFault) (after : Option (List ℕ)) : Type 0 where
  pub rest : List ℕ
  pub reads : Reads (held ++ piece) old new rest
  pub stops : Stops result rest
  pub holds : MatchResult result (λ _. after ≡ Some rest) (λ _. after ≡ None)

-- the same, where the bytes that are held after a fault do not matter
pub record FeedsVec (held piece : List ℕ) (old new : List (List ℕ)) (result : Result (Unit {0}) FrameFault) (after : List ℕ) : Type 0 where
  pub rest : List ℕ
  pub reads : Reads (held ++ piece) old new rest
  pub stops : Stops result rest
  pub holds : OnOk result (after ≡ rest)

-- what a framer answers at the end of the input
abbrev pub end_of : Option (List ℕ) → Result (Unit {0}) FrameFault
end_of None = Err Failed
end_of (Some []) = Ok tt
end_of (Some (b ∷ bytes)) = Err Truncated

-- and what it holds afterwards: where it told a fault it has failed
abbrev pub ended : Option (List ℕ) → Option (List ℕ)
ended None = None
ended (Some []) = Some []
ended (Some (b ∷ bytes)) = None
