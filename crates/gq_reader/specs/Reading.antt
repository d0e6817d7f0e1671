-- How an input and a folder stand after reading, and why no more is read.
use Rattle.std.specs.Prelude.{◌≡◌, ◌≢◌, ℕ, List, [], Bool, true, Option}
use Rattle.std.specs.Io.KnownBytes.{IsAtEnd}
use Rattle.gq_rpc.specs.Frames.{scan_of}
use Rattle.gq_rpc.specs.declared.header.Scan.TheVariants.{Partial, Bad}
use Rattle.gq_rpc.specs.declared.header.FrameFault.{FrameFault}
use Rattle.gq_rpc.specs.declared.header.FrameFault.TheVariants as frame

-- how a source stands after a run: the bytes that it has left, where they are known, and whether a read has told the
-- end, or has failed
pub record SourceAfter : Type 0 where
  pub left : Option (List ℕ)
  pub ended : Bool
  pub failed : Bool

-- how the files of the folder stand after it: whether a listing or a reading has failed, and whether a listing has found too many levels
pub record FilesAfter : Type 0 where
  pub failed : Bool
  pub too_deep : Bool

-- a read has told the end, and nothing is left
pub record TellsEnd (source : SourceAfter) : Type 0 where
  pub told : source.ended ≡ true
  pub nothing_left : IsAtEnd source.left

-- why no frame can be read from the rest: it begins with none, or the input ended inside one, or a growth was refused
abbrev pub IsFrameFault : FrameFault → List ℕ → SourceAfter → Type 0
IsFrameFault frame.BadHeader rest source = scan_of rest ≡ Bad frame.BadHeader
IsFrameFault frame.NoLength rest source = scan_of rest ≡ Bad frame.NoLength
IsFrameFault frame.TooLong rest source = scan_of rest ≡ Bad frame.TooLong
IsFrameFault frame.Truncated rest source = (rest ≢ []) × (scan_of rest ≡ Partial) × TellsEnd source
IsFrameFault frame.NoMemory rest source = Unit {0}
IsFrameFault frame.Failed rest source = ⊥

-- so many bytes one read gives, at most
abbrev pub piece_max : ℕ
piece_max = 16384
