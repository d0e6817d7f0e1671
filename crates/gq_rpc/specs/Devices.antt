-- What a read and a write do to the bytes of a device, where those are known.
use Rattle.std.specs.Prelude.{◌≡◌, ℕ, zero, suc, ◌<◌, ◌≤◌, List, [], ◌++◌, length, take, Bool, true, false, Option, Some, None}
use Rattle.std.specs.Io.KnownBytes.{Consumes, Appends, IsAtEnd}
use Rattle.gq_rpc.specs.declared.devices.Reading.{Reading}
use Rattle.gq_rpc.specs.declared.devices.Reading.TheVariants.{Bytes, End, Failed}

-- a read gave bytes, told the end, or failed and took none
abbrev pub Took : Option (List ℕ) → Option (List ℕ) → Reading → List ℕ → Type 0
Took old new (Bytes n) buffer = (0 < n) × (n ≤ length buffer) × Consumes old new (take n buffer)
Took old new End buffer = Consumes old new [] × IsAtEnd new
Took old new Failed buffer = Consumes old new []

abbrev pub is_end : Reading → Bool
is_end (Bytes n) = false
is_end End = true
is_end Failed = false

abbrev pub is_failure : Reading → Bool
is_failure (Bytes n) = false
is_failure End = false
is_failure Failed = true

-- a write took some bytes from the front, or failed and took none
abbrev pub Put : Option (List ℕ) → Option (List ℕ) → Option ℕ → List ℕ → Type 0
Put old new (Some n) bytes = (0 < n) × (n ≤ length bytes) × Appends old new (take n bytes)
Put old new None bytes = Appends old new []

-- what a reader's answer says: an error is a failure, and no byte the end
abbrev pub reading_of : Option ℕ → Reading
reading_of None = Failed
reading_of (Some zero) = End
reading_of (Some (suc n)) = Bytes (suc n)

-- what a writer's answer says: an error is a failure, and so is no byte
abbrev pub count_of : Option ℕ → Option ℕ
count_of None = None
count_of (Some zero) = None
count_of (Some (suc n)) = Some (suc n)

-- The last call that was made of a device left it as it is now, and what is told is what that call answered. A body
-- that makes no call has nothing to show for it, since what a device gives is not known here.
pub record LastAnswer {D A : Type 0} (gives : D → Option ℕ → D → Type 0) (now : D) (says : Option ℕ → A) (told : A) : Type 0 where
  pub before : D
  pub answer : Option ℕ
  pub gave : gives before answer now
  pub is_told : told ≡ says answer

-- a front of the bytes was written, and what was left was not
pub record Sent (old new : Option (List ℕ)) (bytes : List ℕ) : Type 0 where
  pub front : List ℕ
  pub back : List ℕ
  pub whole : bytes ≡ front ++ back
  pub written : Appends old new front
