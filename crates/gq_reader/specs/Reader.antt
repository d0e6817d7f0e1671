-- The messages of an input, one after another.
use Rattle.std.specs.Prelude.{◌≡◌, ◌⊎◌, ℕ, ◌<◌, ◌≤◌, List, [], ◌∷◌, ◌++◌, length, Bool, true, false, Option, Some, None}
use Rattle.std.specs.Io.KnownBytes.{Consumes}
use Rattle.gq_rpc.specs.Frames.{Cuts, scan_of, contents}
use Rattle.gq_rpc.specs.declared.header.Scan.TheVariants.{Partial}
use Rattle.gq_rpc.specs.declared.header.FrameFault.TheVariants as frame
use Rattle.gq_rpc.specs.declared.messages.Incoming.{Incoming}
use Rattle.gq_rpc.specs.Decoding.{message_of}
use Rattle.gq_reader.specs.declared.reader.Reader.{Reader}
use Rattle.gq_reader.specs.declared.reader.NoMore.{NoMore}
use Rattle.gq_reader.specs.declared.reader.Pending.{Pending}
use Rattle.gq_reader.specs.declared.reader.NoMore.TheVariants as no_more
use Rattle.gq_reader.specs.declared.fault.RunFault.{RunFault}
use Rattle.gq_reader.specs.declared.fault.RunFault.TheVariants as fault
use Rattle.gq_reader.specs.Reading.{SourceAfter, TellsEnd, IsFrameFault, piece_max}

-- how a reader stands: its source, the bytes that the framer holds, the bodies that were read and not given yet, why no more is
-- read, and the fault at which it ended
pub record View : Type 0 where
  pub source : SourceAfter
  pub framer : Option (List ℕ)
  pub bodies : List (List ℕ)
  pub no_more : Option NoMore
  pub told : Option RunFault

module _ {S : Type 0} (left : S → Option (List ℕ)) (ended failed : S → Bool) where
  abbrev pub seen : S → Pending → View
  seen input pending = record {
    source = record { left = left input; ended = ended input; failed = failed input };
    framer = pending.framer;
    bodies = contents pending.bodies.items;
    no_more = pending.no_more;
    told = pending.told;
  }

  abbrev pub seen_in : {F : Type 0} → Reader S F → View
  seen_in box = seen box.input.now box.pending.now

-- one of which nothing was read
abbrev pub unread : SourceAfter → View
unread source = record { source = source; framer = Some []; bodies = []; no_more = None; told = None }

abbrev pub with_bodies : View → List (List ℕ) → View
with_bodies v bodies = record { source = v.source; framer = v.framer; bodies = bodies; no_more = v.no_more; told = v.told }

abbrev pub with_told : View → Option RunFault → View
with_told v told = record { source = v.source; framer = v.framer; bodies = v.bodies; no_more = v.no_more; told = told }

-- more can be read: the source has not failed, and the framer holds less than a frame
pub record Holds (v : View) : Type 0 where
  pub held : List ℕ
  pub is_held : v.framer ≡ Some held
  pub partial : scan_of held ≡ Partial
  pub sound : v.source.failed ≡ false

abbrev pub Ready : View → Type 0
Ready v = v.no_more ≡ None → Holds v

-- why no more is read, with the rest behind the bodies
abbrev pub Finds : Option NoMore → List ℕ → SourceAfter → List (List ℕ) → Type 0
Finds None rest source bodies = (source.failed ≡ false) × (scan_of rest ≡ Partial)
Finds (Some no_more.End) rest source bodies = (source.failed ≡ false) × (bodies ≡ []) × (rest ≡ []) × TellsEnd source
Finds (Some (no_more.Fault (fault.Frame why))) rest source bodies = (source.failed ≡ false) × IsFrameFault why rest source
Finds (Some (no_more.Fault fault.Device)) rest source bodies = (source.failed ≡ true) × (bodies ≡ []) × (scan_of rest ≡ Partial)
Finds (Some (no_more.Fault fault.NoMemory)) rest source bodies = ⊥
Finds (Some (no_more.Fault fault.TooDeep)) rest source bodies = ⊥
Finds (Some (no_more.Fault fault.TooMany)) rest source bodies = ⊥
Finds (Some (no_more.Fault fault.Closed)) rest source bodies = ⊥
Finds (Some (no_more.Fault fault.NoPlace)) rest source bodies = ⊥
Finds (Some (no_more.Fault fault.NoThread)) rest source bodies = ⊥

-- the frames that a piece completes, behind what was held
pub record TakesFrames (held piece : List ℕ) (framer : Option (List ℕ)) (bodies : List (List ℕ)) (no_more : Option NoMore) : Type 0 where
  pub rest : List ℕ
  pub cuts : Cuts (held ++ piece) bodies rest
  pub finds : (source : SourceAfter) → source.failed ≡ false → Finds no_more rest source bodies
  pub holds : no_more ≡ None → framer ≡ Some rest

-- why no more is read where the source ends
abbrev pub end_in : Option (List ℕ) → NoMore
end_in None = no_more.Fault (fault.Frame frame.Failed)
end_in (Some []) = no_more.End
end_in (Some (b ∷ bytes)) = no_more.Fault (fault.Frame frame.Truncated)

-- one read, and the bodies that it completes
pub record ReadsOnce (a b : View) : Type 0 where
  pub held : List ℕ
  pub piece : List ℕ
  pub rest : List ℕ
  pub is_held : a.framer ≡ Some held
  pub took : Consumes a.source.left b.source.left piece
  pub short : length piece ≤ piece_max
  pub cuts : Cuts (held ++ piece) b.bodies rest
  pub finds : Finds b.no_more rest b.source b.bodies
  pub holds : b.no_more ≡ None → (b.framer ≡ Some rest) × (0 < length piece)
  pub same_told : b.told ≡ a.told

-- reads, of which none but the last completes a body or finds that there is no more
pub record ReadsOn (a b : View) : Type 0 where
  pub held : List ℕ
  pub earlier : List ℕ
  pub piece : List ℕ
  pub rest : List ℕ
  pub is_held : a.framer ≡ Some held
  pub took : Consumes a.source.left b.source.left (earlier ++ piece)
  pub short : length piece ≤ piece_max
  pub partial : scan_of (held ++ earlier) ≡ Partial
  pub cuts : Cuts ((held ++ earlier) ++ piece) b.bodies rest
  pub finds : Finds b.no_more rest b.source b.bodies
  pub holds : b.no_more ≡ None → b.framer ≡ Some rest
  pub same_told : b.told ≡ a.told

-- it reads only where it has no body and may read
abbrev pub Fills : View → View → Type 0
Fills a b = (b ≡ a) ⊎ ((a.bodies ≡ []) × (a.no_more ≡ None) × ReadsOn a b)

-- then it has a body, or knows why there is none
abbrev pub IsFull : View → Type 0
IsFull v = v.bodies ≡ [] → (why : NoMore) × (v.no_more ≡ Some why)

-- the fault for which no more is read, if it is one
abbrev pub fault_of : NoMore → Option RunFault
fault_of no_more.End = None
fault_of (no_more.Fault why) = Some why

-- a body was given, as a message
pub record GivesBody (a : View) (m : Incoming) (b : View) : Type 0 where
  pub body : List ℕ
  pub is : m ≡ message_of body
  pub fills : Fills a (with_bodies b (body ∷ b.bodies))

-- what is told where nothing is given: why no more is read, or that memory was refused for the first body
abbrev pub Tells : List (List ℕ) → Option NoMore → Option RunFault → Type 0
Tells [] no_more told = (why : NoMore) × (no_more ≡ Some why) × (told ≡ fault_of why)
Tells (body ∷ bodies) no_more told = told ≡ Some fault.NoMemory

-- nothing was given
pub record GivesNone (a b : View) : Type 0 where
  pub bodies : List (List ℕ)
  pub fills : Fills a (with_told (with_bodies b bodies) a.told)
  pub tells : Tells bodies b.no_more b.told

abbrev pub Gives : View → Option Incoming → View → Type 0
Gives a (Some m) b = GivesBody a m b
Gives a None b = GivesNone a b
