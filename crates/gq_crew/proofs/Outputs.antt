-- Turns of what a run takes, and what is written of what they put out.
use Rattle.std.proofs.Common.{◌≡◌, ℕ, List, [], ◌∷◌, ◌++◌, Option, refl, ap, sym, ◌∙◌, append_assoc}
use Rattle.std.specs.Io.KnownBytes.{Appends}
use Rattle.gq_rpc.specs.Devices.{Sent}
use Rattle.gq_rpc.proofs.Sends.{Appends-trans}
use Rattle.gq_events.specs.declared.event.LoadedContent.{LoadedContent}
use Rattle.gq_events.specs.Rules.{Turn}
use Rattle.gq_events.specs.Machine.{start}
use Rattle.gq_reader.specs.Inputs.{Input, Body, File, event_of, load_of}
use Rattle.gq_crew.specs.Output.{AreTurnsOf, TurnsExist}
use Rattle.gq_events.proofs.Behind.{answered_all}
use Rattle.gq_crew.proofs.Alone.{quiet, quiet_of, quiet_fits}

pub turns_exist : TurnsExist
turns_exist inputs = (quiet inputs, quiet_of inputs, answered_all 0 (quiet inputs) (quiet_fits (start 0) inputs))

-- ---- lists of inputs

module _ {F : Type 0} (reads : F → List ℕ → LoadedContent → F → Type 0) where
  -- the turns of the first inputs, and the others
  pub record Parts (files : F) (first : List Input) (turns : List Turn) : Type 0 where
    pub front : List Turn
    pub back : List Turn
    pub whole : turns ≡ front ++ back
    pub are_turns : AreTurnsOf reads files first front

  body_part : (files : F) (body : List ℕ) (first : List Input) (turn : Turn) (turns : List Turn) → turn.event ≡ event_of body → Parts files first turns → Parts files (Body body ∷ first) (turn ∷ turns)
  body_part files body first turn turns is p = record { front = turn ∷ p.front; back = p.back; whole = ap (λ (l : List Turn). turn ∷ l) p.whole; are_turns = (is, p.are_turns) }

  file_part : (files : F) (key : List ℕ) (first : List Input) (turn : Turn) (turns : List Turn) (content : LoadedContent) → turn.event ≡ load_of key content → (mid : F) → reads files key content mid → Parts mid first turns
      → Parts files (File key ∷ first) (turn ∷ turns)
  file_part files key first turn turns content is mid read p = record { front = turn ∷ p.front; back = p.back; whole = ap (λ (l : List Turn). turn ∷ l) p.whole; are_turns = (content, is, mid, read, p.are_turns) }

  pub parts_of : (files : F) (first more : List Input) (turns : List Turn) → AreTurnsOf reads files (first ++ more) turns → Parts files first turns
  parts_of files [] more turns h = record { front = []; back = turns; whole = refl; are_turns = tt }
  parts_of files (input ∷ first) more [] h = absurd h
  parts_of files (Body body ∷ first) more (turn ∷ turns) h = body_part files body first turn turns h.0 (parts_of files first more turns h.1)
  parts_of files (File key ∷ first) more (turn ∷ turns) h = file_part files key first turn turns h.0 h.1 h.2 h.3 (parts_of h.2 first more turns h.4)

-- ---- a front of bytes

pub Sent-behind : (held mid last : Option (List ℕ)) (done bytes : List ℕ) → Appends held mid done → Sent mid last bytes → Sent held last (done ++ bytes)
Sent-behind held mid last done bytes written s = record {
  front = done ++ s.front;
  back = s.back;
  whole = ap (λ (t : List ℕ). done ++ t) s.whole ∙ sym (append_assoc done s.front s.back);
  written = Appends-trans held mid last done s.front written s.written;
}
