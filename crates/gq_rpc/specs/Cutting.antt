-- What cutting a stream into frames means.
use Rattle.std.specs.Prelude.{◌≡◌, ℕ, ◌≤◌, All, List, ◌++◌, length}
use Rattle.std.specs.List.{flat_map}
use Rattle.gq_rpc.specs.Frames.{max_body, scan_of, Cuts, frame}
use Rattle.gq_rpc.specs.declared.header.FrameFault.{FrameFault}
use Rattle.gq_rpc.specs.declared.header.Scan.{Scan}
use Rattle.gq_rpc.specs.declared.header.Scan.TheVariants.{Whole, Partial, Bad}

-- no whole frame stands there
abbrev pub IsNoFrame : Scan → Type 0
IsNoFrame (Whole start end) = ⊥
IsNoFrame Partial = Unit {0}
IsNoFrame (Bad fault) = Unit {0}

-- a stream is cut in one way, up to a rest that does not begin with a whole frame
abbrev pub HasOneCutting : Type 0
HasOneCutting =
    (text : List ℕ) (bodies others : List (List ℕ)) (rest left : List ℕ)
    → Cuts text bodies rest → IsNoFrame (scan_of rest) → Cuts text others left → IsNoFrame (scan_of left)
    → (bodies ≡ others) × (rest ≡ left)

-- frames that are written are cut back into their bodies, whatever follows them
abbrev pub FramesAreCutBack : Type 0
FramesAreCutBack = (bodies : List (List ℕ)) (more : List ℕ) → All (λ body. length body ≤ max_body) bodies → Cuts (flat_map frame bodies ++ more) bodies more

-- a fault stays when more bytes come
abbrev pub FaultsStay : Type 0
FaultsStay = (text more : List ℕ) (fault : FrameFault) → scan_of text ≡ Bad fault → scan_of (text ++ more) ≡ Bad fault
