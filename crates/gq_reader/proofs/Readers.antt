-- What a reader has read and given, step after step.
use Rattle.std.proofs.Common.{◌≡◌, inl, inr, ℕ, ◌≤◌, List, [], ◌∷◌, ◌++◌, length, false, Option, Some, None, ap, sym, refl, ◌∙◌, subst, append-nil, append_assoc, arith}
use Rattle.std.specs.Iterator.{Yields}
use Rattle.std.specs.Io.KnownBytes.{Consumes}
use Rattle.gq_rpc.specs.Frames.{Cuts, scan_of}
use Rattle.gq_rpc.specs.declared.header.Scan.TheVariants.{Partial}
use Rattle.gq_rpc.proofs.Sends.{Consumes-nil, Consumes-trans}
use Rattle.gq_rpc.proofs.Stable.{Cuts-append, Cuts-feed}
use Rattle.gq_rpc.specs.declared.messages.Incoming.{Incoming}
use Rattle.gq_reader.specs.declared.reader.NoMore.{NoMore}
use Rattle.gq_reader.specs.declared.reader.NoMore.TheVariants as no_more
use Rattle.gq_reader.specs.declared.fault.RunFault.TheVariants as fault
use Rattle.gq_reader.specs.Reading.{SourceAfter, piece_max}
use Rattle.gq_reader.specs.Reader.{View, with_bodies, Finds, ReadsOn, Fills, GivesBody}
use Rattle.gq_reader.proofs.Reading.{same_text}

-- ---- steps

-- the last of the steps
pub last_step : {X A : Type 0} (steps : X → Option A → X → Type 0) (a : X) (front : List A) (x : A) (b : X) → Yields steps a (front ++ x ∷ []) b → (mid : X) × Yields steps a front mid × steps mid (Some x) b
last_step steps a [] x b h = (a, refl, subst (λ t. steps a (Some x) t) h.2 h.1)
last_step steps a (y ∷ front) x b h = let r = last_step steps h.0 front x b h.2 in (r.0, (h.0, h.1, r.1), r.2)

-- ---- what was read, and the bodies in it

-- The bodies that were given, and those behind them: all stand in the bytes read, and those that stand in all reads but the last
-- one were given.
pub record Stands (start left : Option (List ℕ)) (given behind : List (List ℕ)) (rest : List ℕ) : Type 0 where
  pub earlier : List ℕ
  pub piece : List ℕ
  pub early : List (List ℕ)
  pub later : List (List ℕ)
  pub early_rest : List ℕ
  pub took : Consumes start left (earlier ++ piece)
  pub short : length piece ≤ piece_max
  pub early_cuts : Cuts earlier early early_rest
  pub partial : scan_of early_rest ≡ Partial
  pub begins : given ≡ early ++ later
  pub cuts : Cuts (earlier ++ piece) (given ++ behind) rest

-- the same, of a reader
pub record At (start : Option (List ℕ)) (given : List (List ℕ)) (v : View) : Type 0 where
  pub rest : List ℕ
  pub stands : Stands start v.source.left given v.bodies rest
  pub finds : Finds v.no_more rest v.source v.bodies
  pub holds : v.no_more ≡ None → v.framer ≡ Some rest
  pub untold : v.told ≡ None

pub At-start : (source : SourceAfter) → source.failed ≡ false → At source.left [] (record { source = source; framer = Some []; bodies = []; no_more = None; told = None })
At-start source sound = record {
  rest = [];
  stands = record {
    earlier = [];
    piece = [];
    early = [];
    later = [];
    early_rest = [];
    took = Consumes-nil source.left;
    short = omega arith;
    early_cuts = refl;
    partial = refl;
    begins = refl;
    cuts = refl;
  };
  finds = (sound, refl);
  holds = λ none. refl;
  untold = refl;
}

-- reads on
At-reads : (start : Option (List ℕ)) (given : List (List ℕ)) (v w : View) → At start given v → v.bodies ≡ [] → v.no_more ≡ None → ReadsOn v w → At start given w
At-reads start given v w at empty none r =
    let st = at.stands in
    let before = st.earlier ++ st.piece in
    let same : r.held ≡ at.rest = same_text r.held at.rest v.framer r.is_held (at.holds none) in
    let given_cuts : Cuts before given at.rest = subst (λ (b : List (List ℕ)). Cuts before b at.rest) (ap (λ (b : List (List ℕ)). given ++ b) empty ∙ append-nil given) st.cuts in
    let early_cuts : Cuts (before ++ r.earlier) given (at.rest ++ r.earlier) = Cuts-append before given at.rest r.earlier given_cuts in
    let took : Consumes start w.source.left (before ++ (r.earlier ++ r.piece)) = Consumes-trans start v.source.left w.source.left before (r.earlier ++ r.piece) st.took r.took in
    let piece_cuts : Cuts ((at.rest ++ r.earlier) ++ r.piece) w.bodies r.rest = subst (λ (t : List ℕ). Cuts ((t ++ r.earlier) ++ r.piece) w.bodies r.rest) same r.cuts in
    record {
      rest = r.rest;
      stands = record {
        earlier = before ++ r.earlier;
        piece = r.piece;
        early = given;
        later = [];
        early_rest = at.rest ++ r.earlier;
        took = subst (Consumes start w.source.left) (sym (append_assoc before r.earlier r.piece)) took;
        short = r.short;
        early_cuts = early_cuts;
        partial = ap (λ (t : List ℕ). scan_of (t ++ r.earlier)) (sym same) ∙ r.partial;
        begins = sym (append-nil given);
        cuts = Cuts-feed (before ++ r.earlier) given (at.rest ++ r.earlier) r.piece w.bodies r.rest early_cuts piece_cuts;
      };
      finds = r.finds;
      holds = r.holds;
      untold = r.same_told ∙ at.untold;
    }

pub At-fills : (start : Option (List ℕ)) (given : List (List ℕ)) (v w : View) → At start given v → Fills v w → At start given w
At-fills start given v w at (inl same) = subst (At start given) (sym same) at
At-fills start given v w at (inr (empty, none, r)) = At-reads start given v w at empty none r

-- with a body in it, the source has not failed
pub not_failed : (no_more : Option NoMore) (rest : List ℕ) (source : SourceAfter) (body : List ℕ) (bodies : List (List ℕ)) → Finds no_more rest source (body ∷ bodies) → source.failed ≡ false
not_failed None rest source body bodies f = f.0
not_failed (Some no_more.End) rest source body bodies f = f.0
not_failed (Some (no_more.Fault (fault.Frame why))) rest source body bodies f = f.0
not_failed (Some (no_more.Fault fault.Device)) rest source body bodies f = let bad = f.1 in absurd (cc)
not_failed (Some (no_more.Fault fault.NoMemory)) rest source body bodies f = absurd f
not_failed (Some (no_more.Fault fault.TooDeep)) rest source body bodies f = absurd f
not_failed (Some (no_more.Fault fault.TooMany)) rest source body bodies f = absurd f
not_failed (Some (no_more.Fault fault.Closed)) rest source body bodies f = absurd f
not_failed (Some (no_more.Fault fault.NoPlace)) rest source body bodies f = absurd f
not_failed (Some (no_more.Fault fault.NoThread)) rest source body bodies f = absurd f

-- and the same is found behind the others
finds_behind : (no_more : Option NoMore) (rest : List ℕ) (source : SourceAfter) (body : List ℕ) (bodies : List (List ℕ)) → Finds no_more rest source (body ∷ bodies) → Finds no_more rest source bodies
finds_behind None rest source body bodies f = f
finds_behind (Some no_more.End) rest source body bodies f = let bad = f.1 in absurd (cc)
finds_behind (Some (no_more.Fault (fault.Frame why))) rest source body bodies f = f
finds_behind (Some (no_more.Fault fault.Device)) rest source body bodies f = let bad = f.1 in absurd (cc)
finds_behind (Some (no_more.Fault fault.NoMemory)) rest source body bodies f = absurd f
finds_behind (Some (no_more.Fault fault.TooDeep)) rest source body bodies f = absurd f
finds_behind (Some (no_more.Fault fault.TooMany)) rest source body bodies f = absurd f
finds_behind (Some (no_more.Fault fault.Closed)) rest source body bodies f = absurd f
finds_behind (Some (no_more.Fault fault.NoPlace)) rest source body bodies f = absurd f
finds_behind (Some (no_more.Fault fault.NoThread)) rest source body bodies f = absurd f

-- the first of those behind is given too
pub At-given : (start : Option (List ℕ)) (given : List (List ℕ)) (body : List ℕ) (v : View) → At start given (with_bodies v (body ∷ v.bodies)) → At start (given ++ body ∷ []) v
At-given start given body v at =
    let st = at.stands in
    record {
      rest = at.rest;
      stands = record {
        earlier = st.earlier;
        piece = st.piece;
        early = st.early;
        later = st.later ++ body ∷ [];
        early_rest = st.early_rest;
        took = st.took;
        short = st.short;
        early_cuts = st.early_cuts;
        partial = st.partial;
        begins = ap (λ (b : List (List ℕ)). b ++ body ∷ []) st.begins ∙ append_assoc st.early st.later (body ∷ []);
        cuts = subst (λ (b : List (List ℕ)). Cuts (st.earlier ++ st.piece) b at.rest) (sym (append_assoc given (body ∷ []) v.bodies)) st.cuts;
      };
      finds = finds_behind v.no_more at.rest v.source body v.bodies at.finds;
      holds = at.holds;
      untold = at.untold;
    }

-- one message more, where its body is not counted as given yet
pub At-body : (start : Option (List ℕ)) (given : List (List ℕ)) (v : View) (m : Incoming) (w : View) → At start given v → (g : GivesBody v m w) → At start given (with_bodies w (g.body ∷ w.bodies))
At-body start given v m w at g = At-fills start given v (with_bodies w (g.body ∷ w.bodies)) at g.fills
