-- Reads of a reader, one after another, and the events that it gives.
use Rattle.std.proofs.Common.{◌≡◌, inl, inr, ℕ, suc, ◌<◌, ◌+◌, ◌-◌, List, [], ◌∷◌, ◌++◌, length, length-append, false, Option, Some, None, ap, sym, refl, ◌∙◌, subst, append-nil, append_assoc, arith}
use Rattle.std.specs.Option.{option_map_or}
use Rattle.gq_rpc.specs.Frames.{Cuts, scan_of}
use Rattle.gq_rpc.specs.declared.header.Scan.TheVariants.{Partial}
use Rattle.gq_rpc.proofs.Sends.{Consumes-trans}
use Rattle.gq_reader.specs.declared.reader.NoMore.{NoMore}
use Rattle.gq_reader.specs.Reader.{View, Holds, Ready, Finds, ReadsOnce, ReadsOn, Fills}
use Rattle.gq_reader.proofs.Bounds.{held_max, partial_short, to_read, more_to_read}

-- the framer holds one text
pub same_text : (a b : List ℕ) (framer : Option (List ℕ)) → framer ≡ Some a → framer ≡ Some b → a ≡ b
same_text a b framer e f = cc

-- where more can be read, the rest is less than a frame, and the source has not failed
pub going : (v : View) (rest : List ℕ) → v.no_more ≡ None → Finds v.no_more rest v.source v.bodies → (v.source.failed ≡ false) × (scan_of rest ≡ Partial)
going v rest none f = subst (λ (o : Option NoMore). Finds o rest v.source v.bodies) none f

pub Ready-once : (v w : View) → ReadsOnce v w → Ready w
Ready-once v w r = λ none.
    let g = going w r.rest none r.finds in
    record { held = r.rest; is_held = (r.holds none).0; partial = g.1; sound = g.0 }

-- the text of the reads so far, where they completed nothing
no_bodies : (text rest : List ℕ) (bodies : List (List ℕ)) → bodies ≡ [] → Cuts text bodies rest → text ≡ rest
no_bodies text rest bodies none c = subst (λ (b : List (List ℕ)). Cuts text b rest) none c

first_read : (v w : View) → ReadsOnce v w → (held : Holds v) → ReadsOn v w
first_read v w r held =
    let same : held.held ≡ r.held = same_text held.held r.held v.framer held.is_held r.is_held in
    record {
      held = r.held;
      earlier = [];
      piece = r.piece;
      rest = r.rest;
      is_held = r.is_held;
      took = r.took;
      short = r.short;
      partial = ap scan_of (append-nil r.held ∙ sym same) ∙ held.partial;
      cuts = subst (λ (t : List ℕ). Cuts (t ++ r.piece) w.bodies r.rest) (sym (append-nil r.held)) r.cuts;
      finds = r.finds;
      holds = λ none. (r.holds none).0;
      same_told = r.same_told;
    }

later_read : (a v w : View) → v.bodies ≡ [] → v.no_more ≡ None → ReadsOn a v → ReadsOnce v w → ReadsOn a w
later_read a v w empty none o r =
    let all : (o.held ++ o.earlier) ++ o.piece ≡ o.rest = no_bodies _ o.rest v.bodies empty o.cuts in
    let text : o.held ++ (o.earlier ++ o.piece) ≡ o.rest = sym (append_assoc o.held o.earlier o.piece) ∙ all in
    let same : o.rest ≡ r.held = same_text o.rest r.held v.framer (o.holds none) r.is_held in
    record {
      held = o.held;
      earlier = o.earlier ++ o.piece;
      piece = r.piece;
      rest = r.rest;
      is_held = o.is_held;
      took = Consumes-trans a.source.left v.source.left w.source.left (o.earlier ++ o.piece) r.piece o.took r.took;
      short = r.short;
      partial = ap scan_of text ∙ (going v o.rest none o.finds).1;
      cuts = subst (λ (t : List ℕ). Cuts (t ++ r.piece) w.bodies r.rest) (sym (text ∙ same)) r.cuts;
      finds = r.finds;
      holds = λ none. (r.holds none).0;
      same_told = r.same_told ∙ o.same_told;
    }

pub Fills-once : (a v w : View) → Ready v → Fills a v → v.bodies ≡ [] → v.no_more ≡ None → ReadsOnce v w → Fills a w
Fills-once a v w ready (inl same) empty none r =
    inr (subst (λ (x : View). (x.bodies ≡ []) × (x.no_more ≡ None) × ReadsOn x w) same (empty, none, first_read v w r (ready none)))
Fills-once a v w ready (inr (first, more, o)) empty none r = inr (first, more, later_read a v w empty none o r)

-- ---- it ends

longer : (held piece rest : List ℕ) (bodies : List (List ℕ)) → bodies ≡ [] → Cuts (held ++ piece) bodies rest → length rest ≡ length held + length piece
longer held piece rest bodies none c = sym (ap length (no_bodies (held ++ piece) rest bodies none c)) ∙ length-append held piece

shorter : (held piece rest : List ℕ) → length rest ≡ length held + length piece → 0 < length piece → length rest < held_max → suc held_max - length rest < suc held_max - length held
shorter held piece rest e some short = omega arith

less_to_read : (bodies : List (List ℕ)) (no_more : Option NoMore) (n m : ℕ) → 0 < m → (bodies ≡ [] → no_more ≡ None → n < m) → more_to_read bodies no_more n < m
less_to_read [] None n m some h = h refl refl
less_to_read [] (Some why) n m some h = some
less_to_read (body ∷ bodies) no_more n m some h = some

pub read_smaller : (v w : View) → Ready v → v.bodies ≡ [] → v.no_more ≡ None → ReadsOnce v w → to_read w < to_read v
read_smaller v w ready empty none r =
    let held = ready none in
    let same : held.held ≡ r.held = same_text held.held r.held v.framer held.is_held r.is_held in
    let was_short = partial_short held.held held.partial in
    let some : 0 < suc held_max - length r.held = subst (λ (t : List ℕ). 0 < suc held_max - length t) same (omega arith) in
    subst (λ (m : ℕ). to_read w < m) (sym (ap (λ (b : List (List ℕ)). more_to_read b v.no_more (suc held_max - option_map_or length v.framer 0)) empty
    ∙ (ap (λ (o : Option NoMore). more_to_read [] o (suc held_max - option_map_or length v.framer 0)) none
    ∙ ap (λ (f : Option (List ℕ)). suc held_max - option_map_or length f 0) r.is_held)))
    (less_to_read w.bodies w.no_more _ _ some (λ no_body goes.
    let now = r.holds goes in
    let g = going w r.rest goes r.finds in
    subst (λ (f : Option (List ℕ)). suc held_max - option_map_or length f 0 < suc held_max - length r.held) (sym now.0)
    (shorter r.held r.piece r.rest (longer r.held r.piece r.rest w.bodies no_body r.cuts) now.1 (partial_short r.rest g.1))))
