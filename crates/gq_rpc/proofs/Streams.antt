-- Frames, one after another.
use Rattle.std.proofs.Common.{◌≡◌, ℕ, ◌+◌, ◌-◌, List, [], ◌∷◌, ◌++◌, take, drop, refl, ap, sym, ◌∙◌, subst, append_assoc, append-nil, inr, Err}
use Rattle.std.proofs.lemmas.List.{drop-drop}
use Rattle.gq_rpc.specs.Frames.{scan_of, Cuts, Reads, FeedsVec}
use Rattle.gq_rpc.specs.declared.header.FrameFault.TheVariants.{NoMemory}
use Rattle.gq_rpc.specs.declared.header.Scan.TheVariants.{Whole}

-- frames and then more frames
pub Cuts-trans : (text : List ℕ) (bodies : List (List ℕ)) (rest : List ℕ) (more : List (List ℕ)) (last : List ℕ)
    → Cuts text bodies rest → Cuts rest more last → Cuts text (bodies ++ more) last
Cuts-trans text [] rest more last h k = subst (λ t. Cuts t more last) (sym h) k
Cuts-trans text (body ∷ bodies) rest more last h k = (h.0, h.1, h.2, h.3, Cuts-trans (drop h.1 text) bodies rest more last h.4 k)

pub Reads-none : (text : List ℕ) (old : List (List ℕ)) → Reads text old old (drop 0 text)
Reads-none text old = record { bodies = []; added = sym (append-nil old); cuts = refl }

-- one frame more
pub Reads-one : (text rest : List ℕ) (old mid new : List (List ℕ)) (at start end : ℕ) → rest ≡ drop at text → Reads text old mid (drop at text) → Whole start end ≡ scan_of rest
    → new ≡ mid ++ take (end - start) (drop start rest) ∷ [] → Reads text old new (drop (at + end) text)
Reads-one text rest old mid new at start end same r h e = record {
  bodies = r.bodies ++ take (end - start) (drop start (drop at text)) ∷ [];
  added = e ∙ ap (λ t. mid ++ take (end - start) (drop start t) ∷ []) same ∙ ap (λ xs. xs ++ take (end - start) (drop start (drop at text)) ∷ []) r.added ∙ append_assoc old r.bodies _;
  cuts = Cuts-trans text r.bodies (drop at text) _ (drop (at + end) text) r.cuts (start, end, sym (h ∙ ap scan_of same), refl, drop-drop end at text);
}

pub Feeds-refused : (held piece after : List ℕ) (old : List (List ℕ)) → FeedsVec held piece old old (Err NoMemory) after
Feeds-refused held piece after old = record {
  rest = held ++ piece;
  reads = record { bodies = []; added = sym (append-nil old); cuts = refl };
  stops = inr refl;
  holds = tt;
}
