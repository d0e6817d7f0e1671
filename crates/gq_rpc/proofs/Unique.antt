-- A stream has one cutting.
use Rattle.std.proofs.Common.{◌≡◌, ℕ, List, [], ◌∷◌, drop, refl, ap, sym, ◌∙◌, subst}
use Rattle.std.specs.Prelude.{slice_range}
use Rattle.gq_rpc.specs.Frames.{scan_of, Cuts}
use Rattle.gq_rpc.specs.Cutting.{IsNoFrame, HasOneCutting}
use Rattle.gq_rpc.specs.declared.header.Scan.TheVariants.{Whole}

-- where a whole frame stands, the stream does not end
not_ended : (text rest : List ℕ) (start end : ℕ) → text ≡ rest → IsNoFrame (scan_of rest) → scan_of text ≡ Whole start end → ⊥
not_ended text rest start end same none whole = subst IsNoFrame (ap scan_of (sym same) ∙ whole) none

pub one_cutting : HasOneCutting
one_cutting text [] [] rest left h n k m = (refl, sym h ∙ k)
one_cutting text [] (other ∷ others) rest left h n k m = absurd (not_ended text rest k.0 k.1 h n k.2)
one_cutting text (body ∷ bodies) [] rest left h n k m = absurd (not_ended text left h.0 h.1 k m h.2)
one_cutting text (body ∷ bodies) (other ∷ others) rest left h n k m =
    let whole : Whole h.0 h.1 ≡ Whole k.0 k.1 = sym h.2 ∙ k.2 in
    let start : h.0 ≡ k.0 = cc in
    let end : h.1 ≡ k.1 = cc in
    let first : body ≡ other = h.3 ∙ ap (λ s. slice_range text s h.1) start ∙ ap (slice_range text k.0) end ∙ sym k.3 in
    let later = one_cutting (drop h.1 text) bodies others rest left h.4 n (subst (λ e. Cuts (drop e text) others left) (sym end) k.4) m in
    (ap (λ x. x ∷ bodies) first ∙ ap (λ xs. other ∷ xs) later.0, later.1)
