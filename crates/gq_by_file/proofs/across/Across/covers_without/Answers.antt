-- The file at that place has a mark.
use Rattle.std.proofs.Common.{◌≡◌, ◌∙◌, ◌<◌, [], ◌∷◌, List, Bool, true, false, ap, refl, slice_index_or, subst, sym, arith}
use Rattle.std.proofs.lemmas.Result.{IfOk-weaker}
use Rattle.gq_types.proofs.Gathered.{first}
use Rattle.gq_by_file.specs.declared.covers.Cover.{Cover}
use Rattle.gq_by_file.specs.Across.{AreCovers}
use Rattle.gq_by_file.proofs.Closed.Within.{to_among}
use Rattle.gq_by_file.proofs.across.Across.covers_without.Goals as goal

pub returns : goal.returns
returns c =
    let at = c.args.at in
    let inside : at < c.len.result = (let l = c.len.ensures in let r = c.requires in omega (arith, l, r)) in
    let there = c.in_ok-marks.ensures.marked at inside in
    let mark : slice_index_or c.deref.result.now at false ≡ true = ap (λ (ms : List Bool). slice_index_or ms at false) c.deref.ensures.value ∙ there ∙ to_among (at ∷ []) at (first at at [] refl) in
    IfOk-weaker c.covers_after.result _ _
    (λ covers h x y goes are. h x y (goes c.deref.result.now mark) (subst (λ (cs : List Cover). AreCovers x cs) (sym c.deref-2.ensures.value) are)) c.covers_after.ensures
