-- One part more is put in.
use Rattle.std.proofs.Common.{◌<◌, List, length, refl, sym, subst, ◌∙◌, ap}
use Rattle.std.specs.Prelude.{slice_get}
use Rattle.gq_index.specs.declared.part.Part.{Part}
use Rattle.gq_index.specs.declared.placed.Placed.{Placed}
use Rattle.gq_index.specs.Helping.Seats.{AreFound}
use Rattle.gq_index.proofs.VariableLemmas.{at_place, found_more, placed_more}
use Rattle.gq_index.proofs.placing.put_parts.Goals as goal

pub loop-offset-preserved : goal.loop-offset-preserved
loop-offset-preserved c =
    let parts : List Part = c.args.parts.now in
    let all : List Placed = c.loop-offset.all.items in
    let i = c.loop-offset.offset in
    let part : Part = c.index-parts-offset.result in
    let inside : i < length parts = c.loop-offset-test.true in (
      placed_more all c.push.new.self.items _ c.args.file parts i part _ c.in_ok-push.ensures.items refl refl inside c.index-parts-offset.is c.loop-offset.invariant.0,
      λ kept one there same are.
          subst (λ (ps : List Placed). AreFound kept ps) (sym c.in_ok-push.ensures.items)
          (found_more kept all _ (one, there, ap (λ (ps : List Part). slice_get ps i) same ∙ at_place parts i part inside c.index-parts-offset.is) (c.loop-offset.invariant.1 kept one there same are)),
    )
