use Rattle.std.proofs.Common.{◌∙◌}
use Rattle.gq_diagnostics.proofs.PartingLemmas.{put_nowhere, put_back, nowhere, somewhere}
use Rattle.gq_diagnostics.proofs.parting.parted.Goals as goal

pub loop-one-preserved : goal.loop-one-preserved
loop-one-preserved c =
    c.loop-one.invariant ∙ put_nowhere c.loop-one.yielded c.in-Some.one c.args.project.now (nowhere _ _ _ _ c.place_near.ensures c.in_default.is c.as_str.ensures)

pub loop-one-preserved-in-Some-place_near : goal.loop-one-preserved-in-Some-place_near
loop-one-preserved-in-Some-place_near c =
    put_back c.loop-one.yielded c.in-Some.one c.args.project.now c.in-Some-place_near.at _ _ _ _ c.documents.ensures.in_order
    (somewhere _ _ _ _ _ c.place_near.ensures c.in-Some-place_near.is c.as_str.ensures) c.loop-one.invariant c.deref_mut.ensures.value c.deref_mut.ensures.len c.in_ok-put.ensures
