use Rattle.std.proofs.lemmas.Result.{IfOk-weaker}
use Rattle.gq_types.specs.Look.{types_view}
use Rattle.gq_kept.proofs.ComparedLemmas.{keeps}
use Rattle.gq_kept.proofs.beside.keeps_rules.Goals as goal

pub returns : goal.returns
returns c = IfOk-weaker c.are_faultless.result _ _
    (λ faultless g t es differs sound. keeps c.other_objects_keep_types.ensures es (types_view c.args.types.now) c.args.beside.now c.deref.result.now c.deref.ensures.value c.if-not-beside.false
    differs sound (g t))
    c.are_faultless.ensures
