use Rattle.std.proofs.Common.{◌∙◌, ap}
use Rattle.std.proofs.lemmas.Result.{IfOk-weaker}
use Rattle.serde_json.specs.Written.{compact_text, has_float}
use Rattle.gq_rpc.proofs.Values.{value_of-no_float}
use Rattle.gq_rpc.proofs.writes.write_body.Goals as goal

pub returns-in_ok-write_value-in_default : goal.returns-in_ok-write_value-in_default
returns-in_ok-write_value-in_default c =
    let same = c.in_ok-write_value-in_default.ensures in
    IfOk-weaker c.to_vec.result _ _ (λ bytes text. text (ap has_float same ∙ value_of-no_float c.args.message.now) ∙ ap compact_text same) c.to_vec.ensures.text
