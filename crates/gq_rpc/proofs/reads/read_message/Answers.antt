use Rattle.std.proofs.Common.{◌≡◌, ◌∙◌, Some, sym, ap}
use Rattle.std.proofs.lemmas.Result.{IfOk-weaker}
use Rattle.serde_json.specs.Read.{read}
use Rattle.serde_json.specs.View.{view}
use Rattle.gq_rpc.proofs.Bodies.{message_of-no_text, message_of-value}
use Rattle.gq_rpc.proofs.reads.read_message.Goals as goal

pub returns-in_default : goal.returns-in_default
returns-in_default c = sym (message_of-no_text c.args.body.now c.in_default.ensures.cases.0)

pub returns-in-Ok-from_str : goal.returns-in-Ok-from_str
returns-in-Ok-from_str c =
    let same = c.in-Ok.ensures.cases.0 in
    let value : read c.args.body.now ≡ Some (view c.in-Ok-from_str.value) = ap read (sym same) ∙ c.in-Ok-from_str.ensures.ok in
    let known = message_of-value c.args.body.now _ c.in-Ok.ensures.cases.1 value in
    IfOk-weaker c.decode.result _ _ (λ m e. e ∙ sym known) c.decode.ensures
