use Rattle.std.specs.Prelude.{string_bytes}
use Rattle.gq_response.proofs.Trees.{three_texts}
use Rattle.gq_response.proofs.text.put_error.Goals as goal

pub returns : goal.returns
returns c =
    three_texts (string_bytes c.args.text.now) (string_bytes c.push_str.new.self) (string_bytes c.put_steps.new.text) (string_bytes c.push_str-2.new.self) _ _ _
    c.in_ok-push_str.ensures.bytes c.in_ok-put_steps.ensures c.in_ok-push_str-2.ensures.bytes
