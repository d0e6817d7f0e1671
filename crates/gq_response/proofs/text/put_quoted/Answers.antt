use Rattle.std.proofs.Common.{◌++◌, ap, ◌∙◌}
use Rattle.std.specs.Prelude.{string_bytes}
use Rattle.gq_response.proofs.Trees.{three_texts}
use Rattle.gq_response.proofs.Quotes.{plain_quoted}
use Rattle.gq_response.proofs.text.put_quoted.Goals as goal

pub returns : goal.returns
returns c =
    three_texts (string_bytes c.args.text.now) (string_bytes c.push_str.new.self) (string_bytes c.push_str-2.new.self) (string_bytes c.push_str-3.new.self) _ _ _
    c.in_ok-push_str.ensures.bytes c.in_ok-push_str-2.ensures.bytes c.in_ok-push_str-3.ensures.bytes
    ∙ ap (λ z. string_bytes c.args.text.now ++ z) (plain_quoted c.is_plain.result c.as_bytes.result.now c.args.content.now c.as_bytes.ensures.value c.is_plain.ensures c.if-not-is_plain.false)
