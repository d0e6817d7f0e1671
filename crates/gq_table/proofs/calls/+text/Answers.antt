use Rattle.std.proofs.Common.{◌++◌, ◌∙◌, ap}
use Rattle.std.specs.Prelude.{string_bytes}
use Rattle.gq_table.proofs.SameLemmas.{entry_text}
use Rattle.gq_table.proofs.calls.+text.Goals as goal

pub put_entry-returns : goal.put_entry-returns
put_entry-returns t c =
    entry_text c.args.entry.now.name c.args.entry.now.value (string_bytes c.args.text.now) (string_bytes c.push_str.new.self) (string_bytes c.push_str-2.new.self) (string_bytes c.put_value.new.text)
    (c.in_ok-push_str.ensures.bytes ∙ ap (λ n. string_bytes c.args.text.now ++ n) c.as_str.ensures) c.in_ok-push_str-2.ensures.bytes c.in_ok-put_value.ensures
