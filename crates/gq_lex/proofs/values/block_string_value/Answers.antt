use Rattle.std.proofs.Common.{◌≡◌, IsUtf8, option_map, sym, ap, subst, ◌∙◌}
use Rattle.std.proofs.lemmas.Option.{IfSome_then}
use Rattle.gq_lex.specs.Decoding.{raw_at}
use Rattle.gq_lex.specs.Values.{block_value}
use Rattle.gq_lex.proofs.Decodings.{raw_told, IsRaw}
use Rattle.gq_lex.proofs.BlockUtf8.{block_value_utf8}
use Rattle.gq_lex.proofs.Utf8.{raw_utf8}
use Rattle.gq_lex.proofs.Valued.{block_is, block_token, no_block, none_of_some}
use Rattle.gq_lex.proofs.values.block_string_value.Goals as goal

told : (c : goal.After-drop-raw-in-Some) → IsRaw c.args.text.now c.in-Some.raw.items
told c = raw_told c.args.text.now c.in-Some.raw.items (ap raw_at (sym c.as_bytes.ensures.value) ∙ sym c.in_ok-raw.ensures ∙ ap (option_map (λ v. v.items)) c.in-Some.is)

value_is : (c : goal.After-drop-raw-in-Some) → c.in_ok-block_value-in-Some.field-0.items ≡ block_value c.in-Some.raw.items
value_is c = c.in_ok-block_value-in-Some.ensures ∙ ap block_value c.deref.ensures.value

pub returns-in_ok-block_value-in-Some-clause-value : goal.returns-in_ok-block_value-in-Some-clause-value
returns-in_ok-block_value-in-Some-clause-value c = IfSome_then c.owned.result c.owned.ensures.same (λ _ same. block_is _ (told c) (same ∙ value_is c))

pub returns-in_ok-block_value-in-Some-clause-token : goal.returns-in_ok-block_value-in-Some-clause-token
returns-in_ok-block_value-in-Some-clause-token c = IfSome_then c.owned.result c.owned.ensures.same (λ _ _. block_token (told c))

pub returns-in_ok-block_value-in-Some-clause-none : goal.returns-in_ok-block_value-in-Some-clause-none
returns-in_ok-block_value-in-Some-clause-none c =
    let utf8 = block_value_utf8 c.in-Some.raw.items (raw_utf8 c.args.text.now c.in-Some.raw.items c.utf8.text (told c)) in
    none_of_some c.owned.result _ (c.owned.ensures.some (subst IsUtf8 (sym (value_is c)) utf8))

pub returns-in-None-clause-none : goal.returns-in-None-clause-none
returns-in-None-clause-none c = λ after token. no_block c.args.text.now after (ap raw_at (sym c.as_bytes.ensures.value) ∙ sym c.in_ok-raw.ensures ∙ ap (option_map (λ v. v.items)) c.in-None.is) token
