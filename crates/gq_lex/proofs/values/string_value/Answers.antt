use Rattle.std.proofs.Common.{option_map, sym, ap, subst, ◌∙◌}
use Rattle.std.proofs.lemmas.Option.{IfSome_then}
use Rattle.gq_lex.specs.Decoding.{string_at}
use Rattle.gq_lex.specs.Values.{IsStringValue}
use Rattle.gq_lex.proofs.Decodings.{string_told}
use Rattle.gq_lex.proofs.Utf8.{string_utf8}
use Rattle.gq_lex.proofs.Valued.{string_token, no_string, none_of_some}
use Rattle.gq_lex.proofs.values.string_value.Goals as goal

told : (c : goal.After-owned) → IsStringValue c.args.text.now c.in-Some.value.items
told c = string_told c.args.text.now c.in-Some.value.items (ap string_at (sym c.as_bytes.ensures.value) ∙ sym c.in_ok-value.ensures ∙ ap (option_map (λ v. v.items)) c.in-Some.is)

-- src/values.rt:17:1
pub returns-in-Some-clause-value : goal.returns-in-Some-clause-value
returns-in-Some-clause-value c = IfSome_then c.owned.result c.owned.ensures.same (λ _ same. subst (IsStringValue c.args.text.now) (sym same) (told c))

-- src/values.rt:17:1
pub returns-in-Some-clause-token : goal.returns-in-Some-clause-token
returns-in-Some-clause-token c = IfSome_then c.owned.result c.owned.ensures.same (λ _ _. string_token (told c))

-- src/values.rt:17:1
pub returns-in-Some-clause-none : goal.returns-in-Some-clause-none
returns-in-Some-clause-none c = none_of_some c.owned.result _ (c.owned.ensures.some (string_utf8 c.args.text.now c.in-Some.value.items c.utf8.text (told c)))

-- src/values.rt:17:1
pub returns-in-None-clause-none : goal.returns-in-None-clause-none
returns-in-None-clause-none c = λ after token. no_string c.args.text.now after (ap string_at (sym c.as_bytes.ensures.value) ∙ sym c.in_ok-value.ensures ∙ ap (option_map (λ v. v.items)) c.in-None.is) token
