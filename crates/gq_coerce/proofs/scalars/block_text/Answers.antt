use Rattle.std.proofs.Common.{◌≡◌, ◌∙◌, subst, [], List, ℕ}
use Rattle.std.specs.Prelude.{IfSome, IfNone, unwrap_or}
use Rattle.std.proofs.lemmas.Result.{IfOk-weaker}
use Rattle.gq_lex.specs.Decoding.{raw_at}
use Rattle.gq_lex.specs.Tokens.{IsToken}
use Rattle.gq_lex.specs.declared.token.Kind.TheVariants.{BlockString}
use Rattle.gq_lex.specs.Values.{IsBlockStringValue, block_value}
use Rattle.gq_coerce.proofs.Strings.{block_text_is, no_block_text}
use Rattle.gq_coerce.proofs.scalars.block_text.Goals as goal

pub returns-in-Some : goal.returns-in-Some
returns-in-Some c =
    let spelling = c.args.spelling.now in
    IfOk-weaker c.from_str.result _ (λ text. text ≡ block_value (unwrap_or (raw_at spelling) []))
    (λ text is. is ∙ c.as_str.ensures ∙ block_text_is spelling c.in-Some.text (subst (λ o. IfSome o (λ v. IsBlockStringValue spelling v)) c.in-Some.is c.in_ok-text.ensures.value)) c.from_str.ensures.text

pub returns-in-None : goal.returns-in-None
returns-in-None c =
    let spelling = c.args.spelling.now in
    IfOk-weaker c.from_str-in-None.result _ (λ text. text ≡ block_value (unwrap_or (raw_at spelling) []))
    (λ text is. is ∙ no_block_text spelling (subst (λ o. IfNone o ((after : List ℕ) → IsToken BlockString spelling after → ⊥)) c.in-None.is c.in_ok-text.ensures.none)) c.from_str-in-None.ensures.text
