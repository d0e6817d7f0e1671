use Rattle.std.proofs.Common.{◌≡◌, ◌∙◌, subst, List, ℕ}
use Rattle.std.specs.Prelude.{IfSome, IfNone}
use Rattle.std.proofs.lemmas.Result.{IfOk-weaker}
use Rattle.gq_lex.specs.Tokens.{IsToken}
use Rattle.gq_lex.specs.declared.token.Kind.TheVariants.{String}
use Rattle.gq_lex.specs.Values.{IsStringValue}
use Rattle.gq_coerce.specs.Literals.{string_text}
use Rattle.gq_coerce.proofs.Strings.{string_is, no_string_is}
use Rattle.gq_coerce.proofs.scalars.string_text.Goals as goal

pub returns-in-Some : goal.returns-in-Some
returns-in-Some c =
    let spelling = c.args.spelling.now in
    IfOk-weaker c.from_str.result _ (λ text. text ≡ string_text spelling)
    (λ text is. is ∙ c.as_str.ensures ∙ string_is spelling c.in-Some.text (subst (λ o. IfSome o (λ v. IsStringValue spelling v)) c.in-Some.is c.in_ok-text.ensures.value)) c.from_str.ensures.text

pub returns-in-None : goal.returns-in-None
returns-in-None c =
    let spelling = c.args.spelling.now in
    IfOk-weaker c.block_text.result _ (λ text. text ≡ string_text spelling)
    (λ text is. no_string_is spelling text (subst (λ o. IfNone o ((after : List ℕ) → IsToken String spelling after → ⊥)) c.in-None.is c.in_ok-text.ensures.none) is) c.block_text.ensures
