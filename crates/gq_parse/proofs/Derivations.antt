-- What has no tree, and the one that a text has.
use Rattle.std.proofs.Common.{ℕ, List, [], ◌∷◌, ◌++◌, sym, subst, ◌∙◌, append_assoc, arith, inl, inr}
use Rattle.gq_text.specs.declared.place.Span.{Span}
use Rattle.gq_lex.specs.declared.token.BadKind.{BadKind}
use Rattle.gq_lex.specs.Tokens.{Lexeme, Reads, IsBadAt}
use Rattle.gq_lex.proofs.Readings.{one_reading, bad_has_none, limit_has_more}
use Rattle.gq_tree.specs.Plain.{Def}
use Rattle.gq_parse.specs.Limits.{IsNestedWithin, IsTooDeepAt, PassesLimitAt}
use Rattle.gq_parse.specs.Documents.{IsDocument}
use Rattle.gq_parse.specs.Derives.{Derives}
use Rattle.gq_parse.proofs.Nesting.{nested_front}

-- tokens of which one opens too many brackets do not nest within the limit
pub too_deep_is : (tokens : List Lexeme) (place : ℕ) → IsTooDeepAt tokens place → IsNestedWithin 100 tokens → ⊥
too_deep_is tokens place deep nested =
    deep.passes (nested_front 100 (deep.before ++ deep.token ∷ []) deep.after (subst (IsNestedWithin 100) (deep.cut ∙ sym (append_assoc deep.before (deep.token ∷ []) deep.after)) nested))

pub past_limits : (text : List ℕ) (place : ℕ) (document : List (Def Span)) → PassesLimitAt text place → Derives text document → ⊥
past_limits text place document (inl many) derives = absurd (omega (arith, limit_has_more text place derives.tokens many derives.reads, derives.few))
past_limits text place document (inr deep) derives =
    too_deep_is deep.0 place deep.2 (subst (IsNestedWithin 100) (one_reading text derives.tokens deep.0 derives.reads deep.1) derives.nested)

-- a text that cannot be read has no tree
pub bad_text : (text : List ℕ) (place : ℕ) (kind : BadKind) (document : List (Def Span)) → IsBadAt text place kind → Derives text document → ⊥
bad_text text place kind document bad derives = bad_has_none text place kind derives.tokens bad derives.reads

-- the tokens of a text are the document that is its tree
pub tokens_derive : (text : List ℕ) (tokens : List Lexeme) (document : List (Def Span)) → Reads text tokens → Derives text document → IsDocument document tokens
tokens_derive text tokens document reads derives = subst (IsDocument document) (one_reading text derives.tokens tokens derives.reads reads) derives.derived
