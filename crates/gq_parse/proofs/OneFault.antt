-- A text has at most one fault: its tokens are determined, and they have at most one.
use Rattle.std.proofs.Common.{◌≡◌, ℕ, ◌^◌, ◌<◌, ◌≤◌, List, [], ◌∷◌, ◌++◌, length, sym, subst, ◌∙◌, arith, inl, inr}
use Rattle.gq_lex.specs.declared.token.BadKind.{BadKind}
use Rattle.gq_lex.specs.declared.token.LexFault.{LexFault}
use Rattle.gq_lex.specs.declared.token.LexFault.TheVariants.{Bad, Limit}
use Rattle.gq_lex.specs.Faults.{IsFault}
use Rattle.gq_lex.specs.Places.{StandIn}
use Rattle.gq_lex.specs.Tokens.{Lexeme, Reads, IsBadAt, IsLimitAt}
use Rattle.gq_parse.specs.Faults.{IsWrongAt, IsSyntaxPlace, IsSyntaxFault, IsLimitFault}
use Rattle.gq_parse.specs.Limits.{IsTooDeepAt}
use Rattle.gq_parse.proofs.Telling.{one_wrong, one_deep, none_wrong}

-- the place of the syntax fault of tokens is one
one_place : (tokens : List Lexeme) (len p q : ℕ) → IsSyntaxPlace tokens len p → IsSyntaxPlace tokens len q → p ≡ q
one_place tokens len p q (inl a) (inl b) = one_wrong tokens p q a b
one_place tokens len p q (inl a) (inr b) = absurd (none_wrong tokens p b.0.begins a)
one_place tokens len p q (inr a) (inl b) = absurd (none_wrong tokens q a.0.begins b)
one_place tokens len p q (inr a) (inr b) = a.1 ∙ sym b.1

-- tokens that stand in a text stand before its end
stand_within : (text : List ℕ) (at : ℕ) (tokens : List Lexeme) → StandIn text at tokens → at ≤ length text
stand_within text at [] stand = stand
stand_within text at (t ∷ ts) stand = let later = stand_within text t.span.end ts stand.3 in omega (arith, stand.0, stand.1, later)

starts_within : (text : List ℕ) (at : ℕ) (before after : List Lexeme) (t : Lexeme) → StandIn text at (before ++ t ∷ after) → t.span.start < length text
starts_within text at [] after t stand = let later = stand_within text t.span.end after stand.3 in omega (arith, stand.1, later)
starts_within text at (b ∷ before) after t stand = starts_within text b.span.end before after t stand.3

-- the bracket that opens a level too deep stands before the end of the text
deep_within : (text : List ℕ) (tokens : List Lexeme) (place : ℕ) → StandIn text 0 tokens → IsTooDeepAt tokens place → place < length text
deep_within text tokens place stand deep =
    let first = starts_within text 0 deep.before deep.after deep.token (subst (StandIn text 0) deep.cut stand) in
    omega (arith, first, deep.at)

-- tokens have no syntax fault that comes before a bracket too many and after it
apart : (text : List ℕ) (tokens : List Lexeme) (p q : ℕ) → StandIn text 0 tokens → IsSyntaxPlace tokens (length text) p → ((deep : ℕ) → IsTooDeepAt tokens deep → p ≤ deep) → IsTooDeepAt tokens q → ((wrong : ℕ) → IsWrongAt tokens wrong → q < wrong) → ⊥
apart text tokens p q stand (inl wrong) first deep before = absurd (omega (arith, first q deep, before p wrong))
apart text tokens p q stand (inr end) first deep before = absurd (omega (arith, first q deep, end.1, deep_within text tokens q stand deep))

bad_place : (p q : ℕ) (j k : BadKind) → Bad p j ≡ Bad q k → p ≡ q
bad_place p q j k e = cc

limit_place : (p q : ℕ) → Limit p ≡ Limit q → p ≡ q
limit_place p q e = cc

bad_no_limit : (p q : ℕ) (k : BadKind) → Bad p k ≡ Limit q → ⊥
bad_no_limit p q k e = cc

-- what the laws of the tokens of a text say
pub record TokenLaws : Type 0 where
  pub one_reading : (text : List ℕ) (a b : List Lexeme) → Reads text a → Reads text b → a ≡ b
  pub one_fault : (text : List ℕ) (a b : LexFault) → IsFault text a → IsFault text b → a ≡ b
  pub bad_has_none : (text : List ℕ) (place : ℕ) (kind : BadKind) (tokens : List Lexeme) → IsBadAt text place kind → Reads text tokens → ⊥
  pub limit_is_passed : (text : List ℕ) (place : ℕ) (tokens : List Lexeme) → IsLimitAt text place → Reads text tokens → 2 ^ 20 < length tokens
  pub stand : (text : List ℕ) (tokens : List Lexeme) → Reads text tokens → StandIn text 0 tokens

module _ (laws : TokenLaws) where
  past_limit : (text : List ℕ) (place : ℕ) (tokens : List Lexeme) → IsLimitAt text place → Reads text tokens → length tokens ≤ 2 ^ 20 → ⊥
  past_limit text place tokens limit reads few = absurd (omega (arith, laws.limit_is_passed text place tokens limit reads, few))

  pub one_syntax : (text : List ℕ) (a b : ℕ) → IsSyntaxFault text a → IsSyntaxFault text b → a ≡ b
  one_syntax text a b (inl x) (inl y) = bad_place a b x.0 y.0 (laws.one_fault text (Bad a x.0) (Bad b y.0) x.1 y.1)
  one_syntax text a b (inl x) (inr y) = absurd (laws.bad_has_none text a x.0 y.0 x.1 y.1)
  one_syntax text a b (inr x) (inl y) = absurd (laws.bad_has_none text b y.0 x.0 y.1 x.1)
  one_syntax text a b (inr x) (inr y) =
      let same = laws.one_reading text y.0 x.0 y.1 x.1 in
      one_place x.0 (length text) a b x.3 (subst (λ (tokens : List Lexeme). IsSyntaxPlace tokens (length text) b) same y.3)

  pub one_limit : (text : List ℕ) (a b : ℕ) → IsLimitFault text a → IsLimitFault text b → a ≡ b
  one_limit text a b (inl x) (inl y) = limit_place a b (laws.one_fault text (Limit a) (Limit b) x y)
  one_limit text a b (inl x) (inr y) = absurd (past_limit text a y.0 x y.1 y.2)
  one_limit text a b (inr x) (inl y) = absurd (past_limit text b x.0 y x.1 x.2)
  one_limit text a b (inr x) (inr y) =
      let same = laws.one_reading text y.0 x.0 y.1 x.1 in
      one_deep x.0 a b x.3 (subst (λ (tokens : List Lexeme). IsTooDeepAt tokens b) same y.3)

  pub not_both : (text : List ℕ) (a b : ℕ) → IsSyntaxFault text a → IsLimitFault text b → ⊥
  not_both text a b (inl x) (inl y) = bad_no_limit a b x.0 (laws.one_fault text (Bad a x.0) (Limit b) x.1 y)
  not_both text a b (inl x) (inr y) = laws.bad_has_none text a x.0 y.0 x.1 y.1
  not_both text a b (inr x) (inl y) = past_limit text b x.0 y x.1 x.2
  not_both text a b (inr x) (inr y) =
      let same = laws.one_reading text y.0 x.0 y.1 x.1 in
      apart text x.0 a b (laws.stand text x.0 x.1) x.3 x.4
      (subst (λ (tokens : List Lexeme). IsTooDeepAt tokens b) same y.3)
      (subst (λ (tokens : List Lexeme). (wrong : ℕ) → IsWrongAt tokens wrong → b < wrong) same y.4)
