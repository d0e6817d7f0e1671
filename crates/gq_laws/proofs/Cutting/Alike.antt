-- Tokens that are the same but for their places.
use Rattle.std.proofs.Common.{◌≡◌, List, [], ◌∷◌}
use Rattle.gq_lex.specs.Tokens.{Lexeme}

-- the tokens of the second list have the kinds and the texts of those of the first, one by one
abbrev pub AreAlike : List Lexeme → List Lexeme → Type 0
AreAlike [] [] = Unit {0}
AreAlike [] (u ∷ us) = ⊥
AreAlike (t ∷ ts) [] = ⊥
AreAlike (t ∷ ts) (u ∷ us) = (u.kind ≡ t.kind) × (u.text ≡ t.text) × AreAlike ts us
