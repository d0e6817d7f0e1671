-- The names behind the `$` of a text, computed.
use Rattle.std.specs.Prelude.{ℕ, Bool, true, false, not, ◌&&◌, nat_eq, List, [], ◌∷◌, ◌++◌, Option, if◌then◌else◌}
use Rattle.std.specs.Option.{option_map_or}
use Rattle.gq_lex.specs.declared.token.Kind.{Kind}
use Rattle.gq_lex.specs.declared.token.Kind.TheVariants.{Dollar}
use Rattle.gq_lex.specs.Tokens.{Lexeme}
use Rattle.gq_completion.specs.Tokens.{is_name}

abbrev pub is_dollar : Kind → Bool
is_dollar Dollar = true
is_dollar _ = false

-- a `$` that begins at another place
abbrev pub is_other_dollar : Option ℕ → Lexeme → Bool
is_other_dollar place t = is_dollar t.kind && not (option_map_or (nat_eq t.span.start) place false)

-- the names behind such a `$`; the first token stands behind one or not
abbrev pub names_behind : Option ℕ → Bool → List Lexeme → List (List ℕ)
names_behind place behind [] = []
names_behind place behind (t ∷ ts) = (if behind && is_name t.kind then t.text ∷ [] else []) ++ names_behind place (is_other_dollar place t) ts
