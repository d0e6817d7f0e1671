-- Texts with the same tokens.
use Rattle.std.specs.Prelude.{◌≡◌, ℕ, true, List, [], ◌∷◌, ◌++◌, map, flat_map}
use Rattle.gq_lex.specs.Bytes.{is_line_terminator}
use Rattle.gq_lex.specs.declared.token.Kind.{Kind}
use Rattle.gq_lex.specs.Tokens.{Lexeme, Reads}
use Rattle.gq_tree.specs.Plain.{Def, TypeSystemOf, operation, fragment, type_system, erase_document}
use Rattle.gq_tree.specs.Readings.{ParsedOf, definitions_read}
use Rattle.gq_parse.specs.Parsed.{IsParsed}

-- a token, its place forgotten
pub record Spelling : Type 0 where
  pub kind : Kind
  pub text : List ℕ

abbrev pub spelling_of : Lexeme → Spelling
spelling_of t = record { kind = t.kind; text = t.text }

-- Both texts read as tokens, and these are the same but for their places.
pub record ReadAlike (text other : List ℕ) : Type 0 where
  pub tokens : List Lexeme
  pub reads : Reads text tokens
  pub others : List Lexeme
  pub reads_others : Reads other others
  pub same : map spelling_of tokens ≡ map spelling_of others

-- a text that is empty or begins with a line end
abbrev pub BeginsLine : List ℕ → Type 0
BeginsLine [] = Unit {0}
BeginsLine (b ∷ rest) = is_line_terminator b ≡ true

-- a text can be cut there: nothing stands before, or a line ends
abbrev pub CanBeCut : (front rest : List ℕ) → Type 0
CanBeCut [] rest = Unit {0}
CanBeCut (b ∷ front) rest = BeginsLine rest

-- Lines in the middle of a text that is read are exchanged for others: where these, and what stands before, read by themselves, and both
-- have the same tokens, so have the whole texts.
abbrev pub LinesReadApart : Type 0
LinesReadApart = (front old new back : List ℕ) (before tokens : List Lexeme) →
    CanBeCut front (old ++ back) → CanBeCut front (new ++ back) → BeginsLine back → Reads front before → ReadAlike old new →
    Reads (front ++ (old ++ back)) tokens → ReadAlike (front ++ (old ++ back)) (front ++ (new ++ back))

-- the definitions of the type system among these
abbrev pub types_in : {P : Type 0} → Def P → List (TypeSystemOf P)
types_in (operation kind name variables directives set braces place) = []
types_in (fragment name on directives set braces place) = []
types_in (type_system definition) = definition ∷ []

-- what a document defines of the type system, its places forgotten
abbrev pub erased_types : ParsedOf → List (TypeSystemOf (Unit {0}))
erased_types r = flat_map types_in (erase_document (definitions_read r))

-- Documents whose texts have the same tokens define the same types, their places forgotten.
abbrev pub SameTokensDefineAlike : Type 0
SameTokensDefineAlike = (text other : List ℕ) (r q : ParsedOf) → ReadAlike text other → IsParsed text r → IsParsed other q → erased_types r ≡ erased_types q
