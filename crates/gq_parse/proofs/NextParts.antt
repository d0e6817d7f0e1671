-- The parts of rows.
use Rattle.std.proofs.Common.{◌≡◌, List, ◌∷◌, Bool, true, refl, sym, subst}
use Rattle.std.specs.Prelude.{codes, ℕ}
use Rattle.gq_text.specs.declared.place.Span.{Span}
use Rattle.gq_lex.specs.declared.token.Kind.{Kind}
use Rattle.gq_lex.specs.declared.token.Kind.TheVariants as kind
use Rattle.gq_lex.specs.Tokens.{Lexeme}
use Rattle.gq_tree.specs.Plain.{Val, VariableOf, InputOf, FieldDefinitionOf, EnumValueOf, RootOf}
use Rattle.gq_parse.specs.Grammar.{Tokens, IsPunctuator, IsValueWord, IsArgument, an_argument, IsVariableDefinition, a_variable_definition, a_query, a_mutation, a_subscription}
use Rattle.gq_parse.specs.Helping.Words.{word_of}
use Rattle.gq_parse.specs.declared.expected.Word.{Word}
use Rattle.gq_parse.specs.declared.expected.Word.TheVariants as word
use Rattle.gq_parse.specs.declared.expected.Row.{Row}
use Rattle.gq_parse.specs.declared.expected.Row.TheVariants.{Arguments, Variables, ArgumentDefinitions, InputFields, Fields, EnumValues, Roots}
use Rattle.gq_parse.specs.declared.expected.Symbol.TheVariants.{AnyName, EnumValueName, Directives, OptionalRow}
use Rattle.gq_parse.specs.declared.expected.Move.TheVariants.{TakesThen}
use Rattle.gq_parse.specs.Helping.Expected.{name_move, argument_move, variable_move, input_move, field_move, value_word_stops, enum_value_move, root_word_move, part_move}
use Rattle.gq_parse.proofs.Means.{PartOf, IsPart, Means, After, punctuator, spelled, here, spelled_here, name_here, keyword_here, by_move, CanGoOn}
use Rattle.gq_parse.specs.TypeSystem.{no_description, a_description, a_block_description, IsRoot, a_root, IsInputValue, an_input_value, IsFieldDefinition, a_field_definition, IsEnumValueDefinition, an_enum_value}
use Rattle.gq_parse.proofs.WordsAre.{spells, keyword_is}
use Rattle.gq_parse.proofs.NextWords.{no_value_word, is_no_value_word}

-- what a token that begins a part of a row leaves
abbrev pub NextPart : Row → Lexeme → Tokens → Tokens → Type 0
NextPart r t ts y = After (part_move r t.kind (word_of t.text)) t ts y

part_at : (t : Lexeme) (ts y : Tokens) (r : Row) (k : Kind) → t.kind ≡ k → After (part_move r k (word_of t.text)) t ts y → NextPart r t ts y
part_at t ts y r k e h = subst (λ (x : Kind). After (part_move r x (word_of t.text)) t ts y) (sym e) h

word_at : (t : Lexeme) (ts y : Tokens) (r : Row) (w : Word) → t.kind ≡ kind.Name → word_of t.text ≡ w → After (part_move r kind.Name w) t ts y → NextPart r t ts y
word_at t ts y r w e f h = part_at t ts y r kind.Name e (subst (λ (x : Word). After (part_move r kind.Name x) t ts y) (sym f) h)

-- Argument
forth_argument : (c : Bool) {v : Val Span} (t : Lexeme) (ts y : Tokens) → IsArgument c v (t ∷ ts) y → NextPart (Arguments c) t ts y
forth_argument c t ts y (an_argument a b n p h) =
    let e = spelled n in
    part_at t ts y (Arguments c) kind.Name e.0 (b, subst (λ (x : Tokens). IsPunctuator kind.Colon x b) e.1 p, (_, _, h))

back_argument : (c : Bool) (t : Lexeme) (ts y : Tokens) (k : Kind) → t.kind ≡ k → After (argument_move c k) t ts y → (v : Val Span) × IsArgument c v (t ∷ ts) y
back_argument c t ts y kind.Name e (m, p, v) = (_, an_argument ts m (name_here e) p v.2)
back_argument c t ts y _ e h = absurd h

-- VariableDefinition
forth_variable : {v : VariableOf Span} (t : Lexeme) (ts y : Tokens) → IsVariableDefinition v (t ∷ ts) y → NextPart Variables t ts y
forth_variable t ts y (a_variable_definition a b c d f p n q h i j) =
    let e = punctuator p in
    part_at t ts y Variables kind.Dollar e.0 (b, c, d, f, subst (λ (x : Tokens). Means AnyName x b) e.1 (_, n), q, (_, h), (_, i), (_, j))

back_variable : (t : Lexeme) (ts y : Tokens) (k : Kind) → t.kind ≡ k → After (variable_move k) t ts y → (v : VariableOf Span) × IsVariableDefinition v (t ∷ ts) y
back_variable t ts y kind.Dollar e (m, n, o, p, a, b, c, d, f) = (_, a_variable_definition ts m n o p (here e) a.1 b c.1 d.1 f.1)
back_variable t ts y _ e h = absurd h

-- InputValueDefinition, in parentheses or in braces
input_at : (t : Lexeme) (ts y : Tokens) (k : Kind) → t.kind ≡ k → After (input_move k) t ts y → After (input_move t.kind) t ts y
input_at t ts y k e h = subst (λ (x : Kind). After (input_move x) t ts y) (sym e) h

forth_input : {v : InputOf Span} (t : Lexeme) (ts y : Tokens) → IsInputValue v (t ∷ ts) y → After (input_move t.kind) t ts y
forth_input t ts y (an_input_value a b c d f (no_description _ _) n p h i j) =
    let e = spelled n in
    input_at t ts y kind.Name e.0 (c, d, f, subst (λ (x : Tokens). IsPunctuator kind.Colon x c) e.1 p, (_, h), (_, i), (_, j))
forth_input t ts y (an_input_value a b c d f (a_description s) n p h i j) =
    let e = spelled s in
    input_at t ts y kind.String e.0 (b, c, d, f, subst (λ (x : Tokens). Means AnyName x b) e.1 (_, n), p, (_, h), (_, i), (_, j))
forth_input t ts y (an_input_value a b c d f (a_block_description s) n p h i j) =
    let e = spelled s in
    input_at t ts y kind.BlockString e.0 (b, c, d, f, subst (λ (x : Tokens). Means AnyName x b) e.1 (_, n), p, (_, h), (_, i), (_, j))

back_input : (t : Lexeme) (ts y : Tokens) (k : Kind) → t.kind ≡ k → After (input_move k) t ts y → (v : InputOf Span) × IsInputValue v (t ∷ ts) y
back_input t ts y kind.Name e (m, n, o, p, h, i, j) =
    (_, an_input_value (t ∷ ts) ts m n o (no_description (λ q. cc) (λ q. cc)) (name_here e) p h.1 i.1 j.1)
back_input t ts y kind.String e (m, n, o, p, a, b, h, i, j) =
    (_, an_input_value ts m n o p (a_description (spelled_here e)) a.1 b h.1 i.1 j.1)
back_input t ts y kind.BlockString e (m, n, o, p, a, b, h, i, j) =
    (_, an_input_value ts m n o p (a_block_description (spelled_here e)) a.1 b h.1 i.1 j.1)
back_input t ts y _ e h = absurd h

-- FieldDefinition
forth_field : {v : FieldDefinitionOf Span} (t : Lexeme) (ts y : Tokens) → IsFieldDefinition v (t ∷ ts) y → NextPart Fields t ts y
forth_field t ts y (a_field_definition a b c d f (no_description _ _) n h p i j) =
    let e = spelled n in
    part_at t ts y Fields kind.Name e.0 (c, d, f, subst (λ (x : Tokens). Means (OptionalRow ArgumentDefinitions) x c) e.1 (_, h), p, (_, i), (_, j))
forth_field t ts y (a_field_definition a b c d f (a_description s) n h p i j) =
    let e = spelled s in
    part_at t ts y Fields kind.String e.0 (b, c, d, f, subst (λ (x : Tokens). Means AnyName x b) e.1 (_, n), (_, h), p, (_, i), (_, j))
forth_field t ts y (a_field_definition a b c d f (a_block_description s) n h p i j) =
    let e = spelled s in
    part_at t ts y Fields kind.BlockString e.0 (b, c, d, f, subst (λ (x : Tokens). Means AnyName x b) e.1 (_, n), (_, h), p, (_, i), (_, j))

back_field : (t : Lexeme) (ts y : Tokens) (k : Kind) → t.kind ≡ k → After (field_move k) t ts y → (v : FieldDefinitionOf Span) × IsFieldDefinition v (t ∷ ts) y
back_field t ts y kind.Name e (m, n, o, h, p, i, j) =
    (_, a_field_definition (t ∷ ts) ts m n o (no_description (λ q. cc) (λ q. cc)) (name_here e) h.1 p i.1 j.1)
back_field t ts y kind.String e (m, n, o, p, a, h, b, i, j) =
    (_, a_field_definition ts m n o p (a_description (spelled_here e)) a.1 h.1 b i.1 j.1)
back_field t ts y kind.BlockString e (m, n, o, p, a, h, b, i, j) =
    (_, a_field_definition ts m n o p (a_block_description (spelled_here e)) a.1 h.1 b i.1 j.1)
back_field t ts y _ e h = absurd h

-- EnumValueDefinition
forth_enum_value : {v : EnumValueOf Span} (t : Lexeme) (ts y : Tokens) → IsEnumValueDefinition v (t ∷ ts) y → NextPart EnumValues t ts y
forth_enum_value t ts y (an_enum_value a b (no_description _ _) n v j) =
    let e = spelled n in
    let u : IsValueWord t.text → ⊥ = subst (λ (x : List ℕ). IsValueWord x → ⊥) e.2 v in
    part_at t ts y EnumValues kind.Name e.0 (by_move t ts y (TakesThen (Directives true)) (value_word_stops (word_of t.text) (TakesThen (Directives true))) (no_value_word t.text (word_of t.text) (TakesThen (Directives true)) refl u) (subst (λ (x : Tokens). Means (Directives true) x y) e.1 (_, j)))
forth_enum_value t ts y (an_enum_value a b (a_description s) n v j) =
    let e = spelled s in
    part_at t ts y EnumValues kind.String e.0 (b, subst (λ (x : Tokens). Means EnumValueName x b) e.1 (_, n, v), (_, j))
forth_enum_value t ts y (an_enum_value a b (a_block_description s) n v j) =
    let e = spelled s in
    part_at t ts y EnumValues kind.BlockString e.0 (b, subst (λ (x : Tokens). Means EnumValueName x b) e.1 (_, n, v), (_, j))

back_enum_value : (t : Lexeme) (ts y : Tokens) (k : Kind) → t.kind ≡ k → After (enum_value_move k (word_of t.text)) t ts y → (v : EnumValueOf Span) × IsEnumValueDefinition v (t ∷ ts) y
back_enum_value t ts y kind.Name e h =
    let r = is_no_value_word t ts y (word_of t.text) (TakesThen (Directives true)) refl h in
    (_, an_enum_value (t ∷ ts) ts (no_description (λ q. cc) (λ q. cc)) (name_here e) r.0 r.1.1)
back_enum_value t ts y kind.String e (m, n, j) = (_, an_enum_value ts m (a_description (spelled_here e)) n.1 n.2 j.1)
back_enum_value t ts y kind.BlockString e (m, n, j) = (_, an_enum_value ts m (a_block_description (spelled_here e)) n.1 n.2 j.1)
back_enum_value t ts y _ e h = absurd h

-- RootOperationTypeDefinition
forth_root : {v : RootOf Span} (t : Lexeme) (ts y : Tokens) → IsRoot v (t ∷ ts) y → NextPart Roots t ts y
forth_root t ts y (a_root a b (a_query h) p n) =
    let e = spelled h in
    word_at t ts y Roots word.Query e.0 (keyword_is t.text word.Query tt (sym e.2)) (b, subst (λ (x : Tokens). IsPunctuator kind.Colon x b) e.1 p, (_, n))
forth_root t ts y (a_root a b (a_mutation h) p n) =
    let e = spelled h in
    word_at t ts y Roots word.Mutation e.0 (keyword_is t.text word.Mutation tt (sym e.2)) (b, subst (λ (x : Tokens). IsPunctuator kind.Colon x b) e.1 p, (_, n))
forth_root t ts y (a_root a b (a_subscription h) p n) =
    let e = spelled h in
    word_at t ts y Roots word.Subscription e.0 (keyword_is t.text word.Subscription tt (sym e.2)) (b, subst (λ (x : Tokens). IsPunctuator kind.Colon x b) e.1 p, (_, n))

back_root_word : (t : Lexeme) (ts y : Tokens) (w : Word) → t.kind ≡ kind.Name → word_of t.text ≡ w → After (root_word_move w) t ts y → (v : RootOf Span) × IsRoot v (t ∷ ts) y
back_root_word t ts y word.Query e f (m, p, n) = (_, a_root ts m (a_query (keyword_here (codes "query") e (sym (spells t.text word.Query tt f)))) p n.1)
back_root_word t ts y word.Mutation e f (m, p, n) = (_, a_root ts m (a_mutation (keyword_here (codes "mutation") e (sym (spells t.text word.Mutation tt f)))) p n.1)
back_root_word t ts y word.Subscription e f (m, p, n) = (_, a_root ts m (a_subscription (keyword_here (codes "subscription") e (sym (spells t.text word.Subscription tt f)))) p n.1)
back_root_word t ts y _ e f h = absurd h

back_root : (t : Lexeme) (ts y : Tokens) (k : Kind) → t.kind ≡ k → After (name_move k (root_word_move (word_of t.text))) t ts y → (v : RootOf Span) × IsRoot v (t ∷ ts) y
back_root t ts y kind.Name e h = back_root_word t ts y (word_of t.text) e refl h
back_root t ts y _ e h = absurd h

pub forth_part : (r : Row) (p : PartOf r) (t : Lexeme) (ts y : Tokens) → IsPart r p (t ∷ ts) y → NextPart r t ts y
forth_part (Arguments c) p t ts y h = forth_argument c t ts y h
forth_part Variables p t ts y h = forth_variable t ts y h
forth_part ArgumentDefinitions p t ts y h = forth_input t ts y h
forth_part InputFields p t ts y h = forth_input t ts y h
forth_part Fields p t ts y h = forth_field t ts y h
forth_part EnumValues p t ts y h = forth_enum_value t ts y h
forth_part Roots p t ts y h = forth_root t ts y h

pub back_part : (r : Row) (t : Lexeme) (ts y : Tokens) → NextPart r t ts y → (p : PartOf r) × IsPart r p (t ∷ ts) y
back_part (Arguments c) t ts y h = back_argument c t ts y t.kind refl h
back_part Variables t ts y h = back_variable t ts y t.kind refl h
back_part ArgumentDefinitions t ts y h = back_input t ts y t.kind refl h
back_part InputFields t ts y h = back_input t ts y t.kind refl h
back_part Fields t ts y h = back_field t ts y t.kind refl h
back_part EnumValues t ts y h = back_enum_value t ts y t.kind refl h
back_part Roots t ts y h = back_root t ts y t.kind refl h

root_word_goes_on : (w : Word) → CanGoOn (root_word_move w)
root_word_goes_on word.Query = tt
root_word_goes_on _ = tt

root_goes_on : (k : Kind) (w : Word) → CanGoOn (name_move k (root_word_move w))
root_goes_on kind.Name w = root_word_goes_on w
root_goes_on _ w = tt

value_word_goes_on : (w : Word) → CanGoOn (value_word_stops w (TakesThen (Directives true)))
value_word_goes_on word.True = tt
value_word_goes_on _ = tt

enum_value_goes_on : (k : Kind) (w : Word) → CanGoOn (enum_value_move k w)
enum_value_goes_on kind.Name w = value_word_goes_on w
enum_value_goes_on _ w = tt

argument_goes_on : (c : Bool) (k : Kind) → CanGoOn (argument_move c k)
argument_goes_on c kind.Name = tt
argument_goes_on c _ = tt

variable_goes_on : (k : Kind) → CanGoOn (variable_move k)
variable_goes_on kind.Dollar = tt
variable_goes_on _ = tt

input_goes_on : (k : Kind) → CanGoOn (input_move k)
input_goes_on kind.Name = tt
input_goes_on _ = tt

field_goes_on : (k : Kind) → CanGoOn (field_move k)
field_goes_on kind.Name = tt
field_goes_on _ = tt

pub part_goes_on : (r : Row) (k : Kind) (w : Word) → CanGoOn (part_move r k w)
part_goes_on (Arguments c) k w = argument_goes_on c k
part_goes_on Variables k w = variable_goes_on k
part_goes_on ArgumentDefinitions k w = input_goes_on k
part_goes_on InputFields k w = input_goes_on k
part_goes_on Fields k w = field_goes_on k
part_goes_on EnumValues k w = enum_value_goes_on k w
part_goes_on Roots k w = root_goes_on k w
