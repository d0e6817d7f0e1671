-- Phrases as the private functions read them, each with one thing that it gives. Only contracts of private functions speak of these.
use Rattle.std.specs.Prelude.{◌≡◌, Bool, List, [], ◌∷◌}
use Rattle.gq_text.specs.declared.place.Span.{Span}
use Rattle.gq_lex.specs.declared.token.Kind.{Kind}
use Rattle.gq_lex.specs.declared.token.Kind.TheVariants as kind
use Rattle.gq_tree.specs.Plain.{NameOf, Says, Val, Vals, unnamed, DirectiveOf, Sel}
use Rattle.gq_parse.specs.Grammar.{Tokens, covered, IsPunctuator, IsName, IsValue, IsArguments, IsSelection}

-- the first token is of this kind
abbrev pub Begins : Kind → Tokens → Type 0
Begins k [] = ⊥
Begins k (t ∷ ts) = t.kind ≡ k

-- no such phrase stands first
abbrev pub Lacks : {A : Type 0} → (A → Tokens → Tokens → Type 0) → Tokens → Type 0
Lacks {A} X tokens = (x : A) (rest : Tokens) → X x tokens rest → ⊥

-- X is read in one way at most
abbrev pub Unique : {A : Type 0} → (A → Tokens → Tokens → Type 0) → Type 0
Unique {A} X = (x y : A) (tokens other a b : Tokens) → X x tokens a → tokens ≡ other → X y other b → (x ≡ y) × (a ≡ b)

-- no X begins with a token of this kind
abbrev pub NeverBegins : {A : Type 0} → Kind → (A → Tokens → Tokens → Type 0) → Type 0
NeverBegins {A} k X = (x : A) (tokens a : Tokens) → X x tokens a → Begins k tokens → ⊥

-- Variable : $ Name
pub record IsVariable (name : NameOf Span) (tokens rest : Tokens) : Type 0 where
  pub behind : Tokens
  pub dollar : IsPunctuator kind.Dollar tokens behind
  pub names : IsName name behind rest

-- a value by itself
pub data IsLoneValue (constant : Bool) : Val Span → Tokens → Tokens → Type 0 where
  lone : {says : Says Span} {below : Vals Span} {tokens rest : Tokens} → IsValue constant says below tokens rest → IsLoneValue constant (unnamed says below) tokens rest

-- Directive : @ Name Arguments?
pub data IsDirective (constant : Bool) : DirectiveOf Span → Tokens → Tokens → Type 0 where
  one_directive : {name : NameOf Span} {arguments : List (Val Span)} {tokens rest : Tokens} (a b : Tokens) → IsPunctuator kind.At tokens a → IsName name a b → IsArguments constant arguments b rest → IsDirective constant (record { name = name; arguments = arguments; place = covered tokens rest }) tokens rest

-- a selection with those in its braces
abbrev pub IsSel : Sel Span → Tokens → Tokens → Type 0
IsSel s = IsSelection s.label s.below
