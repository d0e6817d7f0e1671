-- Where tokens stand in a text: those before a place are the same however they are found.
use Rattle.std.proofs.Common.{◌≡◌, ℕ, zero, suc, ◌+◌, ◌≤◌, List, [], ◌∷◌, ◌++◌, refl, sym, ap, subst, ◌∙◌, arith, append_assoc, true}
use Rattle.gq_text.specs.declared.place.Span.{Span}
use Rattle.gq_lex.specs.declared.token.Kind.TheVariants as kind
use Rattle.gq_lex.specs.Places.{StandIn}
use Rattle.gq_lex.specs.Tokens.{IsToken, Lexeme, Reads}
use Rattle.gq_lex.proofs.Standing.{tokens_stand}
use Rattle.gq_tree.specs.Plain.{NameOf, DirectiveOf, Sels, Def, fragment}
use Rattle.gq_parse.specs.Documents.{IsDefinition, an_operation, a_fragment, a_type_system_definition, IsDocument}
use Rattle.gq_parse.specs.Grammar.{Tokens, starts, ends, bare, typed, fragment_on}
use Rattle.gq_renamed.specs.Names.{IsNameText}
use Rattle.gq_laws.proofs.Cutting.DefinitionRuns.{AtDefinition, at_definition}
use Rattle.gq_laws.proofs.Cutting.DocumentHoles.{IsAt}
use Rattle.gq_laws.proofs.Cutting.ExtractedTexts.{FirstAndLast, first_and_last}
use Rattle.gq_laws.proofs.Cutting.Phrases.{IsSome}
use Rattle.gq_laws.proofs.Cutting.Reading.{EndsUnquoted, up_to}
use Rattle.gq_laws.proofs.Cutting.Words.{is_name_kind, name_before}

later : (text : List ℕ) (at : ℕ) (front : Tokens) (t : Lexeme) (ts : Tokens) → StandIn text at (front ++ t ∷ ts) → at ≤ t.span.start
later text at [] t ts stand = stand.0
later text at (x ∷ front) t ts stand = omega (arith, stand.0, stand.1, later text x.span.end front t ts stand.3)

-- tokens of one start are one token, with the same tokens before it
one_front : (text : List ℕ) (at : ℕ) (f g : Tokens) (t u : Lexeme) (xs ys : Tokens) → StandIn text at (f ++ t ∷ xs) → f ++ t ∷ xs ≡ g ++ u ∷ ys → t.span.start ≡ u.span.start → (f ≡ g) × (t ≡ u)
one_front text at [] [] t u xs ys stand e same = (refl, cc)
one_front text at [] (y ∷ g) t u xs ys stand e same =
    let head : t ≡ y = cc in
    let tail : xs ≡ g ++ u ∷ ys = cc in
    let behind = later text t.span.end g u ys (subst (StandIn text t.span.end) tail stand.3) in
    absurd (omega (arith, stand.1, behind, same))
one_front text at (x ∷ f) [] t u xs ys stand e same =
    let head : x ≡ u = cc in
    let start : x.span.start ≡ u.span.start = ap (λ (l : Lexeme). l.span.start) head in
    let behind = later text x.span.end f t xs stand.3 in
    absurd (omega (arith, stand.1, behind, same, start))
one_front text at (x ∷ f) (y ∷ g) t u xs ys stand e same =
    let head : x ≡ y = cc in
    let tail : f ++ t ∷ xs ≡ g ++ u ∷ ys = cc in
    let r = one_front text x.span.end f g t u xs ys stand.3 tail same in
    (let i = r.0 in cc, r.1)

-- the definitions before one and behind it
at_split : (n : ℕ) (d : Def Span) (ds : List (Def Span)) → IsAt d n ds → (before : List (Def Span)) × (behind : List (Def Span)) × (ds ≡ before ++ d ∷ behind)
at_split n d [] i = absurd i
at_split zero d (e ∷ ds) i = ([], ds, ap (λ (x : Def Span). x ∷ ds) i)
at_split (suc n) d (e ∷ ds) i = let s = at_split n d ds i in (e ∷ s.0, s.1, ap (λ (l : List (Def Span)). e ∷ l) s.2)

pub definition_at : (n : ℕ) (d : Def Span) {ds : List (Def Span)} {tokens : Tokens} → IsDocument ds tokens → IsAt d n ds → (behind : List (Def Span)) × AtDefinition d behind tokens
definition_at n d {ds} derived i = let s = at_split n d ds i in (s.1, at_definition s.0 d s.1 derived s.2)

-- the word that a fragment begins with, and the name of its type
record FragmentBegins (on : NameOf Span) (whole : Span) (tokens : Tokens) : Type 0 where
  word : Lexeme
  name : Lexeme
  short : Lexeme
  type : Lexeme
  rest : Tokens
  is : tokens ≡ word ∷ name ∷ short ∷ type ∷ rest
  word_kind : word.kind ≡ kind.Name
  word_start : word.span.start ≡ whole.start
  type_kind : type.kind ≡ kind.Name
  type_text : on.text ≡ type.text

fragment_begins : {d : Def Span} {tokens rest : Tokens} (called on : NameOf Span) (directives : List (DirectiveOf Span)) (set : Sels Span) (braces whole : Span) → IsDefinition d tokens rest →
    d ≡ fragment called on directives set braces whole → FragmentBegins on whole tokens
fragment_begins called on directives set braces whole (an_operation (bare s)) e = absurd (cc)
fragment_begins called on directives set braces whole (an_operation (typed a b c d t n vs xs s)) e = absurd (cc)
fragment_begins {tokens = tokens} called on directives set braces whole (a_fragment (fragment_on {on = o} a b c d first w n t xs s)) e =
    let same : o ≡ on = cc in
    let start : starts tokens ≡ whole.start = cc in
    record {
      word = w.token;
      name = n.is_name.token;
      short = t.begins.token;
      type = t.names.token;
      rest = c;
      is = w.first ∙ ap (λ (l : Tokens). w.token ∷ l) (n.is_name.first ∙ ap (λ (l : Tokens). n.is_name.token ∷ l) (t.begins.first ∙ ap (λ (l : Tokens). t.begins.token ∷ l) t.names.first));
      word_kind = w.kind;
      word_start = sym (ap starts w.first) ∙ start;
      type_kind = t.names.kind;
      type_text = ap (λ (x : NameOf Span). x.text) (sym same) ∙ t.names.spelling;
    }
fragment_begins called on directives set braces whole (a_type_system_definition h) e = absurd (cc)

-- the name of a fragment's type is a Name
pub type_name : (text : List ℕ) {ds : List (Def Span)} {tokens : Tokens} (n : ℕ) (called on : NameOf Span) (directives : List (DirectiveOf Span)) (set : Sels Span) (braces whole : Span) →
    Reads text tokens → IsDocument ds tokens → IsAt (fragment called on directives set braces whole) n ds → IsNameText on.text
type_name text {tokens = tokens} n called on directives set braces whole reads derived i =
    let m = (definition_at n (fragment called on directives set braces whole) derived i).1 in
    let b = fragment_begins called on directives set braces whole m.is refl in
    let front : Tokens = m.front ++ b.word ∷ b.name ∷ b.short ∷ [] in
    let all : tokens ≡ front ++ b.type ∷ b.rest = m.cut ∙ ap (λ (l : Tokens). m.front ++ l) b.is ∙ sym (append_assoc m.front (b.word ∷ b.name ∷ b.short ∷ []) (b.type ∷ b.rest)) in
    let u = up_to front b.type b.rest reads all in
    let own : IsToken b.type.kind b.type.text [] = name_before {after = u.behind} [] u.own (ap is_name_kind b.type_kind) tt in
    subst (λ (l : List ℕ). IsNameText l) (sym b.type_text) (subst (λ k. IsToken k b.type.text []) b.type_kind own)

-- What is known of the tokens of a fragment that goes.
pub record GoneRun (whole : Span) (front gone : Tokens) : Type 0 where
  pub run : FirstAndLast gone
  pub begins : run.first.span.start ≡ whole.start
  pub finishes : run.last.span.end ≡ whole.end
  pub is_name : is_name_kind run.first.kind ≡ true
  pub unquoted : EndsUnquoted front

pub gone_run : (text : List ℕ) {ds : List (Def Span)} {tokens : Tokens} (n : ℕ) (called on : NameOf Span) (directives : List (DirectiveOf Span)) (set : Sels Span) (braces whole : Span)
    (front gone behind : Tokens) →
    Reads text tokens → IsDocument ds tokens → IsAt (fragment called on directives set braces whole) n ds → tokens ≡ front ++ (gone ++ behind) → IsSome gone → (starts gone ≡ whole.start) ×
    (ends gone ≡ whole.end) → GoneRun whole front gone
gone_run text {tokens = tokens} n called on directives set braces whole front gone behind reads derived i cut some covers =
    let m = (definition_at n (fragment called on directives set braces whole) derived i).1 in
    let b = fragment_begins called on directives set braces whole m.is refl in
    let f = first_and_last gone some in
    let start : f.first.span.start ≡ whole.start = f.begins ∙ covers.0 in
    let here : tokens ≡ front ++ f.first ∷ (f.more ++ behind) = cut ∙ ap (λ (l : Tokens). front ++ (l ++ behind)) f.is in
    let there : tokens ≡ m.front ++ b.word ∷ (b.name ∷ b.short ∷ b.type ∷ b.rest) = m.cut ∙ ap (λ (l : Tokens). m.front ++ l) b.is in
    let same =
    one_front text 0 front m.front f.first b.word (f.more ++ behind) (b.name ∷ b.short ∷ b.type ∷ b.rest) (subst (StandIn text 0) here (tokens_stand text tokens reads)) (sym here ∙ there)
    (start ∙ sym b.word_start) in
    record {
      run = f;
      begins = start;
      finishes = f.finishes ∙ covers.1;
      is_name = ap (λ (t : Lexeme). is_name_kind t.kind) same.1 ∙ ap is_name_kind b.word_kind;
      unquoted = subst EndsUnquoted (sym same.0) m.unquoted;
    }
