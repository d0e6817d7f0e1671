-- What stands before a definition of a document ends with no string.
use Rattle.std.proofs.Common.{◌≡◌, ◌+◌, ◌-◌, List, [], ◌∷◌, ◌++◌, refl, sym, ap, subst, ◌∙◌, append_assoc}
use Rattle.std.proofs.lemmas.List.{append-nil}
use Rattle.gq_text.specs.declared.place.Span.{Span}
use Rattle.gq_tree.specs.Plain.{Def}
use Rattle.gq_parse.specs.Documents.{IsDefinition, IsDocument, at_end, definition}
use Rattle.gq_parse.specs.Grammar.{Tokens}
use Rattle.gq_laws.proofs.Cutting.Reading.{nothing_ends, EndsUnquoted, at_start, behind_token}
use Rattle.gq_laws.proofs.Cutting.Unquoted.{firm_definition}

-- ---- what ends with no string

unquoted_more : (xs ys : Tokens) → EndsUnquoted xs → EndsUnquoted ys → EndsUnquoted (xs ++ ys)
unquoted_more xs ys first at_start = subst EndsUnquoted (sym (append-nil xs)) first
unquoted_more xs ys first (behind_token others t is no_string) =
    behind_token (xs ++ others) t (ap (λ (l : Tokens). xs ++ l) is ∙ sym (append_assoc xs others (t ∷ []))) no_string

-- an end of what ends with no string
pub unquoted_end : (xs ys : Tokens) {zs : Tokens} → zs ≡ xs ++ ys → EndsUnquoted zs → EndsUnquoted ys
unquoted_end xs [] is e = at_start
unquoted_end xs (y ∷ ys) is at_start = absurd (nothing_ends xs ys y is)
unquoted_end xs (y ∷ ys) is (behind_token others t last no_string) = within xs others (sym is ∙ last)
  where
    within : (xs others : Tokens) → xs ++ y ∷ ys ≡ others ++ t ∷ [] → EndsUnquoted (y ∷ ys)
    within [] others e = behind_token others t e no_string
    within (x ∷ xs) [] e = let f : [] ≡ xs ++ y ∷ ys = cc in absurd (nothing_ends xs ys y f)
    within (x ∷ xs) (o ∷ others) e = within xs others (cc)

-- ---- a definition of a document

-- What stands before it ends with no string.
pub record AtDefinition (d : Def Span) (later : List (Def Span)) (tokens : Tokens) : Type 0 where
  pub front : Tokens
  pub own : Tokens
  pub behind : Tokens
  pub cut : tokens ≡ front ++ own
  pub is : IsDefinition d own behind
  pub others : IsDocument later behind
  pub unquoted : EndsUnquoted front

pub at_definition : (ds : List (Def Span)) (d : Def Span) (later : List (Def Span)) {all : List (Def Span)} {tokens : Tokens} → IsDocument all tokens → all ≡ ds ++ d ∷ later →
    AtDefinition d later tokens
at_definition ds d later at_end is = absurd (nothing_ends ds later d is)
at_definition [] d later {tokens = tokens} (definition {d = e} {ds = es} a h more) is =
    let same : e ≡ d = cc in
    let others : es ≡ later = cc in
    record {
      front = [];
      own = tokens;
      behind = a;
      cut = refl;
      is = subst (λ (x : Def Span). IsDefinition x tokens a) same h;
      others = subst (λ (l : List (Def Span)). IsDocument l a) others more;
      unquoted = at_start;
    }
at_definition (x ∷ ds) d later {tokens = tokens} (definition {d = e} {ds = es} a h more) is =
    let others : es ≡ ds ++ d ∷ later = cc in
    let m = at_definition ds d later more others in
    let f = firm_definition h in
    let run : Tokens = f.others ++ f.token ∷ [] in
    let parts : tokens ≡ run ++ a = f.is ∙ sym (append_assoc f.others (f.token ∷ []) a) in
    record {
      front = run ++ m.front;
      own = m.own;
      behind = m.behind;
      cut = parts ∙ ap (λ (l : Tokens). run ++ l) m.cut ∙ sym (append_assoc run m.front m.own);
      is = m.is;
      others = m.others;
      unquoted = unquoted_more run m.front (behind_token f.others f.token refl f.no_string) m.unquoted;
    }
