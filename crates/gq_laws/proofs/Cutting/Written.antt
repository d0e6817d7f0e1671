-- Tokens that an edit writes, and what they are.
use Rattle.std.proofs.Common.{◌≡◌, ℕ, true, false, List, [], ◌∷◌, ◌++◌, refl, sym, ap, subst, ◌∙◌, append_assoc, append-nil}
use Rattle.std.specs.Prelude.{codes}
use Rattle.gq_text.specs.declared.place.Span.{Span}
use Rattle.gq_lex.specs.declared.token.Kind.{Kind}
use Rattle.gq_lex.specs.declared.token.Kind.TheVariants as kind
use Rattle.gq_lex.specs.Tokens.{Lexeme}
use Rattle.gq_tree.specs.Forest.{none, more}
use Rattle.gq_tree.specs.Plain.{NameOf, Head, spread, Sels, fragment, erase_all}
use Rattle.gq_parse.specs.Grammar.{Tokens, NotNext, covered, IsName, IsKeyword, IsFragmentName, IsTypeCondition, no_directive, a_spread, IsSelectionSet, braces, IsSelections, set_closed, selection}
use Rattle.gq_parse.specs.Grammar.{fragment_on}
use Rattle.gq_parse.specs.Documents.{at_end, definition, a_fragment}
use Rattle.gq_renamed.proofs.Regrammar.{plain_head}
use Rattle.gq_rewritten.specs.Rewrites.{bare_name}
use Rattle.gq_laws.proofs.Cutting.Alike.{AreAlike}
use Rattle.gq_laws.proofs.Cutting.Phrases.{MayFollow, cut_alike}
use Rattle.gq_laws.proofs.Cutting.Ends.{behind_selection, ends_follow, selections_end}
use Rattle.gq_laws.proofs.Cutting.Rows.{RowBefore, SomeBefore, some_before, followed_by_none}
use Rattle.gq_laws.proofs.Cutting.DocumentHoles.{goes_on, begins_as_implements, behind_definition, HasTree}

-- a token somewhere
abbrev pub sample : Kind → List ℕ → Lexeme
sample k text = record { kind = k; text = text; span = record { start = 0; end = 0 } }

-- `...NAME`
abbrev pub spread_tokens : List ℕ → Tokens
spread_tokens name = sample kind.Spread (codes "...") ∷ sample kind.Name name ∷ []

-- `{`, tokens, `}`
abbrev pub braced_tokens : Tokens → Tokens
braced_tokens inner = sample kind.BraceOpen (codes "{") ∷ (inner ++ sample kind.BraceClose (codes "}") ∷ [])

-- `on TYPE`, and these
abbrev pub on_tokens : List ℕ → Tokens → Tokens
on_tokens on ts = sample kind.Name (codes "on") ∷ sample kind.Name on ∷ ts

-- `fragment NAME on TYPE {`, tokens, `}`
abbrev pub fragment_tokens : (name on : List ℕ) → Tokens → Tokens
fragment_tokens name on inner = sample kind.Name (codes "fragment") ∷ sample kind.Name name ∷ on_tokens on (braced_tokens inner)

-- the first of alike tokens
pub record FirstAlike (t : Lexeme) (ts us : Tokens) : Type 0 where
  pub token : Lexeme
  pub others : Tokens
  pub is : us ≡ token ∷ others
  pub kind : token.kind ≡ t.kind
  pub text : token.text ≡ t.text
  pub alike : AreAlike ts others

pub first_alike : (t : Lexeme) (ts us : Tokens) → AreAlike (t ∷ ts) us → FirstAlike t ts us
first_alike t ts [] h = absurd h
first_alike t ts (u ∷ us) h = record { token = u; others = us; is = refl; kind = h.0; text = h.1; alike = h.2 }

no_more : (us : Tokens) → AreAlike [] us → us ≡ []
no_more [] h = refl
no_more (u ∷ us) h = absurd h

-- no directive begins where selections do
pub no_at : {ss : Sels Span} {x y : Tokens} → IsSelections ss x y → NotNext kind.At x
no_at {x = x} d = let m : MayFollow behind_selection [] x = ends_follow [] x (selections_end d) in m.kinds kind.At refl tt

-- a spread before selections
pub record SpreadBefore (name : List ℕ) (os : Sels Span) (x y : Tokens) : Type 0 where
  pub head : Head Span
  pub are : IsSelections (more head none os) x y
  pub is : plain_head head ≡ spread (bare_name name) [] tt

pub spread_before : (name : List ℕ) (us x y : Tokens) (os : Sels Span) → (name ≡ codes "on" → ⊥) → AreAlike (spread_tokens name) us → IsSelections os x y → SpreadBefore name os (us ++ x) y
spread_before name us x y os other h d =
    let t = first_alike (sample kind.Spread (codes "...")) (sample kind.Name name ∷ []) us h in
    let u = first_alike (sample kind.Name name) [] t.others t.alike in
    let whole : us ≡ t.token ∷ u.token ∷ [] = t.is ∙ ap (λ (l : Tokens). t.token ∷ l) (u.is ∙ ap (λ (l : Tokens). u.token ∷ l) (no_more u.others u.alike)) in
    let n : NameOf Span = record { text = name; place = u.token.span } in
    let head : Head Span = spread n [] (covered (t.token ∷ u.token ∷ x) x) in
    let is_name : IsName n (u.token ∷ x) x = record { token = u.token; first = refl; kind = u.kind; spelling = sym u.text; span = refl } in
    let one = selection x (a_spread (u.token ∷ x) x (record { token = t.token; first = refl; kind = t.kind }) (record { is_name = is_name; not_on = other }) (no_directive (no_at d))) d in
    let P : Tokens → Type 0 = λ l. IsSelections (more head none os) (l ++ x) y in
    record { head = head; are = subst P (sym whole) one; is = refl }

-- selections that are read again from their tokens before others
abbrev pub IsRowOf : Sels Span → Tokens → Type 0
IsRowOf ss inner = (us x y : Tokens) (os : Sels Span) → AreAlike inner us → IsSelections os x y → RowBefore ss os (us ++ x) y

-- selections in braces
pub record BracedAgain (ss : Sels Span) (tokens rest : Tokens) : Type 0 where
  pub set : Sels Span
  pub is_set : IsSelectionSet set tokens rest
  pub is : erase_all set ≡ erase_all ss
  pub no_directive : NotNext kind.At tokens

set_from : (ss : Sels Span) (t : Lexeme) (a rest : Tokens) → t.kind ≡ kind.BraceOpen → SomeBefore ss none a rest → BracedAgain ss (t ∷ a) rest
set_from ss t a rest k o = record {
  set = more o.head o.under o.others;
  is_set = braces a (record { token = t; first = refl; kind = k }) o.are;
  is = o.is ∙ followed_by_none (erase_all ss);
  no_directive = λ j. let f : kind.BraceOpen ≡ kind.At = sym k ∙ j in cc;
}

pub braced_again : (ss : Sels Span) (inner us rest : Tokens) → (ss ≡ none → ⊥) → IsRowOf ss inner → AreAlike (braced_tokens inner) us → BracedAgain ss (us ++ rest) rest
braced_again ss inner us rest some again h =
    let close : Lexeme = sample kind.BraceClose (codes "}") in
    let e = first_alike (sample kind.BraceOpen (codes "{")) (inner ++ close ∷ []) us h in
    let i = cut_alike inner (close ∷ []) e.others e.alike in
    let z = first_alike close [] i.second i.rest in
    let q = again i.first (z.token ∷ rest) rest none i.alike (set_closed (record { token = z.token; first = refl; kind = z.kind })) in
    let o = some_before ss none none (i.first ++ z.token ∷ rest) rest some refl q in
    let P : Tokens → Type 0 = λ l. BracedAgain ss l rest in
    subst P (sym (glue e.token i.first z.token e.is i.whole (z.is ∙ ap (λ (l : Tokens). z.token ∷ l) (no_more z.others z.alike)))) (set_from ss e.token (i.first ++ z.token ∷ rest) rest e.kind o)
  where
    glue : {others second : Tokens} (t : Lexeme) (f : Tokens) (z : Lexeme) → us ≡ t ∷ others → others ≡ f ++ second → second ≡ z ∷ [] → us ++ rest ≡ t ∷ (f ++ z ∷ rest)
    glue t f z e1 e2 e3 = ap (λ (l : Tokens). l ++ rest) (e1 ∙ ap (λ (l : Tokens). t ∷ l) (e2 ∙ ap (λ (l : Tokens). f ++ l) e3)) ∙ ap (λ (l : Tokens). t ∷ l) (append_assoc f (z ∷ []) rest)

-- a type condition before more tokens
pub record OnAgain (on : List ℕ) (ts us : Tokens) : Type 0 where
  pub name : NameOf Span
  pub rest : Tokens
  pub is_condition : IsTypeCondition name us rest
  pub is : name.text ≡ on
  pub alike : AreAlike ts rest

pub on_again : (on : List ℕ) (ts us : Tokens) → AreAlike (on_tokens on ts) us → OnAgain on ts us
on_again on ts us h =
    let c = first_alike (sample kind.Name (codes "on")) (sample kind.Name on ∷ ts) us h in
    let d = first_alike (sample kind.Name on) ts c.others c.alike in
    let t : NameOf Span = record { text = on; place = d.token.span } in
    let is_name : IsName t c.others d.others = record { token = d.token; first = d.is; kind = d.kind; spelling = sym d.text; span = refl } in
    record {
      name = t;
      rest = d.others;
      is_condition = record { keyword = c.token.span; behind = c.others; begins = record { token = c.token; first = c.is; kind = c.kind; spelling = sym c.text; span = refl }; names = is_name };
      is = refl;
      alike = d.alike;
    }

-- a fragment of a run
fragment_from : (name on : List ℕ) (ss : Sels Span) (us a : Tokens) (first : Span) (n : NameOf Span) (inner b : Tokens) (t : OnAgain on (braced_tokens inner) b) →
    IsKeyword (codes "fragment") first us a → IsFragmentName n a b → n.text ≡ name → BracedAgain ss t.rest [] →
    HasTree us (fragment (bare_name name) (bare_name on) [] (erase_all ss) tt tt ∷ [])
fragment_from name on ss us a first n inner b t word is_name e body = (
  fragment n t.name [] body.set (covered t.rest []) (covered us []) ∷ [],
  definition [] (a_fragment (fragment_on a b t.rest t.rest first word is_name t.is_condition (no_directive body.no_directive) body.is_set)) at_end,
  let e1 = t.is in let e2 = body.is in cc,
)

pub fragment_document : (name on : List ℕ) (ss : Sels Span) (inner us : Tokens) → (ss ≡ none → ⊥) → (name ≡ codes "on" → ⊥) → IsRowOf ss inner → AreAlike (fragment_tokens name on inner) us →
    HasTree us (fragment (bare_name name) (bare_name on) [] (erase_all ss) tt tt ∷ [])
fragment_document name on ss inner us some other again h =
    let a = first_alike (sample kind.Name (codes "fragment")) (sample kind.Name name ∷ on_tokens on (braced_tokens inner)) us h in
    let b = first_alike (sample kind.Name name) (on_tokens on (braced_tokens inner)) a.others a.alike in
    let t = on_again on (braced_tokens inner) b.others b.alike in
    let P : Tokens → Type 0 = λ l. BracedAgain ss l [] in
    let body = subst P (append-nil t.rest) (braced_again ss inner t.rest [] some again t.alike) in
    let n : NameOf Span = record { text = name; place = b.token.span } in
    let is_name : IsName n a.others b.others = record { token = b.token; first = b.is; kind = b.kind; spelling = sym b.text; span = refl } in
    fragment_from name on ss us a.others a.token.span n inner b.others t (record { token = a.token; first = a.is; kind = a.kind; spelling = sym a.text; span = refl })
    (record { is_name = is_name; not_on = other }) refl body

-- such a fragment may stand behind a document
pub fragment_follows : (name on : List ℕ) (inner us : Tokens) → AreAlike (fragment_tokens name on inner) us → MayFollow behind_definition [] us
fragment_follows name on inner us h =
    let a = first_alike (sample kind.Name (codes "fragment")) (sample kind.Name name ∷ on_tokens on (braced_tokens inner)) us h in
    let P : Tokens → Type 0 = λ l. MayFollow behind_definition [] l in
    subst P (sym a.is) (record {
      kinds = λ k is free same. let f : true ≡ false = sym is ∙ ap goes_on (sym same ∙ a.kind) in cc;
      words = λ w is free named same. let f : true ≡ false = sym is ∙ ap begins_as_implements (sym same ∙ a.text) in cc;
    })
