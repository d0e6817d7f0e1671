-- A document whose tokens have an inline fragment in place of a spread, with the selections of a fragment in its braces, is the document with that spread inlined.
use Rattle.std.proofs.Common.{◌≡◌, inr, ℕ, zero, suc, ◌-◌, ◌<◌, Bool, true, false, List, [], ◌∷◌, ◌++◌, Some, refl, sym, ap, subst, ◌∙◌, append_assoc, append-nil, map, arith, length, take}
use Rattle.std.proofs.lemmas.List.{append_cancel_right}
use Rattle.std.specs.Prelude.{codes, if◌then◌else◌}
use Rattle.gq_text.specs.declared.place.Span.{Span}
use Rattle.gq_lex.specs.declared.token.Kind.{Kind}
use Rattle.gq_lex.specs.declared.token.Kind.TheVariants as kind
use Rattle.gq_lex.specs.Tokens.{Lexeme}
use Rattle.gq_tree.specs.Forest.{none, more}
use Rattle.gq_tree.specs.Plain.{NameOf, DirectiveOf, Head, spread, inline, Sels, Def, fragment, place_head, no_place, erase_all}
use Rattle.gq_parse.specs.Grammar.{Tokens, starts, ends, covered, IsPunctuator, IsTypeCondition, a_condition, IsDirectives, no_directive, a_directive, IsSelection, a_spread, an_inline}
use Rattle.gq_parse.specs.Grammar.{IsSelectionSet, braces, IsSelections, selection, fragment_on}
use Rattle.gq_parse.specs.Documents.{IsDefinition, an_operation, a_fragment, IsDocument, at_end, definition}
use Rattle.gq_renamed.proofs.Regrammar.{Like, plain_head, plain_directive}
use Rattle.gq_rewritten.specs.Rewrites.{Bare, bare_name, head_place, same_place, with_set, inlined_head, with_inlined}
use Rattle.gq_laws.specs.Rewriting.Places.{AreInPlace}
use Rattle.gq_laws.proofs.Rewriting.Past.{Past, at_once, one_on, Passed, as_past, passed_over, past_directives, past_one_directive}
use Rattle.gq_laws.specs.Cutting.Standing.{set_in}
use Rattle.gq_laws.proofs.Cutting.Alike.{AreAlike}
use Rattle.gq_laws.proofs.Cutting.Phrases.{Asked, MayFollow, Kept, IsSome, cut_alike, directives_kept}
use Rattle.gq_laws.proofs.Cutting.Rows.{row_of, parted, LastSelections, last_selections, begins_with, ends_with}
use Rattle.gq_laws.proofs.Cutting.Runs.{some_front, starts_same, ends_behind, ends_at}
use Rattle.gq_laws.proofs.Cutting.Definitions.{before_fragment_set, definition_kept}
use Rattle.gq_laws.proofs.Cutting.Holes.{Way, tail_at, with_tail}
use Rattle.gq_laws.proofs.Cutting.DocumentHoles.{IsAt, with_definition, DocumentWith, asks_definition, document_hole, HasTree, finished, nothing_behind, DocumentHole, all_stays}
use Rattle.gq_laws.proofs.Cutting.Ways.{nested_in, same_itself, other_start, IsElsewhere, off, on_document}
use Rattle.gq_laws.proofs.Cutting.Written.{sample, braced_tokens, on_tokens, IsRowOf, BracedAgain, braced_again, first_alike, on_again}

-- where directives end
abbrev pub last_end : DirectiveOf Span → List (DirectiveOf Span) → ℕ
last_end d [] = d.place.end
last_end d (e ∷ ds) = last_end e ds

-- a spread's `...` and name
pub record SpreadSigns (name : NameOf Span) (place : Span) (signs : Tokens) : Type 0 where
  pub sign : Lexeme
  pub word : Lexeme
  pub are : signs ≡ sign ∷ word ∷ []
  pub sign_kind : sign.kind ≡ kind.Spread
  pub sign_place : sign.span.start ≡ place.start
  pub word_kind : word.kind ≡ kind.Name
  pub word_text : word.text ≡ name.text
  pub word_place : word.span ≡ name.place

-- The tokens of a spread in those of a document; the same ones somewhere else, with an inline fragment in its place, are the document with it inlined.
pub record Inlined (ds : List (Def Span)) (tokens : Tokens) (name : NameOf Span) (directives : List (DirectiveOf Span)) (place : Span) : Type 0 where
  pub front : Tokens
  pub signs : Tokens
  -- the tokens of its directives
  pub given : Tokens
  pub behind : Tokens
  pub cut : tokens ≡ front ++ ((signs ++ given) ++ behind)
  pub begins : SpreadSigns name place signs
  pub finishes : ends (signs ++ given) ≡ place.end
  pub are_given : (d : DirectiveOf Span) (others : List (DirectiveOf Span)) → directives ≡ d ∷ others → IsSome given × (starts given ≡ d.place.start) × (ends given ≡ last_end d others)
  pub none_given : directives ≡ [] → given ≡ []
  pub again : (on : List ℕ) (set : Sels Span) (inner zs : Tokens) → (set ≡ none → ⊥) → IsRowOf set inner →
      AreAlike (front ++ (sample kind.Spread (codes "...") ∷ on_tokens on (given ++ (braced_tokens inner ++ behind)))) zs →
      HasTree zs (map (with_set (with_inlined place on (erase_all set))) ds)

-- The same where not all that is left behind the set stays.
pub record InlinedIn (ds : List (Def Span)) (front left stays tokens : Tokens) (name : NameOf Span) (directives : List (DirectiveOf Span)) (place : Span) : Type 0 where
  pub signs : Tokens
  pub given : Tokens
  pub between : Tokens
  pub cut : tokens ≡ front ++ ((signs ++ given) ++ (between ++ left))
  pub begins : SpreadSigns name place signs
  pub finishes : ends (signs ++ given) ≡ place.end
  pub are_given : (d : DirectiveOf Span) (others : List (DirectiveOf Span)) → directives ≡ d ∷ others → IsSome given × (starts given ≡ d.place.start) × (ends given ≡ last_end d others)
  pub none_given : directives ≡ [] → given ≡ []
  pub again : (on : List ℕ) (set : Sels Span) (inner zs : Tokens) → (set ≡ none → ⊥) → IsRowOf set inner →
      AreAlike (front ++ (sample kind.Spread (codes "...") ∷ on_tokens on (given ++ (braced_tokens inner ++ (between ++ stays))))) zs →
      HasTree zs (map (with_set (with_inlined place on (erase_all set))) ds)

-- what may not stand behind directives
abbrev goes_on_as_directive : Kind → Bool
goes_on_as_directive kind.ParenOpen = true
goes_on_as_directive kind.At = true
goes_on_as_directive _ = false

abbrev behind_directives : Asked
behind_directives = record { kinds = goes_on_as_directive; words = λ w. false }

brace_follows : (rest : Tokens) (t : Lexeme) (ts : Tokens) → t.kind ≡ kind.BraceOpen → MayFollow behind_directives rest (t ∷ ts)
brace_follows rest t ts e = record { kinds = λ k is free same. let f : true ≡ false = sym is ∙ ap goes_on_as_directive (sym same ∙ e) in cc; words = λ w is free. absurd (cc) }

-- an inline fragment before selections
record InlineBefore (on : List ℕ) (directives : List (DirectiveOf Span)) (set os : Sels Span) (x y : Tokens) : Type 0 where
  head : Head Span
  under : Sels Span
  are : IsSelections (more head under os) x y
  is : plain_head head ≡ inline (Some (bare_name on)) (map plain_directive directives) tt tt
  below : erase_all under ≡ erase_all set

inline_before : (on : List ℕ) {directives ds : List (DirectiveOf Span)} {set os : Sels Span} {x a b c r y : Tokens} (t : NameOf Span) → IsPunctuator kind.Spread x a → IsTypeCondition t a b →
    t.text ≡ on → IsDirectives false ds b c → map plain_directive ds ≡ map plain_directive directives → BracedAgain set c r →
    IsSelections os r y → InlineBefore on directives set os x y
inline_before on {ds = ds} {x = x} {a} {b} {c} {r} t m cond e dirs same body d = record {
  head = inline (Some t) ds (covered c r) (covered x r);
  under = body.set;
  are = selection r (an_inline a b c m (a_condition cond) dirs body.is_set) d;
  is = cc;
  below = body.is;
}

-- the tokens of a spread
record SpreadIn (name : NameOf Span) (directives : List (DirectiveOf Span)) (place : Span) (tokens rest : Tokens) : Type 0 where
  signs : Tokens
  middle : Tokens
  cut : tokens ≡ signs ++ middle
  begins : SpreadSigns name place signs
  given : Kept behind_directives (Like (IsDirectives false) (map plain_directive) directives) middle rest
  finishes : ends (signs ++ given.front) ≡ place.end
  are_given : (d : DirectiveOf Span) (others : List (DirectiveOf Span)) → directives ≡ d ∷ others → IsSome given.front × (starts given.front ≡ d.place.start) × (ends given.front ≡ last_end d others)
  none_given : directives ≡ [] → given.front ≡ []

split_past : {tokens rest : Tokens} → Past tokens rest → (f : Tokens) × (tokens ≡ f ++ rest)
split_past at_once = ([], refl)
split_past (one_on {t = t} p) = let i = split_past p in (t ∷ i.0, ap (λ (l : Tokens). t ∷ l) i.1)

-- the end of a phrase is that of its last part
same_end : {a b c : Tokens} → Past a b → Passed b c → ends (take (length a - length c) a) ≡ ends (take (length b - length c) b)
same_end {a} {b} {c} p q =
    let f = split_past p in
    let g = split_past (as_past q) in
    let whole : a ≡ (f.0 ++ g.0) ++ c = f.1 ∙ ap (λ (l : Tokens). f.0 ++ l) g.1 ∙ sym (append_assoc f.0 g.0 c) in
    ends_at (f.0 ++ g.0) c whole ∙ ends_behind f.0 g.0 (some_front g.0 c g.1 q) ∙ sym (ends_at g.0 c g.1)

record DirectivesStand (directives : List (DirectiveOf Span)) (tokens rest : Tokens) : Type 0 where
  passed : (d : DirectiveOf Span) (others : List (DirectiveOf Span)) → directives ≡ d ∷ others →
      Passed tokens rest × (starts tokens ≡ d.place.start) × (ends (take (length tokens - length rest) tokens) ≡ last_end d others)
  none : directives ≡ [] → tokens ≡ rest

ends_last : (d : DirectiveOf Span) (ds : List (DirectiveOf Span)) (tokens c rest : Tokens) → Past tokens c → d.place ≡ covered tokens c → DirectivesStand ds c rest →
    ends (take (length tokens - length rest) tokens) ≡ last_end d ds
ends_last d [] tokens c rest p e i =
    let same : c ≡ rest = i.none refl in
    ap (λ (l : Tokens). ends (take (length tokens - length l) tokens)) (sym same) ∙ sym (ap (λ (x : Span). x.end) e)
ends_last d (n ∷ ns) tokens c rest p e i = let q = i.passed n ns refl in same_end p q.0 ∙ q.2

directives_stand : {constant : Bool} {ds : List (DirectiveOf Span)} {tokens rest : Tokens} → IsDirectives constant ds tokens rest → DirectivesStand ds tokens rest
directives_stand (no_directive free) = record { passed = λ d others e. absurd (cc); none = λ e. refl }
directives_stand {tokens = tokens} {rest} (a_directive {name = name} {arguments = vs} {ds = ds} a b c m n args others) =
    let first = past_one_directive m n args in
    let here : DirectiveOf Span = record { name = name; arguments = vs; place = covered tokens c } in
    let at_end = ends_last here ds tokens c rest (as_past first) refl (directives_stand others) in
    record {
      passed = λ d ds' e.
          let same : here ≡ d = cc in
          let others_same : ds ≡ ds' = cc in (
            passed_over first (past_directives others),
            ap (λ (x : DirectiveOf Span). x.place.start) same,
            at_end ∙ ap (λ (x : DirectiveOf Span). last_end x ds) same ∙ ap (λ (l : List (DirectiveOf Span)). last_end d l) others_same,
          );
      none = λ e. absurd (cc);
    }

spread_in : {name : NameOf Span} {directives : List (DirectiveOf Span)} {place : Span} {below : Sels Span} {tokens rest : Tokens} → IsSelection (spread name directives place) below tokens rest →
    SpreadIn name directives place tokens rest
spread_in {name = name} {tokens = tokens} {rest} (a_spread {directives = ds} a b m n dirs) =
    let word = n.is_name in
    let signs : Tokens = m.token ∷ word.token ∷ [] in
    let cut : tokens ≡ signs ++ b = m.first ∙ ap (λ (l : Tokens). m.token ∷ l) word.first in
    let k : Kept behind_directives (Like (IsDirectives false) (map plain_directive) ds) b rest = directives_kept refl refl dirs in
    let whole : tokens ≡ (signs ++ k.front) ++ rest = cut ∙ ap (λ (l : Tokens). signs ++ l) k.split in
    let i = directives_stand dirs in
    record {
      signs = signs;
      middle = b;
      cut = cut;
      begins =
          record {
            sign = m.token;
            word = word.token;
            are = refl;
            sign_kind = m.kind;
            sign_place = begins_with tokens a m.token m.first;
            word_kind = word.kind;
            word_text = sym word.spelling;
            word_place = sym word.span;
          };
      given = k;
      finishes = sym (ends_at (signs ++ k.front) rest whole);
      are_given = λ d others e.
          let q = i.passed d others e in
          let some = some_front k.front rest k.split q.0 in
          (some, sym (starts_same k.front rest some) ∙ sym (ap starts k.split) ∙ q.1, sym (ends_at k.front rest k.split) ∙ q.2);
      none_given = λ e. sym (append_cancel_right [] k.front rest (sym (i.none e) ∙ k.split));
    }

-- the trees
module _ (place : Span) (on : List ℕ) (set : Bare) where
  tested : (g : Head Span) (c s : Sels Span) (b : Bool) → same_place (head_place g) place ≡ b →
      with_inlined place on set (more g c s) ≡
      (if b then more (inlined_head on g) set (with_inlined place on set s) else more (place_head no_place g) (with_inlined place on set c) (with_inlined place on set s))
  tested g c s b e =
      ap (λ (z : Bool). if z then more (inlined_head on g) set (with_inlined place on set s) else more (place_head no_place g) (with_inlined place on set c) (with_inlined place on set s)) e

  passes : (g : Head Span) (c s : Sels Span) → IsElsewhere place.start place.end g →
      with_inlined place on set (more g c s) ≡ more (place_head no_place g) (with_inlined place on set c) (with_inlined place on set s)
  passes g c s e = tested g c s false (other_start (head_place g) place e.0)

  tree_with : (name : NameOf Span) (directives : List (DirectiveOf Span)) (below rest : Sels Span) (n : ℕ) (w : Way) (d : Def Span) (ds : List (Def Span)) → IsAt d n ds →
      tail_at w (set_in d) ≡ more (spread name directives place) below rest → AreInPlace 0 ds →
      (new : Bare) → new ≡ more (inline (Some (bare_name on)) (map plain_directive directives) tt tt) set (erase_all rest) →
      with_definition n (with_tail w new) ds ++ [] ≡ map (with_set (with_inlined place on set)) ds
  tree_with name directives below rest n w d ds at is all new e =
      let some : place.start < place.end = let m = (nested_in w n d 0 ds at is all).2 in m.1 in
      append-nil (with_definition n (with_tail w new) ds)
      ∙ ap (λ (l : Bare). with_definition n (with_tail w l) ds) e
      ∙ on_document (with_inlined place on set) place.start place.end some refl passes (spread name directives place) below rest
      (more (inline (Some (bare_name on)) (map plain_directive directives) tt tt) set (erase_all rest))
      (λ from to m. (m.0, m.2))
      (λ from to m.
      tested (spread name directives place) below rest true (same_itself place)
      ∙ ap (λ (z : Bare). more (inline (Some (bare_name on)) (map plain_directive directives) tt tt) set z)
      (off (with_inlined place on set) place.start place.end some refl passes place.end to rest (inr (omega arith)) m.4))
      w n d 0 ds at is all

glued : {zs s q : Tokens} (f : Tokens) → zs ≡ f ++ s → s ≡ q → zs ≡ f ++ q
glued f e1 e2 = e1 ∙ ap (λ (l : Tokens). f ++ l) e2

braces_follow : (inner rest us behind : Tokens) → AreAlike (braced_tokens inner) us → MayFollow behind_directives rest (us ++ behind)
braces_follow inner rest us behind h =
    let e = first_alike (sample kind.BraceOpen (codes "{")) (inner ++ sample kind.BraceClose (codes "}") ∷ []) us h in
    let P : Tokens → Type 0 = λ l. MayFollow behind_directives rest (l ++ behind) in
    subst P (sym e.is) (brace_follows rest e.token (e.others ++ behind) e.kind)

-- the parts of tokens in a spread's place
record InlineCut (on : List ℕ) (given inner rest us : Tokens) : Type 0 where
  sign : Lexeme
  others : Tokens
  is : us ≡ sign ∷ others
  sign_kind : sign.kind ≡ kind.Spread
  name : NameOf Span
  is_on : name.text ≡ on
  first : Tokens
  body : Tokens
  last : Tokens
  condition : IsTypeCondition name others (first ++ (body ++ last))
  given_alike : AreAlike given first
  body_alike : AreAlike (braced_tokens inner) body
  last_alike : AreAlike rest last

condition_over : (name : NameOf Span) (others first second body last : Tokens) {whole : Tokens} → whole ≡ first ++ second → second ≡ body ++ last → IsTypeCondition name others whole →
    IsTypeCondition name others (first ++ (body ++ last))
condition_over name others first second body last e f c = let P : Tokens → Type 0 = λ l. IsTypeCondition name others l in subst P (e ∙ ap (λ (l : Tokens). first ++ l) f) c

inline_cut : (on : List ℕ) (given inner rest us : Tokens) → AreAlike (sample kind.Spread (codes "...") ∷ on_tokens on (given ++ (braced_tokens inner ++ rest))) us → InlineCut on given inner rest us
inline_cut on given inner rest us h =
    let t = first_alike (sample kind.Spread (codes "...")) (on_tokens on (given ++ (braced_tokens inner ++ rest))) us h in
    let o = on_again on (given ++ (braced_tokens inner ++ rest)) t.others t.alike in
    let g = cut_alike given (braced_tokens inner ++ rest) o.rest o.alike in
    let b = cut_alike (braced_tokens inner) rest g.second g.rest in
    record {
      sign = t.token;
      others = t.others;
      is = t.is;
      sign_kind = t.kind;
      name = o.name;
      is_on = o.is;
      first = g.first;
      body = b.first;
      last = b.second;
      condition = condition_over o.name t.others g.first g.second b.first b.second g.whole b.whole o.is_condition;
      given_alike = g.alike;
      body_alike = b.alike;
      last_alike = b.rest;
    }

-- the inline fragment, read from them
inline_again : {name : NameOf Span} {directives : List (DirectiveOf Span)} {place : Span} {tokens rest : Tokens} (s : SpreadIn name directives place tokens rest) (on : List ℕ) (set os : Sels Span)
    (inner behind us y : Tokens) → (set ≡ none → ⊥) → IsRowOf set inner →
    (x : InlineCut on s.given.front inner behind us) → IsSelections os x.last y → InlineBefore on directives set os (x.sign ∷ x.others) y
inline_again {directives = directives} {rest = rest} s on set os inner behind us y some row x d =
    let body = braced_again set inner x.body x.last some row x.body_alike in
    let q = s.given.again x.first (x.body ++ x.last) x.given_alike (braces_follow inner rest x.body x.last x.body_alike) in
    inline_before on x.name (record { token = x.sign; first = refl; kind = x.sign_kind }) x.condition x.is_on q.1 q.2 body d

-- the document with it
inline_whole : (ds : List (Def Span)) {front left stays tokens : Tokens} {name : NameOf Span} {directives : List (DirectiveOf Span)} {place : Span} {below rest : Sels Span} {middle : Tokens}
    (n : ℕ) (w : Way) (d : Def Span) → AreInPlace 0 ds → IsAt d n ds → tail_at w (set_in d) ≡ more (spread name directives place) below rest →
    (hole : DocumentHole (spread name directives place) below rest (DocumentWith n w ds) front left stays tokens) → (s : SpreadIn name directives place hole.tail middle) →
    (l : LastSelections rest middle left) → (on : List ℕ) (set : Sels Span) (inner us vs : Tokens) → (set ≡ none → ⊥) → IsRowOf set inner →
    AreAlike front us → (x : InlineCut on s.given.front inner (l.front ++ stays) vs) → HasTree (us ++ (x.sign ∷ x.others)) (map (with_set (with_inlined place on (erase_all set))) ds)
inline_whole ds {stays = stays} {name = name} {directives} {place} {below} {rest} n w d all at is hole s l on set inner us vs some row h x =
    let k = l.again stays x.last [] x.last_alike in
    let P : Tokens → Type 0 = λ l. IsSelections k.selections l (k.last ++ []) in
    let one = inline_again s on set k.selections inner (l.front ++ stays) vs (k.last ++ []) some row x (subst P (append-nil x.last) k.are) in
    let z = hole.again us (x.sign ∷ x.others) k.last [] one.head one.under k.selections h one.are k.alike nothing_behind in
    let new : Bare = erase_all (more one.head one.under k.selections) in
    let is_new : new ≡ more (inline (Some (bare_name on)) (map plain_directive directives) tt tt) (erase_all set) (erase_all rest) = let e1 = one.is in let e2 = one.below in let e3 = k.is in cc in
    finished (us ++ (x.sign ∷ x.others)) (us ++ (x.sign ∷ x.others)) refl {one = with_definition n (with_tail w new) ds ++ []} (z [] at_end)
    (tree_with place on (erase_all set) name directives below rest n w d ds at is all new is_new)

cut_behind : (f s g : Tokens) {t m n z : Tokens} {tokens : Tokens} → tokens ≡ f ++ t → t ≡ s ++ m → m ≡ g ++ n → n ≡ z → tokens ≡ f ++ ((s ++ g) ++ z)
cut_behind f s g {n = n} e1 e2 e3 e4 = e1 ∙ ap (λ (l : Tokens). f ++ l) (e2 ∙ ap (λ (l : Tokens). s ++ l) e3 ∙ sym (append_assoc s g n) ∙ ap (λ (l : Tokens). (s ++ g) ++ l) e4)

pub inlined_in : {ds : List (Def Span)} {front left stays tokens : Tokens} {name : NameOf Span} {directives : List (DirectiveOf Span)} {place : Span} {below rest : Sels Span} (n : ℕ) (w : Way)
    (d : Def Span) → AreInPlace 0 ds → IsAt d n ds → tail_at w (set_in d) ≡ more (spread name directives place) below rest →
    DocumentHole (spread name directives place) below rest (DocumentWith n w ds) front left stays tokens → InlinedIn ds front left stays tokens name directives place
inlined_in {ds} {front} {left} {stays} {tokens} {name} {directives} {place} {below} {rest} n w d all at is hole =
    let p = parted hole.stands in
    let s = spread_in p.one in
    let l = last_selections p.others in
    record {
      signs = s.signs;
      given = s.given.front;
      between = l.front;
      cut = cut_behind front s.signs s.given.front hole.split s.cut s.given.split l.split;
      begins = s.begins;
      finishes = s.finishes;
      are_given = s.are_given;
      none_given = s.none_given;
      again = λ on set inner zs some row h.
          let c = cut_alike front (sample kind.Spread (codes "...") ∷ on_tokens on (s.given.front ++ (braced_tokens inner ++ (l.front ++ stays)))) zs h in
          let x = inline_cut on s.given.front inner (l.front ++ stays) c.second c.rest in
          let y = inline_whole ds n w d all at is hole s l on set inner c.first c.second some row c.alike x in
          finished zs (c.first ++ (x.sign ∷ x.others)) (glued c.first c.whole x.is) {one = map (with_set (with_inlined place on (erase_all set))) ds} y refl;
    }

pub inlined_document : {ds : List (Def Span)} {tokens : Tokens} {name : NameOf Span} {directives : List (DirectiveOf Span)} {place : Span} {below rest : Sels Span} (n : ℕ) (w : Way)
    (d : Def Span) → IsDocument ds tokens → AreInPlace 0 ds → IsAt d n ds → tail_at w (set_in d) ≡ more (spread name directives place) below rest →
    Inlined ds tokens name directives place
inlined_document {ds} {tokens} {name} {directives} {place} n w d derived all at is =
    let plain = (document_hole n w d derived at is).0 in
    let i = inlined_in n w d all at is (all_stays plain) in
    record {
      front = plain.front;
      signs = i.signs;
      given = i.given;
      behind = i.between ++ plain.left;
      cut = i.cut;
      begins = i.begins;
      finishes = i.finishes;
      are_given = i.are_given;
      none_given =
          i.none_given;
      again = i.again;
    }

-- The tokens of a fragment's selections in those of its document; the same ones somewhere else, before other selections, are these and the others.
pub record FragmentSet (tokens : Tokens) (set : Sels Span) (braces : Span) : Type 0 where
  pub front : Tokens
  -- `{`
  pub brace : Lexeme
  pub inner : Tokens
  -- `}`
  pub closing : Lexeme
  pub behind : Tokens
  pub cut : tokens ≡ front ++ (brace ∷ (inner ++ closing ∷ behind))
  pub opens : (brace.kind ≡ kind.BraceOpen) × (brace.span.start ≡ braces.start)
  pub closes : (closing.kind ≡ kind.BraceClose) × (closing.span.end ≡ braces.end)
  pub is_some : set ≡ none → ⊥
  pub again : IsRowOf set inner

set_in_braces : {ss : Sels Span} {tokens d rest : Tokens} (f : Tokens) → tokens ≡ f ++ d → IsSelectionSet ss d rest → FragmentSet tokens ss (covered d rest)
set_in_braces {tokens = tokens} {d} {rest} f e (braces a m body) =
    let r = row_of body in
    let b = m.token in
    let whole : d ≡ b ∷ (r.inner ++ r.closing ∷ rest) = m.first ∙ ap (λ (l : Tokens). b ∷ l) r.split in
    record {
      front = f;
      brace = b;
      inner = r.inner;
      closing = r.closing;
      behind = rest;
      cut = e ∙ ap (λ (l : Tokens). f ++ l) whole;
      opens = (m.kind, begins_with d a b m.first);
      closes = (r.closes, ends_with d (b ∷ r.inner) rest r.closing whole);
      is_some = λ q. cc;
      again = r.again;
    }

set_of_definition : {name on : NameOf Span} {directives : List (DirectiveOf Span)} {set : Sels Span} {braces place : Span} {tokens rest : Tokens} →
    IsDefinition (fragment name on directives set braces place) tokens rest → FragmentSet tokens set braces
set_of_definition (an_operation h) = elim h [ ]
set_of_definition (a_fragment (fragment_on a b c d first word n cond dirs set)) = let k = before_fragment_set word n cond dirs in set_in_braces k.front k.split set

further : {tokens a : Tokens} {set : Sels Span} {braces : Span} (f : Tokens) → tokens ≡ f ++ a → FragmentSet a set braces → FragmentSet tokens set braces
further f e s = record {
  front = f ++ s.front;
  brace = s.brace;
  inner = s.inner;
  closing = s.closing;
  behind = s.behind;
  cut = e ∙ ap (λ (l : Tokens). f ++ l) s.cut ∙ sym (append_assoc f s.front (s.brace ∷ (s.inner ++ s.closing ∷ s.behind)));
  opens = s.opens;
  closes = s.closes;
  is_some = s.is_some;
  again = s.again;
}

pub fragment_set : (n : ℕ) (name on : NameOf Span) (directives : List (DirectiveOf Span)) (set : Sels Span) (inside place : Span) {ds : List (Def Span)} {tokens : Tokens} → IsDocument ds tokens →
    IsAt (fragment name on directives set inside place) n ds → FragmentSet tokens set inside
fragment_set n name on directives set inside place at_end i = absurd i
fragment_set zero name on directives set inside place (definition {tokens = tokens} a one others) i = let P : Def Span → Type 0 = λ d. IsDefinition d tokens a in set_of_definition (subst P i one)
fragment_set (suc n) name on directives set inside place (definition a one others) i = let k = definition_kept asks_definition one in
    further k.front k.split (fragment_set n name on directives set inside place others i)
