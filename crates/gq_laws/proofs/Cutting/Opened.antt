-- A document whose tokens lose the braces of an inline fragment without directives is the document without those braces.
use Rattle.std.proofs.Common.{◌≡◌, inr, ℕ, ◌<◌, ◌≤◌, List, [], ◌∷◌, ◌++◌, Bool, true, false, Option, refl, sym, ap, ◌∙◌, append_assoc, append-nil, map, arith}
use Rattle.std.specs.Prelude.{if◌then◌else◌}
use Rattle.gq_text.specs.declared.place.Span.{Span}
use Rattle.gq_lex.specs.declared.token.Kind.TheVariants as kind
use Rattle.gq_lex.specs.Tokens.{Lexeme}
use Rattle.gq_tree.specs.Forest.{none, more}
use Rattle.gq_tree.specs.Plain.{NameOf, Head, Sels, Def, inline, place_head, no_place, erase_all, erase_document}
use Rattle.gq_parse.specs.Grammar.{Tokens, starts, covered, IsPunctuator, IsOptionalCondition, no_condition, a_condition, no_directive, IsSelection, an_inline, IsSelectionSet, braces}
use Rattle.gq_parse.specs.Documents.{IsDocument, at_end}
use Rattle.gq_parse.specs.Limits.{opened, closed}
use Rattle.gq_rewritten.specs.Rewrites.{Bare, head_place, same_place, followed_by, with_set, without_braces}
use Rattle.gq_laws.specs.Rewriting.Places.{AreNested, AreInPlace}
use Rattle.gq_laws.specs.Cutting.Standing.{HasSelection, set_in}
use Rattle.gq_laws.proofs.Cutting.Alike.{AreAlike}
use Rattle.gq_laws.proofs.Cutting.Phrases.{cut_alike}
use Rattle.gq_laws.proofs.Cutting.Holes.{Way, tail_at, with_tail, Hole}
use Rattle.gq_laws.proofs.Cutting.DocumentHoles.{IsAt, with_definition, DocumentWith, behind_definition, document_hole, finished, nothing_behind}
use Rattle.gq_laws.proofs.Cutting.Ways.{way_to, number_of, nested_in, same_itself, other_start, IsElsewhere, off, on_document}
use Rattle.gq_laws.proofs.Cutting.Rows.{Row, row_of, parted, behind_kept, some_before, begins_with, ends_with, flat_more}

-- The tokens around an inline fragment without directives: the same ones somewhere else, without what begins it and its braces, are the document without these.
pub record Opened (ds : List (Def Span)) (tokens : Tokens) (place braces : Span) : Type 0 where
  pub front : Tokens
  -- `...` and the condition
  pub signs : Tokens
  -- `{`
  pub brace : Lexeme
  pub inner : Tokens
  -- `}`
  pub closing : Lexeme
  pub behind : Tokens
  pub cut : tokens ≡ front ++ ((signs ++ brace ∷ []) ++ (inner ++ (closing ∷ behind)))
  pub first : (t : Lexeme) × (more : Tokens) × (signs ≡ t ∷ more) × (t.kind ≡ kind.Spread) × (t.span.start ≡ place.start)
  pub flat : (opened signs ≡ 0) × (closed signs ≡ 0)
  pub opens : (brace.kind ≡ kind.BraceOpen) × (brace.span.start ≡ braces.start)
  pub closes : (closing.kind ≡ kind.BraceClose) × (closing.span.end ≡ braces.end) × (braces.end ≡ place.end)
  pub again : (zs : Tokens) → AreAlike (front ++ (inner ++ behind)) zs → (ds' : List (Def Span)) × IsDocument ds' zs × (erase_document ds' ≡ map (with_set (without_braces place)) ds)

-- `...` and a condition
record Signs (tokens rest : Tokens) : Type 0 where
  signs : Tokens
  cut : tokens ≡ signs ++ rest
  first : (t : Lexeme) × (more : Tokens) × (signs ≡ t ∷ more) × (t.kind ≡ kind.Spread) × (t.span.start ≡ starts tokens)
  flat : (opened signs ≡ 0) × (closed signs ≡ 0)

signs_of : {on : Option (NameOf Span)} {tokens a b : Tokens} → IsPunctuator kind.Spread tokens a → IsOptionalCondition on a b → Signs tokens b
signs_of {tokens = tokens} {a} m (no_condition free) = record {
  signs = m.token ∷ [];
  cut = m.first;
  first = (m.token, [], refl, m.kind, begins_with tokens a m.token m.first);
  flat = flat_more m.token [] kind.Spread m.kind refl refl (refl, refl);
}
signs_of {tokens = tokens} {a} m (a_condition c) =
    let word = c.begins in
    let name = c.names in
    record {
      signs = m.token ∷ word.token ∷ name.token ∷ [];
      cut = m.first ∙ ap (λ (l : Tokens). m.token ∷ l) (word.first ∙ ap (λ (l : Tokens). word.token ∷ l) name.first);
      first = (m.token, word.token ∷ name.token ∷ [], refl, m.kind, begins_with tokens a m.token m.first);
      flat = flat_more m.token (word.token ∷ name.token ∷ []) kind.Spread m.kind refl refl
          (flat_more word.token (name.token ∷ []) kind.Name word.kind refl refl (flat_more name.token [] kind.Name name.kind refl refl (refl, refl)));
    }

-- an inline fragment without directives
record Braced (below : Sels Span) (braces place : Span) (tokens rest : Tokens) : Type 0 where
  signs : Tokens
  brace : Lexeme
  behind : Tokens
  cut : tokens ≡ (signs ++ brace ∷ []) ++ behind
  first : (t : Lexeme) × (more : Tokens) × (signs ≡ t ∷ more) × (t.kind ≡ kind.Spread) × (t.span.start ≡ place.start)
  flat : (opened signs ≡ 0) × (closed signs ≡ 0)
  opens : (brace.kind ≡ kind.BraceOpen) × (brace.span.start ≡ braces.start)
  row : Row below behind rest
  closes : (row.closing.span.end ≡ braces.end) × (braces.end ≡ place.end)
  is_some : below ≡ none → ⊥

with_set_braced : {on : Option (NameOf Span)} {ss : Sels Span} {tokens a c rest : Tokens} → IsPunctuator kind.Spread tokens a → IsOptionalCondition on a c → IsSelectionSet ss c rest →
    Braced ss (covered c rest) (covered tokens rest) tokens rest
with_set_braced {tokens = tokens} {a} {c} {rest} m cond (braces {h = h} {below = below} {ss = ss} e n body) =
    let s = signs_of m cond in
    let r = row_of body in
    let b = n.token in
    let cut : tokens ≡ (s.signs ++ b ∷ []) ++ e = s.cut ∙ ap (λ (l : Tokens). s.signs ++ l) n.first ∙ sym (append_assoc s.signs (b ∷ []) e) in
    let inside : c ≡ (b ∷ r.inner) ++ r.closing ∷ rest = n.first ∙ ap (λ (l : Tokens). b ∷ l) r.split in
    let whole : tokens ≡ ((s.signs ++ b ∷ []) ++ r.inner) ++ r.closing ∷ rest =
    cut ∙ ap (λ (l : Tokens). (s.signs ++ b ∷ []) ++ l) r.split ∙ sym (append_assoc (s.signs ++ b ∷ []) r.inner (r.closing ∷ rest)) in
    let x = ends_with c (b ∷ r.inner) rest r.closing inside in
    let y = ends_with tokens ((s.signs ++ b ∷ []) ++ r.inner) rest r.closing whole in
    record {
      signs = s.signs;
      brace = b;
      behind = e;
      cut = cut;
      first = s.first;
      flat = s.flat;
      opens = (n.kind, begins_with c e b n.first);
      row = r;
      closes = (x, sym x ∙ y);
      is_some = λ q. cc;
    }

braced : {on : Option (NameOf Span)} {below : Sels Span} {braces place : Span} {tokens rest : Tokens} → IsSelection (inline on [] braces place) below tokens rest →
    Braced below braces place tokens rest
braced (an_inline a b c m cond (no_directive free) set) = with_set_braced m cond set

module _ (place : Span) where
  tested : (g : Head Span) (c s : Sels Span) (b : Bool) → same_place (head_place g) place ≡ b →
      without_braces place (more g c s) ≡ (if b then followed_by (erase_all c) (without_braces place s) else more (place_head no_place g) (without_braces place c) (without_braces place s))
  tested g c s b e = ap (λ (z : Bool). if z then followed_by (erase_all c) (without_braces place s) else more (place_head no_place g) (without_braces place c) (without_braces place s)) e

  passes : (g : Head Span) (c s : Sels Span) → IsElsewhere place.start place.end g → without_braces place (more g c s) ≡ more (place_head no_place g) (without_braces place c) (without_braces place s)
  passes g c s e = tested g c s false (other_start (head_place g) place e.0)

  becomes : (h : Head Span) (b r : Sels Span) → head_place h ≡ place → place.start < place.end → (from to : ℕ) → AreNested from to (more h b r) →
      without_braces place (more h b r) ≡ followed_by (erase_all b) (erase_all r)
  becomes h b r e some from to n =
      let same : same_place (head_place h) place ≡ true = ap (λ (z : Span). same_place z place) e ∙ same_itself place in
      let at_end : (head_place h).end ≡ place.end = ap (λ (z : Span). z.end) e in
      tested h b r true same
      ∙ ap (λ (z : Bare). followed_by (erase_all b) z) (off (without_braces place) place.start place.end some refl passes (head_place h).end to r (inr (omega (arith, at_end))) n.4)

  stands_first : (h : Head Span) (b r : Sels Span) → head_place h ≡ place → (from to : ℕ) → AreNested from to (more h b r) → (from ≤ place.start) × (place.end ≤ to)
  stands_first h b r e from to n =
      let x : (head_place h).start ≡ place.start = ap (λ (z : Span). z.start) e in
      let y : (head_place h).end ≡ place.end = ap (λ (z : Span). z.end) e in
      (omega (arith, x, n.0), omega (arith, y, n.2))

-- the tree with the braces left out
tree_with : (h : Head Span) (below rest : Sels Span) (n : ℕ) (w : Way) (d : Def Span) (ds : List (Def Span)) → IsAt d n ds → tail_at w (set_in d) ≡ more h below rest → AreInPlace 0 ds →
    (new : Bare) → new ≡ followed_by (erase_all below) (erase_all rest) →
    with_definition n (with_tail w new) ds ++ [] ≡ map (with_set (without_braces (head_place h))) ds
tree_with h below rest n w d ds at is all new e =
    let place : Span = head_place h in
    let some : place.start < place.end = let m = (nested_in w n d 0 ds at is all).2 in m.1 in
    append-nil (with_definition n (with_tail w new) ds)
    ∙ ap (λ (l : Bare). with_definition n (with_tail w l) ds) e
    ∙ on_document (without_braces place) place.start place.end some refl (passes place) h below rest (followed_by (erase_all below) (erase_all rest)) (stands_first place h below rest refl)
    (becomes place h below rest refl some) w n d 0 ds at is all

glued : {zs : Tokens} (f s i j x : Tokens) → zs ≡ f ++ s → s ≡ i ++ j → j ≡ x → zs ≡ f ++ (i ++ x)
glued f s i j x e1 e2 e3 = e1 ∙ ap (λ (l : Tokens). f ++ l) (e2 ∙ ap (λ (l : Tokens). i ++ l) e3)

opened_at : {on : Option (NameOf Span)} {place braces : Span} {ds : List (Def Span)} {tokens : Tokens} {below rest : Sels Span} (n : ℕ) (w : Way) (d : Def Span) → AreInPlace 0 ds → IsAt d n ds →
    tail_at w (set_in d) ≡ more (inline on [] braces place) below rest →
    Hole behind_definition (inline on [] braces place) below rest (DocumentWith n w ds) tokens [] → Opened ds tokens place braces
opened_at {on} {place} {braces} {ds} {tokens} {below} {rest} n w d all at is hole =
    let s = parted hole.stands in
    let b = braced s.one in
    let row = b.row in
    record {
      front = hole.front;
      signs = b.signs;
      brace = b.brace;
      inner = row.inner;
      closing = row.closing;
      behind = s.middle;
      cut = hole.split ∙ ap (λ (l : Tokens). hole.front ++ l) (b.cut ∙ ap (λ (l : Tokens). (b.signs ++ b.brace ∷ []) ++ l) row.split);
      first = b.first;
      flat = b.flat;
      opens = b.opens;
      closes = (row.closes, b.closes.0, b.closes.1);
      again = λ zs r.
          let c = cut_alike hole.front (row.inner ++ s.middle) zs r in
          let i = cut_alike row.inner s.middle c.second c.rest in
          let k = behind_kept hole.back hole.ends s.others i.second [] i.rest in
          let x : Tokens = i.second ++ [] in
          let q = row.again i.first x (k.last ++ []) k.selections i.alike k.are in
          let o = some_before below rest k.selections (i.first ++ x) (k.last ++ []) b.is_some k.is q in
          let z = hole.again c.first (i.first ++ x) k.last [] o.head o.under o.others c.alike o.are k.alike nothing_behind in
          finished zs (c.first ++ (i.first ++ x))
          (glued c.first c.second i.first i.second x c.whole i.whole (sym (append-nil i.second))) {one = with_definition n (with_tail w (erase_all (more o.head o.under o.others))) ds ++ []}
          (z [] at_end)
          (tree_with (inline on [] braces place) below rest n w d ds at is all (erase_all (more o.head o.under o.others)) o.is);
    }

pub opened_document : {on : Option (NameOf Span)} {ds : List (Def Span)} {tokens : Tokens} {place braces : Span} → IsDocument ds tokens → AreInPlace 0 ds →
    HasSelection ds (inline on [] braces place) → Opened ds tokens place braces
opened_document {on} {ds} {place = place} {braces} derived all has =
    let n = number_of ds has.definition has.stands in
    let w = way_to (set_in has.definition) (inline on [] braces place) has.among in
    opened_at n.0 w.way has.definition all n.1 w.is ((document_hole n.0 w.way has.definition derived n.1 w.is).0)
