-- A document whose tokens have an inline fragment in place of the last spread of a fragment, and lose those of this fragment, is the document with that spread inlined and without it.
use Rattle.std.proofs.Common.{◌≡◌, ℕ, suc, ◌≤◌, List, ◌++◌}
use Rattle.gq_text.specs.declared.place.Span.{Span}
use Rattle.gq_tree.specs.Forest.{more}
use Rattle.gq_tree.specs.Plain.{NameOf, DirectiveOf, spread, Sels, Def}
use Rattle.gq_parse.specs.Grammar.{Tokens, NotNext}
use Rattle.gq_lex.specs.declared.token.Kind.TheVariants as kind
use Rattle.gq_parse.specs.Documents.{IsDocument}
use Rattle.gq_laws.specs.Rewriting.Places.{AreInPlace}
use Rattle.gq_laws.specs.Cutting.Standing.{set_in}
use Rattle.gq_laws.proofs.Cutting.Phrases.{IsSome}
use Rattle.gq_laws.proofs.Cutting.Holes.{Way, tail_at}
use Rattle.gq_laws.proofs.Cutting.DocumentHoles.{IsAt}
use Rattle.gq_laws.proofs.Cutting.Inlined.{InlinedIn, inlined_in}
use Rattle.gq_laws.proofs.Cutting.Dropped.{without, FollowsType, Covers, document_follows, hole_behind, hole_before}
use Rattle.gq_laws.proofs.Cutting.Filtered.{without_in_place, at_behind, at_before}

-- The fragment stands before the spread. Where a definition of the type system stands right before it, no brace may stand behind it.
pub record InlinedBehind (m : ℕ) (e : Def Span) (ds : List (Def Span)) (tokens : Tokens) (name : NameOf Span) (directives : List (DirectiveOf Span)) (place : Span) : Type 0 where
  pub front : Tokens
  pub gone : Tokens
  pub behind : Tokens
  pub cut : tokens ≡ front ++ (gone ++ behind)
  pub is_some : IsSome gone
  pub covers : Covers e gone
  -- the other tokens, of which those from `between` to `left` hold the spread
  pub inlined : (FollowsType m ds → NotNext kind.BraceOpen behind) →
      (between : Tokens) × (left : Tokens) × InlinedIn (without m ds) (front ++ between) left left (front ++ behind) name directives place

pub inlined_behind : {ds : List (Def Span)} {tokens : Tokens} {name : NameOf Span} {directives : List (DirectiveOf Span)} {place : Span} {below rest : Sels Span} (m n : ℕ) (w : Way)
    (e d : Def Span) → m ≤ n → IsDocument ds tokens → AreInPlace 0 ds → IsAt e m ds → IsAt d (suc n) ds →
    tail_at w (set_in d) ≡ more (spread name directives place) below rest → InlinedBehind m e ds tokens name directives place
inlined_behind {ds} m n w e d l derived all i at is =
    let g = hole_behind m n w e d l derived i at is in
    record {
      front = g.front;
      gone = g.gone;
      behind = g.behind;
      cut = g.cut;
      is_some = g.is_some;
      covers = g.covers e i;
      inlined = λ fits.
          let j = g.hole (λ t. document_follows g.others.1 (fits t)) in
          (j.between, j.left, inlined_in n w d (without_in_place m 0 ds all) (at_behind m n d ds l at) is j.hole);
    }

-- The fragment stands behind the spread, which stands in the tokens before `between`.
pub record InlinedBefore (m : ℕ) (e : Def Span) (ds : List (Def Span)) (tokens : Tokens) (name : NameOf Span) (directives : List (DirectiveOf Span)) (place : Span) : Type 0 where
  pub front : Tokens
  pub between : Tokens
  pub gone : Tokens
  pub behind : Tokens
  pub is_some : IsSome gone
  pub covers : Covers e gone
  pub inlined : (FollowsType m ds → NotNext kind.BraceOpen behind) → InlinedIn (without m ds) front (between ++ (gone ++ behind)) (between ++ behind) tokens name directives place

pub inlined_before : {ds : List (Def Span)} {tokens : Tokens} {name : NameOf Span} {directives : List (DirectiveOf Span)} {place : Span} {below rest : Sels Span} (n m : ℕ) (w : Way)
    (e d : Def Span) → n ≤ m → IsDocument ds tokens → AreInPlace 0 ds → IsAt e (suc m) ds → IsAt d n ds →
    tail_at w (set_in d) ≡ more (spread name directives place) below rest → InlinedBefore (suc m) e ds tokens name directives place
inlined_before {ds} n m w e d l derived all i at is =
    let g = hole_before n m w e d l derived i at is in
    record {
      front = g.front;
      between = g.between;
      gone = g.gone;
      behind = g.behind;
      is_some = g.is_some;
      covers = g.covers e i;
      inlined = λ fits. inlined_in n w d (without_in_place (suc m) 0 ds all) (at_before n m d ds l at) is (g.hole (λ t. document_follows g.others.1 (fits t)));
    }
