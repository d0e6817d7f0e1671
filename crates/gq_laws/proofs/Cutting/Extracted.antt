-- A document whose tokens have a spread in place of consecutive selections, and these in a new fragment at the end, is the document with these extracted.
use Rattle.std.proofs.Common.{◌≡◌, ℕ, ◌<◌, ◌≤◌, Bool, false, List, [], ◌∷◌, ◌++◌, Some, refl, ap, subst, ◌∙◌, map, arith, nat_le}
use Rattle.std.specs.Prelude.{◌==◌, ◌&&◌, codes, if◌then◌else◌}
use Rattle.std.proofs.lemmas.Bool.Decides.{nat_tests}
use Rattle.gq_text.specs.declared.place.Span.{Span}
use Rattle.gq_tree.specs.Forest.{none, more, row}
use Rattle.gq_tree.specs.Plain.{Head, spread, Sel, Sels, Def, fragment, place_head, no_place, erase_all, erase_document}
use Rattle.gq_parse.specs.Grammar.{Tokens, starts, ends}
use Rattle.gq_parse.specs.Documents.{IsDocument}
use Rattle.gq_rewritten.specs.Rewrites.{Bare, bare_name, head_place, with_set, with_extracted}
use Rattle.gq_laws.specs.Rewriting.Places.{AreInPlace, run_start, run_end}
use Rattle.gq_laws.proofs.Rewriting.Extracts.{run_goes}
use Rattle.gq_laws.specs.Cutting.Standing.{set_in}
use Rattle.gq_laws.proofs.Cutting.Alike.{AreAlike}
use Rattle.gq_laws.proofs.Cutting.Begins.{BeginsSelection, selections_begin, begins_front}
use Rattle.gq_laws.proofs.Cutting.Phrases.{IsSome, cut_alike}
use Rattle.gq_laws.proofs.Cutting.Rows.{behind_kept}
use Rattle.gq_laws.proofs.Cutting.Runs.{run_in, run_place}
use Rattle.gq_laws.proofs.Cutting.Holes.{Way, tail_at, with_tail, Hole}
use Rattle.gq_laws.proofs.Cutting.DocumentHoles.{IsAt, with_definition, DocumentWith, behind_definition, document_hole, HasTree, finished, two_parts}
use Rattle.gq_laws.proofs.Cutting.Ways.{nested_in, IsElsewhere, on_document}
use Rattle.gq_laws.proofs.Cutting.Written.{spread_tokens, fragment_tokens, spread_before, fragment_document, fragment_follows}

-- the new definition
abbrev pub new_fragment : (name on : List ℕ) → List (Sel Span) → Def (Unit {0})
new_fragment name on run = fragment (bare_name name) (bare_name on) [] (erase_all (row run)) tt tt

-- The tokens of consecutive selections of a set in those of a document; the same ones somewhere else, with a spread in their
-- place and a fragment of them at the end, are the document with these extracted.
pub record Extracted (ds : List (Def Span)) (tokens : Tokens) (start end : ℕ) (run : List (Sel Span)) : Type 0 where
  pub front : Tokens
  pub inner : Tokens
  pub behind : Tokens
  pub cut : tokens ≡ front ++ (inner ++ behind)
  pub is_some : IsSome inner
  pub begins : starts inner ≡ start
  pub finishes : ends inner ≡ end
  pub selects : BeginsSelection inner
  pub again : (name on : List ℕ) (zs : Tokens) → (name ≡ codes "on" → ⊥) → AreAlike (front ++ (spread_tokens name ++ (behind ++ fragment_tokens name on inner))) zs →
      HasTree zs (map (with_set (with_extracted start end name)) ds ++ new_fragment name on run ∷ [])

-- the trees
module _ (start end : ℕ) (name : List ℕ) where
  passes : (g : Head Span) (c s : Sels Span) → IsElsewhere start end g →
      with_extracted start end name (more g c s) ≡ more (place_head no_place g) (with_extracted start end name c) (with_extracted start end name s)
  passes g c s e =
      tested ((head_place g).start == start) (nat_le start (head_place g).start && nat_le (head_place g).end end) refl refl (other (head_place g).start e.0)
      (outside (head_place g).start (head_place g).end e.1)
    where
      other : (a : ℕ) → (a ≡ start → ⊥) → (a == start) ≡ false
      other a n = grind (arith, nat_tests)

      outside : (a b : ℕ) → (start ≤ a → b ≤ end → ⊥) → (nat_le start a && nat_le b end) ≡ false
      outside a b n = grind (arith, nat_tests)

      tested : (x y : Bool) → ((head_place g).start == start) ≡ x → (nat_le start (head_place g).start && nat_le (head_place g).end end) ≡ y → x ≡ false → y ≡ false →
          with_extracted start end name (more g c s) ≡ more (place_head no_place g) (with_extracted start end name c) (with_extracted start end name s)
      tested x y i j p q =
          ap (λ z. if z then more (spread (bare_name name) [] tt) none (with_extracted start end name s) else if nat_le start (head_place g).start && nat_le
          (head_place g).end end then with_extracted start end name s else more (place_head no_place g) (with_extracted start end name c) (with_extracted start end name s)) (i ∙ p)
          ∙ ap (λ z. if z then with_extracted start end name s else more (place_head no_place g) (with_extracted start end name c) (with_extracted start end name s)) (j ∙ q)

  tree_with : (s : Sel Span) (ss others : List (Sel Span)) (n : ℕ) (w : Way) (d : Def Span) (ds : List (Def Span)) → IsAt d n ds → tail_at w (set_in d) ≡ row (s ∷ ss ++ others) → AreInPlace 0 ds →
      run_start (s ∷ ss) ≡ Some start → run_end (s ∷ ss) ≡ Some end →
      (new : Bare) → new ≡ more (spread (bare_name name) [] tt) none (erase_all (row others)) → with_definition n (with_tail w new) ds ≡ map (with_set (with_extracted start end name)) ds
  tree_with s ss others n w d ds at is all first last new e =
      let some : start < end = let m = nested_in w n d 0 ds at is all in (run_place (s ∷ ss) others start end m.0 m.1 first last m.2).is_some in
      ap (λ (l : Bare). with_definition n (with_tail w l) ds) e
      ∙ on_document (with_extracted start end name) start end some refl passes s.label s.below (row (ss ++ others)) (more (spread (bare_name name) [] tt) none (erase_all (row others)))
      (λ from to m. let p = run_place (s ∷ ss) others start end from to first last m in (p.begins, p.finishes))
      (λ from to m. run_goes start end name from to (s ∷ ss) others first last m)
      w n d 0 ds at is all

-- tokens glued from their parts
glued : {zs : Tokens} (f s i t j k : Tokens) → zs ≡ f ++ s → s ≡ i ++ t → t ≡ j ++ k → zs ≡ f ++ (i ++ (j ++ k))
glued f s i t j k e1 e2 e3 = e1 ∙ ap (λ (l : Tokens). f ++ l) (e2 ∙ ap (λ (l : Tokens). i ++ l) e3)

extracted_at : {ds : List (Def Span)} {tokens : Tokens} (s : Sel Span) (ss others : List (Sel Span)) (start end n : ℕ) (w : Way) (d : Def Span) → AreInPlace 0 ds → IsAt d n ds →
    tail_at w (set_in d) ≡ row (s ∷ ss ++ others) → run_start (s ∷ ss) ≡ Some start → run_end (s ∷ ss) ≡ Some end →
    Hole behind_definition s.label s.below (row (ss ++ others)) (DocumentWith n w ds) tokens [] → Extracted ds tokens start end (s ∷ ss)
extracted_at {ds} {tokens} s ss others start end n w d all at is first last hole =
    let r = run_in (s ∷ ss) others hole.stands in
    let b = r.begins start first in
    record {
      front = hole.front;
      inner = r.inner;
      behind = r.middle;
      cut = hole.split ∙ ap (λ (l : Tokens). hole.front ++ l) r.cut;
      is_some = b.0;
      begins = b.1;
      finishes = r.finishes end last;
      selects = begins_front r.inner r.middle b.0 (subst BeginsSelection r.cut (selections_begin hole.stands));
      again = λ name on zs other h.
          let c = cut_alike hole.front (spread_tokens name ++ (r.middle ++ fragment_tokens name on r.inner)) zs h in
          let i = cut_alike (spread_tokens name) (r.middle ++ fragment_tokens name on r.inner) c.second c.rest in
          let m = cut_alike r.middle (fragment_tokens name on r.inner) i.second i.rest in
          let k = behind_kept hole.back hole.ends r.behind m.first m.second m.alike in
          let o = spread_before name i.first (m.first ++ m.second) (k.last ++ m.second) k.selections other i.alike k.are in
          let z = hole.again c.first (i.first ++ (m.first ++ m.second)) k.last m.second o.head none k.selections c.alike o.are k.alike (fragment_follows name on r.inner m.second m.rest) in
          let f = fragment_document name on (row (s ∷ ss)) r.inner m.second (λ e. cc) other r.again m.rest in
          let new : Bare = erase_all (more o.head none k.selections) in
          let is_new : new ≡ more (spread (bare_name name) [] tt) none (erase_all (row others)) = let e1 = o.is in let e2 = k.is in cc in
          let tree = tree_with start end name s ss others n w d ds at is all first last new is_new in
          finished zs (c.first ++ (i.first ++ (m.first ++ m.second)))
          (glued c.first c.second i.first i.second m.first m.second c.whole i.whole m.whole) {one = with_definition n (with_tail w new) ds ++ erase_document f.0} (z f.0 f.1)
          (two_parts {a = with_definition n (with_tail w new) ds} {c = erase_document f.0} tree f.2);
    }

pub extracted_document : {ds : List (Def Span)} {tokens : Tokens} (run others : List (Sel Span)) (start end n : ℕ) (w : Way) (d : Def Span) → IsDocument ds tokens → AreInPlace 0 ds → IsAt d n ds →
    tail_at w (set_in d) ≡ row (run ++ others) → run_start run ≡ Some start → run_end run ≡ Some end →
    Extracted ds tokens start end run
extracted_document [] others start end n w d derived all at is first last = absurd (cc)
extracted_document (s ∷ ss) others start end n w d derived all at is first last = extracted_at s ss others start end n w d all at is first last ((document_hole n w d derived at is).0)
