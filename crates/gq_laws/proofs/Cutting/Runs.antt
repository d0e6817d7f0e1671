-- Consecutive selections of a set, in tokens and as trees.
use Rattle.std.proofs.Common.{◌≡◌, ℕ, ◌-◌, ◌<◌, ◌≤◌, List, [], ◌∷◌, ◌++◌, Some, length, take, refl, sym, ap, subst, ◌∙◌, append_assoc, arith, length-append}
use Rattle.std.proofs.Math.Seq.{take-append_seam}
use Rattle.gq_text.specs.declared.place.Span.{Span}
use Rattle.gq_tree.specs.Forest.{more, row}
use Rattle.gq_tree.specs.Plain.{Head, Sel, Sels}
use Rattle.gq_parse.specs.Grammar.{Tokens, starts, ends, covered, IsSelection, a_field, a_spread, an_inline, IsSelections, selection}
use Rattle.gq_rewritten.specs.Rewrites.{head_place}
use Rattle.gq_laws.specs.Rewriting.Places.{AreNested, run_start, run_end}
use Rattle.gq_laws.proofs.Rewriting.Past.{Past, at_once, one_on, Passed, passed, past_selection}
use Rattle.gq_laws.proofs.Cutting.Alike.{AreAlike}
use Rattle.gq_laws.proofs.Cutting.Phrases.{Kept, IsSome, cut_alike, none_alike, some_more, SelectionLike, selection_kept}
use Rattle.gq_laws.proofs.Cutting.Ends.{behind_selection, asks_selection, ends_follow, selections_end}
use Rattle.gq_laws.proofs.Cutting.Rows.{RowBefore, parted}

-- The tokens of consecutive selections; the same ones somewhere else, before other selections, are these and the others.
pub record RunIn (run others : List (Sel Span)) (tokens rest : Tokens) : Type 0 where
  pub inner : Tokens
  pub middle : Tokens
  pub cut : tokens ≡ inner ++ middle
  pub behind : IsSelections (row others) middle rest
  pub again : (us x y : Tokens) (os : Sels Span) → AreAlike inner us → IsSelections os x y → RowBefore (row run) os (us ++ x) y
  pub begins : (start : ℕ) → run_start run ≡ Some start → IsSome inner × (starts inner ≡ start)
  pub finishes : (end : ℕ) → run_end run ≡ Some end → ends inner ≡ end

shorter : {tokens rest : Tokens} → Past tokens rest → length rest ≤ length tokens
shorter at_once = omega arith
shorter (one_on p) = let i = shorter p in omega (arith, i)

longer : {tokens rest : Tokens} → Passed tokens rest → length rest < length tokens
longer (passed p) = let i = shorter p in omega (arith, i)

-- a selection has tokens
pub some_front : (front rest : Tokens) {tokens : Tokens} → tokens ≡ front ++ rest → Passed tokens rest → IsSome front
some_front [] rest e p = let i = longer p in let l = ap length e in absurd (omega (arith, i, l))
some_front (t ∷ front) rest e p = tt

pub starts_same : (front rest : Tokens) → IsSome front → starts (front ++ rest) ≡ starts front
starts_same [] rest i = absurd i
starts_same (t ∷ front) rest i = refl

pub ends_behind : (front rest : Tokens) → IsSome rest → ends (front ++ rest) ≡ ends rest
ends_behind [] rest i = refl
ends_behind (t ∷ []) [] i = absurd i
ends_behind (t ∷ []) (u ∷ rest) i = refl
ends_behind (t ∷ u ∷ front) rest i = ends_behind (u ∷ front) rest i

pub placed : {h : Head Span} {b : Sels Span} {tokens rest : Tokens} → IsSelection h b tokens rest → head_place h ≡ covered tokens rest
placed (a_field a b c n g ds s) = refl
placed (a_spread a b p n ds) = refl
placed (an_inline a b c p t ds s) = refl

pub ends_at : (front rest : Tokens) {tokens : Tokens} → tokens ≡ front ++ rest → ends (take (length tokens - length rest) tokens) ≡ ends front
ends_at front rest e =
    let n : length (front ++ rest) - length rest ≡ length front = omega (arith, length-append front rest) in
    ap (λ (l : Tokens). ends (take (length l - length rest) l)) e ∙ ap (λ (k : ℕ). ends (take k (front ++ rest))) n ∙ ap ends (take-append_seam front rest)

-- one selection before a run
before_run : (s : Sel Span) (ss : List (Sel Span)) (us x y a : Tokens) (f g : Tokens) (os : Sels Span) →
    ((vs after : Tokens) → AreAlike f vs → (z : Sels Span) → IsSelections z after y → RowBefore (row (s ∷ [])) z (vs ++ after) y) →
    ((vs : Tokens) → AreAlike g vs → RowBefore (row ss) os (vs ++ x) y) →
    AreAlike (f ++ g) us → RowBefore (row (s ∷ ss)) os (us ++ x) y
before_run s ss us x y a f g os one others r =
    let c = cut_alike f g us r in
    let z = others c.second c.rest in
    let q = one c.first (c.second ++ x) c.alike z.0 z.1 in
    let whole : us ++ x ≡ c.first ++ (c.second ++ x) = ap (λ (l : Tokens). l ++ x) c.whole ∙ append_assoc c.first c.second x in
    let P : Tokens → Type 0 = λ l. IsSelections q.0 l y in
    (q.0, subst P (sym whole) q.1, let e1 = q.2 in let e2 = z.2 in cc)

one_again : (s : Sel Span) {tokens a : Tokens} (k : Kept behind_selection (SelectionLike s.label s.below) tokens a) (y vs after : Tokens) → AreAlike k.front vs → (z : Sels Span) →
    IsSelections z after y → RowBefore (row (s ∷ [])) z (vs ++ after) y
one_again s {tokens} {a} k y vs after p z d =
    let q = k.again vs after p (ends_follow a after (selections_end d)) in
    (more q.0 q.1 z, selection after q.2 d, let e1 = q.3 in let e2 = q.4 in cc)

pub run_in : (run others : List (Sel Span)) {tokens rest : Tokens} → IsSelections (row (run ++ others)) tokens rest → RunIn run others tokens rest
run_in [] others {tokens} {rest} d = record {
  inner = [];
  middle = tokens;
  cut = refl;
  behind = d;
  again = λ us x y os r o. let P : Tokens → Type 0 = λ l. IsSelections os l y in (os, subst P (sym (none_alike us x r)) o, refl);
  begins = λ start e. absurd (cc);
  finishes = λ end e. absurd (cc);
}
run_in (s ∷ []) others {tokens} {rest} d =
    let p = parted {h = s.label} {b = s.below} {r = row others} d in
    let k : Kept behind_selection (SelectionLike s.label s.below) tokens p.middle = selection_kept asks_selection p.one in
    let some = some_front k.front p.middle k.split (past_selection p.one) in
    let place = placed p.one in
    record {
      inner = k.front;
      middle = p.middle;
      cut = k.split;
      behind = p.others;
      again = λ us x y os r o. one_again s k y us x r os o;
      begins = λ start e.
          let here : (head_place s.label).start ≡ start = cc in
          let there : (head_place s.label).start ≡ starts tokens = ap (λ (z : Span). z.start) place in
          (some, sym (starts_same k.front p.middle some) ∙ sym (ap starts k.split) ∙ sym there ∙ here);
      finishes = λ end e.
          let here : (head_place s.label).end ≡ end = cc in
          let there : (head_place s.label).end ≡ ends (take (length tokens - length p.middle) tokens) = ap (λ (z : Span). z.end) place in
          sym (ends_at k.front p.middle k.split) ∙ sym there ∙ here;
    }
run_in (s ∷ t ∷ ss) others {tokens} {rest} d =
    let p = parted {h = s.label} {b = s.below} {r = row (t ∷ ss ++ others)} d in
    let k : Kept behind_selection (SelectionLike s.label s.below) tokens p.middle = selection_kept asks_selection p.one in
    let i = run_in (t ∷ ss) others p.others in
    let some = some_front k.front p.middle k.split (past_selection p.one) in
    let place = placed p.one in
    record {
      inner = k.front ++ i.inner;
      middle = i.middle;
      cut = k.split ∙ ap (λ (l : Tokens). k.front ++ l) i.cut ∙ sym (append_assoc k.front i.inner i.middle);
      behind = i.behind;
      again = λ us x y os r o. before_run s (t ∷ ss) us x y p.middle k.front i.inner os (one_again s k y) (λ vs h. i.again vs x y os h o) r;
      begins = λ start e.
          let here : (head_place s.label).start ≡ start = cc in
          let there : (head_place s.label).start ≡ starts tokens = ap (λ (z : Span). z.start) place in
          (some_more k.front i.inner some, starts_same k.front i.inner some ∙ sym (starts_same k.front p.middle some) ∙ sym (ap starts k.split) ∙ sym there ∙ here);
      finishes = λ end e. ends_behind k.front i.inner ((i.begins (head_place t.label).start refl).0) ∙ i.finishes end e;
    }

-- where a run stands among selections that are nested
pub record RunPlace (start end from to : ℕ) : Type 0 where
  pub begins : from ≤ start
  pub is_some : start < end
  pub finishes : end ≤ to

pub run_place : (run others : List (Sel Span)) (start end from to : ℕ) → run_start run ≡ Some start → run_end run ≡ Some end → AreNested from to (row (run ++ others)) → RunPlace start end from to
run_place [] others start end from to first last n = absurd (cc)
run_place (s ∷ []) others start end from to first last n =
    let a : (head_place s.label).start ≡ start = cc in
    let b : (head_place s.label).end ≡ end = cc in
    record { begins = omega (arith, a, n.0); is_some = omega (arith, a, b, n.1); finishes = omega (arith, b, n.2) }
run_place (s ∷ t ∷ ss) others start end from to first last n =
    let a : (head_place s.label).start ≡ start = cc in
    let i = run_place (t ∷ ss) others (head_place t.label).start end (head_place s.label).end to refl last n.4 in
    record { begins = omega (arith, a, n.0); is_some = omega (arith, a, n.1, i.begins, i.is_some); finishes = i.finishes }
