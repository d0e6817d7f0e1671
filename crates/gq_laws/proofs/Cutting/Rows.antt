-- Selections of a set without the brace that closes it, put before other ones.
use Rattle.std.proofs.Common.{◌≡◌, ℕ, ◌+◌, ◌-◌, [], ◌∷◌, ◌++◌, Bool, false, cond, length, take, refl, sym, ap, subst, ◌∙◌, append_assoc, append-nil, arith, length-append}
use Rattle.std.proofs.lemmas.List.Sums.{sum_by-cons}
use Rattle.std.proofs.Math.Seq.{take-append-add}
use Rattle.gq_text.specs.declared.place.Span.{Span}
use Rattle.gq_lex.specs.declared.token.Kind.{Kind}
use Rattle.gq_lex.specs.declared.token.Kind.TheVariants as kind
use Rattle.gq_lex.specs.Tokens.{Lexeme}
use Rattle.gq_tree.specs.Forest.{none, more}
use Rattle.gq_tree.specs.Plain.{Head, Sels, erase_all}
use Rattle.gq_parse.specs.Grammar.{Tokens, starts, ends, IsSelection, IsSelectionSet, braces, IsSelections, set_closed, selection}
use Rattle.gq_parse.specs.Limits.{opens, closes, opened, closed}
use Rattle.gq_rewritten.specs.Rewrites.{Bare, followed_by}
use Rattle.gq_laws.proofs.Cutting.Alike.{AreAlike}
use Rattle.gq_laws.proofs.Cutting.Phrases.{Asked, Kept, cut_alike, none_alike, one_alike, IsSome, in_braces, in_braces_some, SelectionLike, selection_kept, SelectionsLike, SetLike}
use Rattle.gq_laws.proofs.Cutting.Ends.{behind_selection, asks_selection, ends_follow, selections_end}

-- selections before others
abbrev pub RowBefore : (ss os : Sels Span) → Tokens → Tokens → Type 0
RowBefore ss os x y = (ss' : Sels Span) × IsSelections ss' x y × (erase_all ss' ≡ followed_by (erase_all ss) (erase_all os))

-- The tokens up to the brace that closes selections; the same ones somewhere else, before other selections, are these and the others.
pub record Row (ss : Sels Span) (tokens rest : Tokens) : Type 0 where
  pub inner : Tokens
  pub closing : Lexeme
  pub split : tokens ≡ inner ++ closing ∷ rest
  pub closes : closing.kind ≡ kind.BraceClose
  pub again : (us x y : Tokens) (os : Sels Span) → AreAlike inner us → IsSelections os x y → RowBefore ss os (us ++ x) y

pub row_of : {ss : Sels Span} {tokens rest : Tokens} → IsSelections ss tokens rest → Row ss tokens rest
row_of (set_closed m) = record {
  inner = [];
  closing = m.token;
  split = m.first;
  closes = m.kind;
  again = λ us x y os r d. let P : Tokens → Type 0 = λ l. IsSelections os l y in (os, subst P (sym (none_alike us x r)) d, refl);
}
row_of {rest = rest} (selection {h = h} {below = b} {ss = ss} {tokens = tokens} a sel others) =
    let k : Kept behind_selection (SelectionLike h b) tokens a = selection_kept asks_selection sel in
    let o = row_of others in
    record {
      inner = k.front ++ o.inner;
      closing = o.closing;
      split = k.split ∙ ap (λ (l : Tokens). k.front ++ l) o.split ∙ sym (append_assoc k.front o.inner (o.closing ∷ rest));
      closes = o.closes;
      again = λ us x y os r d.
          let c = cut_alike k.front o.inner us r in
          let z = o.again c.second x y os c.rest d in
          let q = k.again c.first (c.second ++ x) c.alike (ends_follow a (c.second ++ x) (selections_end z.1)) in
          let whole : us ++ x ≡ c.first ++ (c.second ++ x) = ap (λ (l : Tokens). l ++ x) c.whole ∙ append_assoc c.first c.second x in
          let s : Sels Span = more q.0 q.1 z.0 in
          let P : Tokens → Type 0 = λ l. IsSelections s l y in
          (s, subst P (sym whole) (selection (c.second ++ x) q.2 z.1), let e1 = q.3 in let e2 = q.4 in let e3 = z.2 in cc);
    }

pub followed_by_none : (b : Bare) → followed_by b none ≡ b
followed_by_none none = refl
followed_by_none (more h b r) = ap (λ (z : Bare). more h b z) (followed_by_none r)

-- selections with the brace that closes them, before whatever rest
pub closed_kept : {asked : Asked} {ss : Sels Span} {tokens rest : Tokens} → IsSelections ss tokens rest → Kept asked (SelectionsLike ss) tokens rest
closed_kept {ss = ss} {rest = rest} d =
    let r = row_of d in
    record {
      front = r.inner ++ r.closing ∷ [];
      split = r.split ∙ sym (append_assoc r.inner (r.closing ∷ []) rest);
      again = λ us after p s.
          let c = cut_alike r.inner (r.closing ∷ []) us p in
          let o = one_alike r.closing c.second c.rest in
          let q = r.again c.first (o.token ∷ after) after none c.alike (set_closed (record { token = o.token; first = refl; kind = o.kind ∙ r.closes })) in
          let whole : us ++ after ≡ c.first ++ o.token ∷ after = ap (λ (l : Tokens). l ++ after) (c.whole ∙ ap (λ (l : Tokens). c.first ++ l) o.only) ∙ append_assoc c.first (o.token ∷ []) after in
          let P : Tokens → Type 0 = λ l. IsSelections q.0 l after in
          (q.0, subst P (sym whole) q.1, q.2 ∙ followed_by_none (erase_all ss));
    }

-- selections in braces
pub closed_set : {asked : Asked} {ss : Sels Span} {tokens rest : Tokens} → IsSelectionSet ss tokens rest → Kept asked (SetLike ss) tokens rest
closed_set (braces {h = h} {below = below} {ss = ss} a m body) = in_braces h below ss m (closed_kept body)

pub closed_set_some : (asked : Asked) {ss : Sels Span} {tokens rest : Tokens} (h : IsSelectionSet ss tokens rest) → IsSome (closed_set {asked = asked} h).front
unfolding closed_set
closed_set_some asked (braces {h = h} {below = below} {ss = ss} a m body) = in_braces_some h below ss m (closed_kept body)

-- tokens that begin with one and end with one before a rest, as their place says
pub begins_with : (tokens ts : Tokens) (t : Lexeme) → tokens ≡ t ∷ ts → t.span.start ≡ starts tokens
begins_with tokens ts t e = sym (ap starts e)

last_end : (xs : Tokens) (z : Lexeme) → ends (xs ++ z ∷ []) ≡ z.span.end
last_end [] z = refl
last_end (x ∷ []) z = refl
last_end (x ∷ y ∷ xs) z = last_end (y ∷ xs) z

pub ends_with : (tokens xs rest : Tokens) (z : Lexeme) → tokens ≡ xs ++ z ∷ rest → z.span.end ≡ ends (take (length tokens - length rest) tokens)
ends_with tokens xs rest z e =
    let n : length (xs ++ z ∷ rest) - length rest ≡ length xs + 1 = omega (arith, length-append xs (z ∷ rest)) in
    let one : take 1 (z ∷ rest) ≡ z ∷ [] = refl in
    sym (ap (λ (l : Tokens). ends (take (length l - length rest) l)) e ∙ ap (λ (k : ℕ). ends (take k (xs ++ z ∷ rest))) n
    ∙ ap ends (take-append-add xs (z ∷ rest) 1 ∙ ap (λ (l : Tokens). xs ++ l) one) ∙ last_end xs z)

-- a token that is no bracket does not nest
pub flat_more : (t : Lexeme) (ts : Tokens) (k : Kind) → t.kind ≡ k → opens k ≡ false → closes k ≡ false → (opened ts ≡ 0) × (closed ts ≡ 0) → (opened (t ∷ ts) ≡ 0) × (closed (t ∷ ts) ≡ 0)
flat_more t ts k e o c f =
    let x : opened (t ∷ ts) ≡ cond (opens t.kind) 1 0 + opened ts = sum_by-cons (λ (u : Lexeme). cond (opens u.kind) 1 0) t ts in
    let y : closed (t ∷ ts) ≡ cond (closes t.kind) 1 0 + closed ts = sum_by-cons (λ (u : Lexeme). cond (closes u.kind) 1 0) t ts in
    let p : ◌≡◌ {A = ℕ} (cond (opens t.kind) 1 0) 0 = ap (λ (j : Kind). cond (opens j) 1 0) e ∙ ap (λ (b : Bool). cond b 1 0) o in
    let q : ◌≡◌ {A = ℕ} (cond (closes t.kind) 1 0) 0 = ap (λ (j : Kind). cond (closes j) 1 0) e ∙ ap (λ (b : Bool). cond b 1 0) c in
    (omega (arith, x, p, f.0), omega (arith, y, q, f.1))

-- the first selection, and the ones behind it
pub record Parted (h : Head Span) (b r : Sels Span) (tokens rest : Tokens) : Type 0 where
  pub middle : Tokens
  pub one : IsSelection h b tokens middle
  pub others : IsSelections r middle rest

pub parted : {h : Head Span} {b r : Sels Span} {tokens rest : Tokens} → IsSelections (more h b r) tokens rest → Parted h b r tokens rest
parted (selection a sel others) = record { middle = a; one = sel; others = others }

-- nothing is asked
abbrev pub nothing : Asked
nothing = record { kinds = λ k. false; words = λ w. false }

-- the last selections of a set up to what is left of a document, and what stays of that, before more tokens
pub record BehindKept (others : Sels Span) (stays vs after : Tokens) : Type 0 where
  pub last : Tokens
  pub selections : Sels Span
  pub alike : AreAlike stays last
  pub are : IsSelections selections (vs ++ after) (last ++ after)
  pub is : erase_all selections ≡ erase_all others

pub record LastSelections (others : Sels Span) (tokens left : Tokens) : Type 0 where
  pub front : Tokens
  pub split : tokens ≡ front ++ left
  pub again : (stays vs after : Tokens) → AreAlike (front ++ stays) vs → BehindKept others stays vs after

pub last_selections : {others : Sels Span} {a left : Tokens} → IsSelections others a left → LastSelections others a left
last_selections {others} {a} {left} d =
    let k : Kept nothing (SelectionsLike others) a left = closed_kept d in
    record {
      front = k.front;
      split = k.split;
      again = λ stays vs after h.
          let c = cut_alike k.front stays vs h in
          let q = k.again c.first (c.second ++ after) c.alike (record { kinds = λ k is. absurd (cc); words = λ w is. absurd (cc) }) in
          let whole : vs ++ after ≡ c.first ++ (c.second ++ after) = ap (λ (l : Tokens). l ++ after) c.whole ∙ append_assoc c.first c.second after in
          let P : Tokens → Type 0 = λ l. IsSelections q.0 l (c.second ++ after) in
          record { last = c.second; selections = q.0; alike = c.rest; are = subst P (sym whole) q.1; is = q.2 };
    }

-- where all that is left stays
pub behind_kept : {others : Sels Span} {a left : Tokens} (back : Tokens) → left ≡ back ++ [] → IsSelections others a left → (vs after : Tokens) → AreAlike a vs → BehindKept others back vs after
behind_kept {others} {a} {left} back last d vs after h =
    let l = last_selections d in
    let A : Tokens → Type 0 = λ l. AreAlike l vs in
    l.again back vs after (subst A (l.split ∙ ap (λ (z : Tokens). l.front ++ z) (last ∙ append-nil back)) h)

-- selections that are like none but some are some
pub record SomeBefore (below rest : Sels Span) (x y : Tokens) : Type 0 where
  pub head : Head Span
  pub under : Sels Span
  pub others : Sels Span
  pub are : IsSelections (more head under others) x y
  pub is : erase_all (more head under others) ≡ followed_by (erase_all below) (erase_all rest)

pub some_before : (below rest os : Sels Span) (x y : Tokens) → (below ≡ none → ⊥) → erase_all os ≡ erase_all rest → RowBefore below os x y → SomeBefore below rest x y
some_before none rest os x y some e q = absurd (some refl)
some_before (more h b r) rest os x y some e q = by q.0 q.1 (q.2 ∙ ap (λ (z : Bare). followed_by (erase_all (more h b r)) z) e)
  where
    by : (ss : Sels Span) → IsSelections ss x y → erase_all ss ≡ followed_by (erase_all (more h b r)) (erase_all rest) → SomeBefore (more h b r) rest x y
    by none d i = absurd (cc)
    by (more g c s) d i = record { head = g; under = c; others = s; are = d; is = i }
