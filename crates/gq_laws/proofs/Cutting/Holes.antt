-- Where the last selections of a set stand in tokens, and others in their place.
use Rattle.std.proofs.Common.{◌≡◌, [], ◌∷◌, ◌++◌, Option, Some, refl, sym, ap, subst, ◌∙◌, append_assoc}
use Rattle.gq_text.specs.declared.place.Span.{Span}
use Rattle.gq_lex.specs.declared.token.Kind.TheVariants as kind
use Rattle.gq_tree.specs.Forest.{none, more}
use Rattle.gq_tree.specs.Plain.{Head, Sels, field, inline, place_head, no_place, erase_all}
use Rattle.gq_parse.specs.Grammar.{Tokens, covered, IsPunctuator, IsSelection, a_field, a_spread, an_inline, IsOptionalSet, no_set, a_set, IsSelectionSet, braces, IsSelections, set_closed, selection}
use Rattle.gq_renamed.proofs.Regrammar.{Then, plain_head, there}
use Rattle.gq_rewritten.specs.Rewrites.{Bare}
use Rattle.gq_laws.proofs.Cutting.Alike.{AreAlike}
use Rattle.gq_laws.proofs.Cutting.Phrases.{Asked, MayFollow, Kept, Nexts, cut_alike, next_alike, IsSome, some_alike, none_alike, everything, both, sign_kept, sign_some, some_more, arguments_kept}
use Rattle.gq_laws.proofs.Cutting.Phrases.{directives_kept, names_kept, optional_condition_kept, selection_kept}
use Rattle.gq_laws.proofs.Cutting.Ends.{behind_selection, asks_selection, Ends, ends_follow, selections_end}
use Rattle.gq_laws.proofs.Cutting.Rows.{closed_kept}

-- a way down selections, to the last ones of a set
pub data Way : Type 0 where
  here : Way
  within : Way → Way
  beyond : Way → Way

-- the selections at its end
abbrev pub tail_at : Way → Sels Span → Sels Span
tail_at here ss = ss
tail_at (within w) none = none
tail_at (within w) (more h b r) = tail_at w b
tail_at (beyond w) none = none
tail_at (beyond w) (more h b r) = tail_at w r

-- others in their place, places forgotten
abbrev pub with_tail : Way → Bare → Sels Span → Bare
with_tail here new ss = new
with_tail (within w) new none = none
with_tail (within w) new (more h b r) = more (place_head no_place h) (with_tail w new b) (erase_all r)
with_tail (beyond w) new none = none
with_tail (beyond w) new (more h b r) = more (place_head no_place h) (erase_all b) (with_tail w new r)

pub none_at : (w : Way) {h : Head Span} {b r : Sels Span} → tail_at w none ≡ more h b r → ⊥
none_at here e = cc
none_at (within w) e = cc
none_at (beyond w) e = cc

-- The last selections of a set stand in the tokens up to a rest. Where the same tokens somewhere else have others in their place, they are what Q says of these.
pub record Hole (asked : Asked) (h : Head Span) (b r : Sels Span) (Q : Sels Span → Tokens → Tokens → Type 0) (tokens rest : Tokens) : Type 0 where
  pub front : Tokens
  pub tail : Tokens
  pub left : Tokens
  pub back : Tokens
  pub split : tokens ≡ front ++ tail
  pub stands : IsSelections (more h b r) tail left
  pub ends : left ≡ back ++ rest
  pub again : (us x vs after : Tokens) (g : Head Span) (c s : Sels Span) → AreAlike front us → IsSelections (more g c s) x (vs ++ after) → AreAlike back vs → MayFollow asked rest after →
      Q (more g c s) (us ++ x) after

pub turned_hole : {asked : Asked} {h : Head Span} {b r : Sels Span} {P Q : Sels Span → Tokens → Tokens → Type 0} {tokens rest : Tokens} →
    ((g : Head Span) (c s : Sels Span) (x y : Tokens) → P (more g c s) x y → Q (more g c s) x y) → Hole asked h b r P tokens rest → Hole asked h b r Q tokens rest
turned_hole f w = record {
  front = w.front;
  tail = w.tail;
  left = w.left;
  back = w.back;
  split = w.split;
  stands = w.stands;
  ends = w.ends;
  again = λ us x vs after g c s p d q m. f g c s (us ++ x) after (w.again us x vs after g c s p d q m);
}

-- what may stand before a hole
abbrev Stays : Asked → Tokens → Tokens → Type 0
Stays own front tail = (us x : Tokens) → AreAlike front us → Ends x → MayFollow own (front ++ tail) (us ++ x)

before_by : {asked own : Asked} {h : Head Span} {b r : Sels Span} {P : Tokens → Tokens → Type 0} {Q : Sels Span → Tokens → Tokens → Type 0} {tokens a rest : Tokens} → Kept own P tokens a →
    (w : Hole asked h b r Q a rest) → Stays own w.front w.tail →
    Hole asked h b r (λ new. Then P (Q new)) tokens rest
before_by {own} {P = P} {Q} {tokens} {a} {rest} v w stays = record {
  front = v.front ++ w.front;
  tail = w.tail;
  left = w.left;
  back = w.back;
  split = v.split ∙ ap (λ (l : Tokens). v.front ++ l) w.split ∙ sym (append_assoc v.front w.front w.tail);
  stands = w.stands;
  ends = w.ends;
  again = λ us x vs after g c s p d q m.
      let k = cut_alike v.front w.front us p in
      let N : Tokens → Type 0 = λ l. MayFollow own l (k.second ++ x) in
      let next : MayFollow own a (k.second ++ x) = subst N (sym w.split) (stays k.second x k.rest (selections_end d)) in
      let first = v.again k.first (k.second ++ x) k.alike next in
      let second = w.again k.second x vs after g c s k.rest d q m in
      let whole : us ++ x ≡ k.first ++ (k.second ++ x) = ap (λ (l : Tokens). l ++ x) k.whole ∙ append_assoc k.first k.second x in
      let S : Tokens → Type 0 = λ l. P l (k.second ++ x) in
      (k.second ++ x, subst S (sym whole) first, second);
}

pub before_hole : {asked : Asked} {h : Head Span} {b r : Sels Span} {P : Tokens → Tokens → Type 0} {Q : Sels Span → Tokens → Tokens → Type 0} {tokens a rest : Tokens} →
    Kept behind_selection P tokens a → Hole asked h b r Q a rest → Hole asked h b r (λ new. Then P (Q new)) tokens rest
before_hole v w = before_by v w (λ us x p e. next_alike behind_selection w.front us w.tail x p (ends_follow w.tail x e))

-- the same where some token stands before the hole in the second part
pub before_some : {asked own : Asked} {h : Head Span} {b r : Sels Span} {P : Tokens → Tokens → Type 0} {Q : Sels Span → Tokens → Tokens → Type 0} {tokens a rest : Tokens} → Kept own P tokens a →
    (w : Hole asked h b r Q a rest) → IsSome w.front →
    Hole asked h b r (λ new. Then P (Q new)) tokens rest
before_some {own} v w some = before_by v w (λ us x p e. some_alike own w.front us w.tail x some p)

-- a hole, and a part behind it
pub behind_by : {asked own : Asked} {h : Head Span} {b r : Sels Span} {P : Sels Span → Tokens → Tokens → Type 0} {Q : Tokens → Tokens → Type 0} {tokens a rest : Tokens} →
    Hole own h b r P tokens a → (w : Kept asked Q a rest) → Nexts asked own w.front rest →
    Hole asked h b r (λ new. Then (P new) Q) tokens rest
behind_by {asked} {own} {P = P} {Q} {tokens} {a} {rest} v w nexts = record {
  front = v.front;
  tail = v.tail;
  left = v.left;
  back = v.back ++ w.front;
  split = v.split;
  stands = v.stands;
  ends = v.ends ∙ ap (λ (l : Tokens). v.back ++ l) w.split ∙ sym (append_assoc v.back w.front rest);
  again = λ us x vs after g c s p d q m.
      let k = cut_alike v.back w.front vs q in
      let e : vs ++ after ≡ k.first ++ (k.second ++ after) = ap (λ (l : Tokens). l ++ after) k.whole ∙ append_assoc k.first k.second after in
      let D : Tokens → Type 0 = λ l. IsSelections (more g c s) x l in
      let N : Tokens → Type 0 = λ l. MayFollow own l (k.second ++ after) in
      let next : MayFollow own a (k.second ++ after) = subst N (sym w.split) (nexts k.second after k.rest m) in
      let first = v.again us x k.first (k.second ++ after) g c s p (subst D e d) k.alike next in
      (k.second ++ after, first, w.again k.second after k.rest m);
}

pub behind_hole : {asked : Asked} {h : Head Span} {b r : Sels Span} {P : Sels Span → Tokens → Tokens → Type 0} {Q : Tokens → Tokens → Type 0} {tokens a rest : Tokens} →
    Hole asked h b r P tokens a → Kept asked Q a rest → Hole asked h b r (λ new. Then (P new) Q) tokens rest
behind_hole {asked} {rest = rest} v w = behind_by v w (λ us after p m. next_alike asked w.front us rest after p m)

-- selections with others at the end of a way
abbrev pub SelectionsWith : Way → Sels Span → Sels Span → Tokens → Tokens → Type 0
SelectionsWith w ss new x y = (ss' : Sels Span) × IsSelections ss' x y × (erase_all ss' ≡ with_tail w (erase_all new) ss)

abbrev pub SetWith : Way → Sels Span → Sels Span → Tokens → Tokens → Type 0
SetWith w ss new x y = (ss' : Sels Span) × IsSelectionSet ss' x y × (erase_all ss' ≡ with_tail w (erase_all new) ss)

abbrev pub OptionalWith : Way → Option Span → Sels Span → Sels Span → Tokens → Tokens → Type 0
OptionalWith w o ss new x y = (o' : Option Span) × (ss' : Sels Span) × IsOptionalSet o' ss' x y × (there o' ≡ there o) × (erase_all ss' ≡ with_tail w (erase_all new) ss)

abbrev pub SelectionWith : Way → Head Span → Sels Span → Sels Span → Tokens → Tokens → Type 0
SelectionWith w h ss new x y = (h' : Head Span) × (ss' : Sels Span) × IsSelection h' ss' x y × (plain_head h' ≡ plain_head h) × (erase_all ss' ≡ with_tail w (erase_all new) ss)

some_with : (w : Way) (h : Head Span) (b r : Sels Span) (g : Head Span) (c s : Sels Span) → none ≡ with_tail w (erase_all (more g c s)) (more h b r) → ⊥
some_with here h b r g c s e = cc
some_with (within w) h b r g c s e = cc
some_with (beyond w) h b r g c s e = cc

brace_with : {x y z : Tokens} (w : Way) (h : Head Span) (b r : Sels Span) (g : Head Span) (c s zs : Sels Span) → IsPunctuator kind.BraceOpen x y → IsSelections zs y z →
    erase_all zs ≡ with_tail w (erase_all (more g c s)) (more h b r) → SetWith w (more h b r) (more g c s) x z
brace_with w h b r g c s none m body e = absurd (some_with w h b r g c s e)
brace_with {y = y} w h b r g c s (more l i o) m body e = (more l i o, braces y m body, e)

-- a hole in braces
pub hole_in_braces : {asked : Asked} (w : Way) {l : Head Span} {i o : Sels Span} {x y z : Tokens} (h : Head Span) (b r : Sels Span) → IsPunctuator kind.BraceOpen x y →
    Hole asked l i o (SelectionsWith w (more h b r)) y z → Hole asked l i o (SetWith w (more h b r)) x z
hole_in_braces w h b r m body = turned_hole (λ g c s x y q. brace_with w h b r g c s q.2.0 q.1 q.2.1 q.2.2) (before_hole (sign_kept m) body)

pub hole_in_braces_some : (asked : Asked) (w : Way) {l : Head Span} {i o : Sels Span} {x y z : Tokens} (h : Head Span) (b r : Sels Span) (m : IsPunctuator kind.BraceOpen x y)
    (body : Hole asked l i o (SelectionsWith w (more h b r)) y z) → IsSome (hole_in_braces {asked = asked} w h b r m body).front
unfolding hole_in_braces turned_hole before_hole before_by
hole_in_braces_some asked w h b r m body = some_more (sign_kept {asked = behind_selection} m).front body.front (sign_some behind_selection m)

mutual
  pub selections_hole : {asked : Asked} (w : Way) {ss : Sels Span} {h : Head Span} {b r : Sels Span} {tokens rest : Tokens} → IsSelections ss tokens rest → tail_at w ss ≡ more h b r →
      Hole asked h b r (SelectionsWith w ss) tokens rest
  selections_hole here {ss} {h} {b} {r} {tokens} {rest} d e = record {
    front = [];
    tail = tokens;
    left = rest;
    back = [];
    split = refl;
    stands = let P : Sels Span → Type 0 = λ l. IsSelections l tokens rest in subst P e d;
    ends = refl;
    again = λ us x vs after g c s p d q m.
        let first : us ++ x ≡ x = none_alike us x p in
        let last : vs ++ after ≡ after = none_alike vs after q in
        let P : Tokens → Type 0 = λ l. IsSelections (more g c s) x l in
        let Q : Tokens → Type 0 = λ l. IsSelections (more g c s) l after in
        (more g c s, subst Q (sym first) (subst P last d), refl);
  }
  selections_hole (within w) (set_closed m) e = absurd (none_at (within w) e)
  selections_hole (beyond w) (set_closed m) e = absurd (none_at (beyond w) e)
  selections_hole (within w) (selection {h = h} {below = b} {ss = ss} a sel others) e =
      turned_hole (λ g c s x y q. (more q.1.0 q.1.1 q.2.0, selection q.0 q.1.2 q.2.1, let e1 = q.1.3 in let e2 = q.1.4 in let e3 = q.2.2 in cc))
      (behind_hole (selection_hole w sel e) (closed_kept others))
  selections_hole (beyond w) (selection {h = h} {below = b} {ss = ss} a sel others) e =
      turned_hole (λ g c s x y q. (more q.1.0 q.1.1 q.2.0, selection q.0 q.1.2 q.2.1, let e1 = q.1.3 in let e2 = q.1.4 in let e3 = q.2.2 in cc))
      (before_hole (selection_kept asks_selection sel) (selections_hole w others e))

  selection_hole : {asked : Asked} (w : Way) {l : Head Span} {ss : Sels Span} {h : Head Span} {b r : Sels Span} {tokens rest : Tokens} → IsSelection l ss tokens rest → tail_at w ss ≡ more h b r →
      Hole asked h b r (SelectionWith w l ss) tokens rest
  selection_hole w (a_field {alias = al} {name = n} {arguments = vs} {directives = ds} {braces = o} {ss = ss} a b c names args dirs set) e =
      turned_hole (λ g i s x y q.
      let v = q.2.1 in
      let d = q.2.2.1 in
      let z = q.2.2.2 in (
        field q.1.0 q.1.1 v.0 d.0 z.0 (covered x y),
        z.1,
        a_field q.0 q.2.0 q.2.2.0 q.1.2 v.1 d.1 z.2,
        let e1 = q.1.3 in let e2 = q.1.4 in let e3 = v.2 in let e4 = d.2 in let e5 = z.3 in cc,
        z.4,
      ))
      (before_hole (names_kept asks_selection.0 names)
      (before_hole (arguments_kept asks_selection.1 args) (before_hole (directives_kept asks_selection.1 asks_selection.2 dirs) (optional_hole w set e))))
  selection_hole w (a_spread a b m n dirs) e = absurd (none_at w e)
  selection_hole {asked} w (an_inline {on = on} {directives = ds} a b c m cond dirs (braces {h = h} {below = below} {ss = ss} f n body)) e =
      turned_hole (λ g i s x y q.
      let o = q.1.2.1 in
      let d = q.1.2.2 in
      let z = q.2 in (
        inline o.0 d.0 (covered q.0 y) (covered x y),
        z.0,
        an_inline q.1.0 q.1.2.0 q.0 q.1.1 o.1 d.1 z.1,
        let e1 = o.2 in let e2 = d.2 in cc,
        z.2,
      ))
      (before_some {own = everything} (both (sign_kept m) (both (optional_condition_kept refl cond) (directives_kept refl refl dirs))) (hole_in_braces w h below ss n (selections_hole w body e))
      (hole_in_braces_some asked w h below ss n (selections_hole w body e)))

  optional_hole : {asked : Asked} (w : Way) {o : Option Span} {ss : Sels Span} {h : Head Span} {b r : Sels Span} {tokens rest : Tokens} → IsOptionalSet o ss tokens rest →
      tail_at w ss ≡ more h b r → Hole asked h b r (OptionalWith w o ss) tokens rest
  optional_hole w (no_set f) e = absurd (none_at w e)
  optional_hole w (a_set (braces {h = h} {below = below} {ss = ss} a m body)) e =
      turned_hole (λ g i s x y q. (Some (covered x y), q.0, a_set q.1, refl, q.2)) (hole_in_braces w h below ss m (selections_hole w body e))

-- a hole with some token before it
abbrev pub SomeHole : Asked → Head Span → (b r : Sels Span) → (Sels Span → Tokens → Tokens → Type 0) → Tokens → Tokens → Type 0
SomeHole asked h b r Q tokens rest = (w : Hole asked h b r Q tokens rest) × IsSome w.front

turned_some : {asked : Asked} {h : Head Span} {b r : Sels Span} {P : Sels Span → Tokens → Tokens → Type 0} (Q : Sels Span → Tokens → Tokens →
    Type 0) {tokens rest : Tokens} (f : (g : Head Span) (c s : Sels Span) (x y : Tokens) → P (more g c s) x y → Q (more g c s) x y) (w : Hole asked h b r P tokens rest) → IsSome w.front →
    IsSome (turned_hole {Q = Q} f w).front
unfolding turned_hole
turned_some Q f w i = i

pub turned_placed : {asked : Asked} {h : Head Span} {b r : Sels Span} {P Q : Sels Span → Tokens → Tokens → Type 0} {tokens rest : Tokens} →
    ((g : Head Span) (c s : Sels Span) (x y : Tokens) → P (more g c s) x y → Q (more g c s) x y) → SomeHole asked h b r P tokens rest → SomeHole asked h b r Q tokens rest
turned_placed {Q = Q} f w = (turned_hole {Q = Q} f w.0, turned_some Q f w.0 w.1)

some_before : (f g : Tokens) → IsSome g → IsSome (f ++ g)
some_before [] g h = h
some_before (t ∷ f) g h = tt

before_some_some : {asked own : Asked} {h : Head Span} {b r : Sels Span} {P : Tokens → Tokens → Type 0} {Q : Sels Span → Tokens → Tokens →
    Type 0} {tokens a rest : Tokens} (v : Kept own P tokens a) (w : Hole asked h b r Q a rest) (i : IsSome w.front) → IsSome (before_some v w i).front
unfolding before_some before_by
before_some_some v w i = some_before v.front w.front i

pub before_placed : {asked own : Asked} {h : Head Span} {b r : Sels Span} {P : Tokens → Tokens → Type 0} {Q : Sels Span → Tokens → Tokens → Type 0} {tokens a rest : Tokens} → Kept own P tokens a →
    SomeHole asked h b r Q a rest → SomeHole asked h b r (λ new. Then P (Q new)) tokens rest
before_placed v w = (before_some v w.0 w.1, before_some_some v w.0 w.1)

behind_by_some : {asked own : Asked} {h : Head Span} {b r : Sels Span} {P : Sels Span → Tokens → Tokens → Type 0} {Q : Tokens → Tokens →
    Type 0} {tokens a rest : Tokens} (v : Hole own h b r P tokens a) (w : Kept asked Q a rest) (n : Nexts asked own w.front rest) → IsSome v.front →
    IsSome (behind_by v w n).front
unfolding behind_by
behind_by_some v w n i = i

pub behind_placed : {asked own : Asked} {h : Head Span} {b r : Sels Span} {P : Sels Span → Tokens → Tokens → Type 0} {Q : Tokens → Tokens → Type 0} {tokens a rest : Tokens} →
    SomeHole own h b r P tokens a → (w : Kept asked Q a rest) → Nexts asked own w.front rest →
    SomeHole asked h b r (λ new. Then (P new) Q) tokens rest
behind_placed v w n = (behind_by v.0 w n, behind_by_some v.0 w n v.1)

-- a hole in a set
pub set_hole : {asked : Asked} (w : Way) {ss : Sels Span} {h : Head Span} {b r : Sels Span} {tokens rest : Tokens} → IsSelectionSet ss tokens rest → tail_at w ss ≡ more h b r →
    SomeHole asked h b r (SetWith w ss) tokens rest
set_hole {asked} w (braces {h = h} {below = below} {ss = ss} a m body) e =
    (hole_in_braces w h below ss m (selections_hole w body e), hole_in_braces_some asked w h below ss m (selections_hole w body e))
