-- A stack of what is still expected, one token at a time: it accepts just the beginnings of documents.
use Rattle.std.proofs.Common.{◌≡◌, ℕ, List, [], ◌∷◌, ◌++◌, Bool, true, false, Option, Some, None, refl, ap, sym, subst, ◌∙◌, append_assoc, length, take, suc, zero, ◌<◌, ◌+◌, arith, add-one, get_or, map}
use Rattle.std.proofs.lemmas.List.{length-map}
use Rattle.std.specs.Prelude.{MatchBool, ◌&&◌}
use Rattle.gq_text.specs.declared.place.Span.{Span}
use Rattle.gq_lex.specs.declared.token.Kind.{Kind}
use Rattle.gq_lex.specs.declared.token.Kind.TheVariants as kind
use Rattle.gq_lex.specs.declared.token.Token.{Token}
use Rattle.gq_lex.specs.Tokens.{Lexeme, lexeme_of}
use Rattle.gq_tree.specs.Plain.{Def}
use Rattle.gq_parse.specs.Grammar.{Tokens}
use Rattle.gq_parse.specs.Documents.{IsDocument, at_end, definition}
use Rattle.gq_parse.specs.Prefix.{Begins, IsSyntaxAt}
use Rattle.gq_parse.specs.Helping.Words.{word_of}
use Rattle.gq_parse.specs.declared.expected.Word.{Word}
use Rattle.gq_parse.specs.declared.expected.Word.TheVariants as word
use Rattle.gq_parse.specs.declared.expected.Symbol.{Symbol}
use Rattle.gq_parse.specs.declared.expected.Symbol.TheVariants.{Definition}
use Rattle.gq_parse.specs.declared.expected.Move.{Move}
use Rattle.gq_parse.specs.declared.expected.Move.TheVariants.{Takes, TakesThen, TakesThenTwo, TakesThenThree, TakesThenFour, TakesThenFive, TakesThenSix, Skips, Stops}
use Rattle.gq_parse.specs.Helping.Expected.{move, definition_word_move, definition_move, resolve, advance}
use Rattle.gq_parse.proofs.Means.{Means, After}
use Rattle.gq_parse.proofs.Completions.{Clear, complete, complete_any}
use Rattle.gq_parse.proofs.Tails.{safe, safe_tail, is_safe, tail_is_safe}
use Rattle.gq_parse.proofs.EachMove.{goes_on, comes_from}

-- what a stack stands for: its symbols in turn, and then definitions
abbrev pub Rest : List Symbol → Tokens → Type 0
Rest [] tokens = (ds : List (Def Span)) × IsDocument ds tokens
Rest (s ∷ ss) tokens = (mid : Tokens) × Means s tokens mid × Rest ss mid

-- Every stack can be completed, of which all symbols but the top one are safe.
abbrev pub AllSafe : List Symbol → Type 0
AllSafe [] = Unit {0}
AllSafe (s ∷ ss) = (safe s ≡ true) × AllSafe ss

abbrev pub IsSound : List Symbol → Type 0
IsSound [] = Unit {0}
IsSound (s ∷ ss) = AllSafe ss

all_complete : (ss : List Symbol) → AllSafe ss → (tokens : Tokens) × Rest ss tokens × Clear tokens
all_complete [] u = ([], ([], at_end), tt)
all_complete (s ∷ ss) (u, us) =
    let below = all_complete ss us in
    let here = complete s below.0 below.2 (is_safe s u) in
    (here.tokens, (below.0, here.means, below.1), here.clear)

completable : (ss : List Symbol) → IsSound ss → (tokens : Tokens) × Rest ss tokens
completable [] u = ([], ([], at_end))
completable (s ∷ ss) us =
    let below = all_complete ss us in
    let here = complete_any s below.0 below.2 in
    (here.0, (below.0, here.1, below.1))

some_inj : {X : Type 0} {x y : X} → ◌≡◌ {A = Option X} (Some x) (Some y) → x ≡ y
some_inj h = cc

none_some : {X : Type 0} {x : X} → ◌≡◌ {A = Option X} None (Some x) → ⊥
none_some h = cc

-- soundness is kept
both : (a b : Bool) → a && b ≡ true → (a ≡ true) × (b ≡ true)
both true b e = (refl, e)
both false b e = absurd (cc)

is_sound : (ss : List Symbol) → AllSafe ss → IsSound ss
is_sound [] u = tt
is_sound (s ∷ ss) u = u.1

resolve_sound : (m : Move) (ss : List Symbol) (skipped : Option (List Symbol)) (after : List Symbol) → safe_tail m ≡ true → AllSafe ss → (skipped ≡ Some after → IsSound after) → resolve m ss skipped ≡ Some after → IsSound after
resolve_sound Takes ss skipped after e u go h = subst IsSound (some_inj h) (is_sound ss u)
resolve_sound (TakesThen a) ss skipped after e u go h = subst IsSound (some_inj h) u
resolve_sound (TakesThenTwo a b) ss skipped after e u go h = subst IsSound (some_inj h) (e, u)
resolve_sound (TakesThenThree a b c) ss skipped after e u go h =
    let p = both (safe b) (safe c) e in subst IsSound (some_inj h) (p.0, (p.1, u))
resolve_sound (TakesThenFour a b c d) ss skipped after e u go h =
    let p = both (safe b) (safe c && safe d) e in
    let q = both (safe c) (safe d) p.1 in
    subst IsSound (some_inj h) (p.0, (q.0, (q.1, u)))
resolve_sound (TakesThenFive a b c d f) ss skipped after e u go h =
    let p = both (safe b) (safe c && (safe d && safe f)) e in
    let q = both (safe c) (safe d && safe f) p.1 in
    let r = both (safe d) (safe f) q.1 in
    subst IsSound (some_inj h) (p.0, (q.0, (r.0, (r.1, u))))
resolve_sound (TakesThenSix a b c d f g) ss skipped after e u go h =
    let p = both (safe b) (safe c && (safe d && (safe f && safe g))) e in
    let q = both (safe c) (safe d && (safe f && safe g)) p.1 in
    let r = both (safe d) (safe f && safe g) q.1 in
    let o = both (safe f) (safe g) r.1 in
    subst IsSound (some_inj h) (p.0, (q.0, (r.0, (o.0, (o.1, u)))))
resolve_sound Skips ss skipped after e u go h = go h
resolve_sound Stops ss skipped after e u go h = absurd (none_some h)

advance_sound : (ss : List Symbol) (k : Kind) (w : Word) (after : List Symbol) → IsSound ss → advance ss k w ≡ Some after → IsSound after
advance_sound [] k w after u h = resolve_sound (move Definition k w) [] None after (tail_is_safe Definition k w) tt (λ e. absurd (none_some e)) h
advance_sound (s ∷ ss) k w after u h =
    resolve_sound (move s k w) ss (advance ss k w) after (tail_is_safe s k w) u (advance_sound ss k w after (is_sound ss u)) h

-- What a stack stands for is what its next stack stands for, behind a token.
abbrev Behind : Option (List Symbol) → Tokens → Type 0
Behind next ts = (after : List Symbol) × (next ≡ Some after) × Rest after ts

resolve_forward : (m : Move) (ss : List Symbol) (skipped : Option (List Symbol)) (t : Lexeme) (ts mid : Tokens) → After m t ts mid → Rest ss mid → (m ≡ Skips → Rest ss (t ∷ ts) → Behind skipped ts) → Behind (resolve m ss skipped) ts
resolve_forward Takes ss skipped t ts mid h r go = (ss, refl, subst (Rest ss) (sym h) r)
resolve_forward (TakesThen a) ss skipped t ts mid h r go = (a ∷ ss, refl, (mid, h, r))
resolve_forward (TakesThenTwo a b) ss skipped t ts mid (m, x, y) r go = (a ∷ b ∷ ss, refl, (m, x, (mid, y, r)))
resolve_forward (TakesThenThree a b c) ss skipped t ts mid (m, n, x, y, z) r go = (a ∷ b ∷ c ∷ ss, refl, (m, x, (n, y, (mid, z, r))))
resolve_forward (TakesThenFour a b c d) ss skipped t ts mid (m, n, o, x, y, z, u) r go =
    (a ∷ b ∷ c ∷ d ∷ ss, refl, (m, x, (n, y, (o, z, (mid, u, r)))))
resolve_forward (TakesThenFive a b c d e) ss skipped t ts mid (m, n, o, p, x, y, z, u, v) r go =
    (a ∷ b ∷ c ∷ d ∷ e ∷ ss, refl, (m, x, (n, y, (o, z, (p, u, (mid, v, r))))))
resolve_forward (TakesThenSix a b c d e f) ss skipped t ts mid (m, n, o, p, q, x, y, z, u, v, w) r go =
    (a ∷ b ∷ c ∷ d ∷ e ∷ f ∷ ss, refl, (m, x, (n, y, (o, z, (p, u, (q, v, (mid, w, r)))))))
resolve_forward Skips ss skipped t ts mid h r go = go refl (subst (Rest ss) (sym h) r)
resolve_forward Stops ss skipped t ts mid h r go = absurd h

definition_takes : (k : Kind) (w : Word) → definition_move k w ≡ Skips → ⊥
definition_takes kind.Name w e = word_takes w e
  where
    word_takes : (w : Word) → definition_word_move w ≡ Skips → ⊥
    word_takes word.Query e = cc
    word_takes _ e = cc
definition_takes _ w e = cc

forward : (ss : List Symbol) (t : Lexeme) (ts : Tokens) → Rest ss (t ∷ ts) → Behind (advance ss t.kind (word_of t.text)) ts
forward [] t ts (ds, definition {d = d} {ds = others} a h r) =
    resolve_forward (move Definition t.kind (word_of t.text)) [] None t ts a (goes_on Definition t ts a (d, h)) (others, r) (λ e. absurd (definition_takes t.kind (word_of t.text) e))
forward (s ∷ ss) t ts (mid, h, r) =
    resolve_forward (move s t.kind (word_of t.text)) ss (advance ss t.kind (word_of t.text)) t ts mid (goes_on s t ts mid h) r (λ e. forward ss t ts)

resolve_backward : (m : Move) (ss : List Symbol) (skipped : Option (List Symbol)) (t : Lexeme) (ts : Tokens) (after : List Symbol) → (skipped ≡ Some after → Rest ss (t ∷ ts)) → resolve m ss skipped ≡ Some after → Rest after ts → (mid : Tokens) × After m t ts mid × Rest ss mid
resolve_backward Takes ss skipped t ts after go e r = (ts, refl, subst (λ (x : List Symbol). Rest x ts) (sym (some_inj e)) r)
resolve_backward (TakesThen a) ss skipped t ts after go e r =
    let h : Rest (a ∷ ss) ts = subst (λ (x : List Symbol). Rest x ts) (sym (some_inj e)) r in (h.0, h.1, h.2)
resolve_backward (TakesThenTwo a b) ss skipped t ts after go e r =
    let h : Rest (a ∷ b ∷ ss) ts = subst (λ (x : List Symbol). Rest x ts) (sym (some_inj e)) r in
    (h.2.0, (h.0, h.1, h.2.1), h.2.2)
resolve_backward (TakesThenThree a b c) ss skipped t ts after go e r =
    let h : Rest (a ∷ b ∷ c ∷ ss) ts = subst (λ (x : List Symbol). Rest x ts) (sym (some_inj e)) r in
    let i = h.2 in let j = i.2 in
    (j.0, (h.0, i.0, h.1, i.1, j.1), j.2)
resolve_backward (TakesThenFour a b c d) ss skipped t ts after go e r =
    let h : Rest (a ∷ b ∷ c ∷ d ∷ ss) ts = subst (λ (x : List Symbol). Rest x ts) (sym (some_inj e)) r in
    let i = h.2 in let j = i.2 in let k = j.2 in
    (k.0, (h.0, i.0, j.0, h.1, i.1, j.1, k.1), k.2)
resolve_backward (TakesThenFive a b c d f) ss skipped t ts after go e r =
    let h : Rest (a ∷ b ∷ c ∷ d ∷ f ∷ ss) ts = subst (λ (x : List Symbol). Rest x ts) (sym (some_inj e)) r in
    let i = h.2 in let j = i.2 in let k = j.2 in let l = k.2 in
    (l.0, (h.0, i.0, j.0, k.0, h.1, i.1, j.1, k.1, l.1), l.2)
resolve_backward (TakesThenSix a b c d f g) ss skipped t ts after go e r =
    let h : Rest (a ∷ b ∷ c ∷ d ∷ f ∷ g ∷ ss) ts = subst (λ (x : List Symbol). Rest x ts) (sym (some_inj e)) r in
    let i = h.2 in let j = i.2 in let k = j.2 in let l = k.2 in let m = l.2 in
    (m.0, (h.0, i.0, j.0, k.0, l.0, h.1, i.1, j.1, k.1, l.1, m.1), m.2)
resolve_backward Skips ss skipped t ts after go e r = (t ∷ ts, refl, go e)
resolve_backward Stops ss skipped t ts after go e r = absurd (none_some e)

backward : (ss : List Symbol) (t : Lexeme) (ts : Tokens) (after : List Symbol) → advance ss t.kind (word_of t.text) ≡ Some after → Rest after ts → Rest ss (t ∷ ts)
backward [] t ts after e r =
    let h = resolve_backward (move Definition t.kind (word_of t.text)) [] None t ts after (λ n. absurd (none_some n)) e r in
    let d = comes_from Definition t ts h.0 h.1 in
    (d.0 ∷ h.2.0, definition h.0 d.1 h.2.1)
backward (s ∷ ss) t ts after e r =
    let h = resolve_backward (move s t.kind (word_of t.text)) ss (advance ss t.kind (word_of t.text)) t ts after (λ n. backward ss t ts after n r) e r in
    (h.0, comes_from s t ts h.0 h.1, h.2)

-- the stack behind these tokens
pub data Reach : Tokens → List Symbol → Type 0 where
  start : Reach [] []
  step : {front : Tokens} {ss after : List Symbol} (t : Lexeme) → Reach front ss → advance ss t.kind (word_of t.text) ≡ Some after → Reach (front ++ t ∷ []) after

reach_sound : {front : Tokens} {ss : List Symbol} → Reach front ss → IsSound ss
reach_sound start = tt
reach_sound (step {front} {ss} {after} t reach a) = advance_sound ss t.kind (word_of t.text) after (reach_sound reach) a

reach_forward : {front : Tokens} {ss : List Symbol} (tail : Tokens) → Reach front ss → Rest [] (front ++ tail) → Rest ss tail
reach_forward tail start r = r
reach_forward tail (step {front} {ss} t reach a) r =
    let n = forward ss t tail (reach_forward (t ∷ tail) reach (subst (Rest []) (append_assoc front (t ∷ []) tail) r)) in
    subst (λ (x : List Symbol). Rest x tail) (some_inj (sym n.1 ∙ a)) n.2

reach_backward : {front : Tokens} {ss : List Symbol} (tail : Tokens) → Reach front ss → Rest ss tail → Rest [] (front ++ tail)
reach_backward tail start r = r
reach_backward tail (step {front} {ss} {after} t reach a) r =
    subst (Rest []) (sym (append_assoc front (t ∷ []) tail)) (reach_backward (t ∷ tail) reach (backward ss t tail after a r))

-- what is read so far begins a document
pub reach_begins : {front : Tokens} {ss : List Symbol} → Reach front ss → Begins front
reach_begins {ss = ss} reach =
    let c = completable ss (reach_sound reach) in
    let r = reach_backward c.0 reach c.1 in
    record { more = c.0; definitions = r.0; whole = r.1 }

-- where a token cannot stand, no document begins so
begins_none : {front : Tokens} {ss : List Symbol} (t : Lexeme) → Reach front ss → advance ss t.kind (word_of t.text) ≡ None → Begins (front ++ t ∷ []) → ⊥
begins_none {front} {ss} t reach a begins =
    let n = forward ss t begins.more (reach_forward (t ∷ begins.more) reach (subst (Rest []) (append_assoc front (t ∷ []) begins.more) (begins.definitions, begins.whole))) in
    none_some (sym a ∙ n.1)

-- the tokens up to and with the one at i
take_step : (xs : List Token) (i : ℕ) (d : Token) → i < length xs → take (suc i) (map lexeme_of xs) ≡ take i (map lexeme_of xs) ++ lexeme_of (get_or xs i d) ∷ []
take_step [] i d h = absurd (omega (arith, h))
take_step (y ∷ ys) zero d h = refl
take_step (y ∷ ys) (suc i) d h = ap (λ (l : Tokens). lexeme_of y ∷ l) (take_step ys i d (omega arith))

pub reach_step : (xs : List Token) (i : ℕ) (d : Token) (ss after : List Symbol) (w : Word) → i < length xs → Reach (take i (map lexeme_of xs)) ss → w ≡ word_of (get_or xs i d).text.now → advance ss (get_or xs i d).kind w ≡ Some after → Reach (take (i + 1) (map lexeme_of xs)) after
reach_step xs i d ss after w h reach e a =
    subst (λ (l : Tokens). Reach l after) (sym (ap (λ k. take k (map lexeme_of xs)) (add-one i) ∙ take_step xs i d h)) (step (lexeme_of (get_or xs i d)) reach (ap (advance ss (get_or xs i d).kind) (sym e) ∙ a))

pub stop_at : (xs : List Token) (i : ℕ) (d : Token) (ss : List Symbol) (w : Word) → i < length xs → Reach (take i (map lexeme_of xs)) ss → w ≡ word_of (get_or xs i d).text.now → advance ss (get_or xs i d).kind w ≡ None → IsSyntaxAt (map lexeme_of xs) i
stop_at xs i d ss w h reach e a =
    record {
      within = omega (arith, length-map xs lexeme_of);
      before = reach_begins reach;
      with_it = λ b. begins_none (lexeme_of (get_or xs i d)) reach (ap (advance ss (get_or xs i d).kind) (sym e) ∙ a) (subst Begins (take_step xs i d h) b);
    }

pub at_false : (P Q : Type 0) (b : Bool) → b ≡ false → MatchBool b P Q → Q
at_false P Q true e h = absurd (cc)
at_false P Q false e h = h

pub at_true : (P Q : Type 0) (b : Bool) → b ≡ true → MatchBool b P Q → P
at_true P Q true e h = h
at_true P Q false e h = absurd (cc)
