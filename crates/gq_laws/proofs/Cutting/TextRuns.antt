-- A run of tokens of a text: what stands before it, the run itself and what stands behind it read each by itself.
use Rattle.std.proofs.Common.{◌≡◌, ℕ, ◌+◌, ◌-◌, ◌<◌, ◌≤◌, List, [], ◌∷◌, ◌++◌, length, take, drop, refl, sym, ap, subst, ◌∙◌, arith, append_assoc, length-append}
use Rattle.std.specs.List.{slice_range}
use Rattle.std.proofs.lemmas.List.{take_at, drop_at, take-append-drop, length-take-le}
use Rattle.gq_lex.specs.Tokens.{IsToken, Lexeme, ReadsTo, Reads}
use Rattle.gq_lex.proofs.Edges.{token_edges}
use Rattle.gq_parse.specs.Grammar.{Tokens}
use Rattle.gq_laws.proofs.Cutting.Reading.{UpTo, up_to, from_token, through_again, Follows, ReadsLike, moved, like_followed}

-- what stands in a text from one place up to another, and what stands behind a place
pub slice_of : (whole before part after : List ℕ) (from to : ℕ) → whole ≡ before ++ (part ++ after) → length before ≡ from → from + length part ≡ to → slice_range whole from to ≡ part
slice_of whole before part after from to is starts ends =
    let rest : drop from whole ≡ part ++ after = ap (drop from) is ∙ drop_at before (part ++ after) from starts in
    let n : to - from ≡ length part = omega (arith, ends) in
    ap (take (to - from)) rest ∙ ap (λ k. take k (part ++ after)) n ∙ take_at part after (length part) refl

pub drop_of : (whole before after : List ℕ) (from : ℕ) → whole ≡ before ++ after → length before ≡ from → drop from whole ≡ after
drop_of whole before after from is starts = ap (drop from) is ∙ drop_at before after from starts

-- from a place on a text reads as these tokens, up to its end
pub record ReadsFrom (text : List ℕ) (at : ℕ) (tokens : Tokens) : Type 0 where
  pub within : at ≤ length text
  pub reads : ReadsTo at (drop at text) tokens []

pub from_start : (text : List ℕ) (tokens : Tokens) → Reads text tokens → ReadsFrom text 0 tokens
from_start text tokens reads = record { within = omega arith; reads = reads }

-- A run from its first token to its last one, from one place up to another.
pub record RunIn (text : List ℕ) (at : ℕ) (before : Tokens) (first : Lexeme) (run : Tokens) (last : Lexeme) (behind : Tokens) (from to : ℕ) : Type 0 where
  pub starts_behind : at ≤ from
  pub in_order : from < to
  pub begins : (rest : List ℕ) × (drop from text ≡ first.text ++ rest) × IsToken first.kind first.text rest
  pub front_to : ReadsTo at (slice_range text at from ++ drop from text) before (drop from text)
  pub front_reads : (new : List ℕ) → Follows (drop from text) new → ReadsLike (slice_range text at from ++ new) before new
  pub own_reads : (new : List ℕ) → IsToken last.kind last.text new → ReadsLike (slice_range text from to ++ new) run new
  pub ends : IsToken last.kind last.text (drop to text)
  pub tail_reads : ReadsFrom text to behind

module _ (text : List ℕ) (at from to : ℕ) (before : Tokens) (first last : Lexeme) (more others behind : Tokens)
    (reads : ReadsFrom text at (before ++ (first ∷ (more ++ behind))))
    (run_is : first ∷ more ≡ others ++ last ∷ []) (starts : first.span.start ≡ from) (ends : last.span.end ≡ to) where
  abbrev a : UpTo at (drop at text) before first (more ++ behind) []
  a = up_to before first (more ++ behind) reads.reads refl

  same_tokens : first ∷ (more ++ behind) ≡ others ++ last ∷ behind
  same_tokens = ap (λ (l : Tokens). l ++ behind) run_is ∙ append_assoc others (last ∷ []) behind

  abbrev b : UpTo first.span.start (first.text ++ a.behind) others last behind []
  b = up_to others last behind (from_token a) same_tokens

  -- the parts of the text
  whole_is : text ≡ take at text ++ (a.front ++ (b.front ++ (last.text ++ b.behind)))
  whole_is = sym (take-append-drop at text) ∙ ap (λ (l : List ℕ). take at text ++ l) (a.cut ∙ ap (λ (l : List ℕ). a.front ++ l) b.cut)

  at_long : length (take at text) ≡ at
  at_long = length-take-le at text reads.within

  from_long : length (take at text ++ a.front) ≡ from
  from_long = omega (arith, length-append (take at text) a.front, at_long, a.starts, starts)

  to_long : length ((take at text ++ a.front) ++ (b.front ++ last.text)) ≡ to
  to_long = omega (arith, length-append (take at text ++ a.front) (b.front ++ last.text), length-append b.front last.text, from_long, starts, b.starts, b.ends, ends)

  front_is : slice_range text at from ≡ a.front
  front_is = slice_of text (take at text) a.front (b.front ++ (last.text ++ b.behind)) at from whole_is at_long (omega (arith, a.starts, starts))

  own_is : slice_range text from to ≡ b.front ++ last.text
  own_is =
      slice_of text (take at text ++ a.front) (b.front ++ last.text) b.behind from to (whole_is ∙ simp append_assoc) from_long
      (omega (arith, length-append b.front last.text, starts, b.starts, b.ends, ends))

  from_is : drop from text ≡ first.text ++ a.behind
  from_is = drop_of text (take at text ++ a.front) (b.front ++ (last.text ++ b.behind)) from (whole_is ∙ simp append_assoc) from_long ∙ sym b.cut

  to_is : drop to text ≡ b.behind
  to_is = drop_of text ((take at text ++ a.front) ++ (b.front ++ last.text)) b.behind to (whole_is ∙ simp append_assoc) to_long

  split : drop at text ≡ slice_range text at from ++ drop from text
  split = a.cut ∙ ap (λ (l : List ℕ). l ++ (first.text ++ a.behind)) (sym front_is) ∙ ap (λ (l : List ℕ). slice_range text at from ++ l) (sym from_is)

  read_front : ReadsTo at (slice_range text at from ++ drop from text) before (drop from text)
  read_front = subst (λ (l : List ℕ). ReadsTo at l before (drop from text)) split (subst (λ (l : List ℕ). ReadsTo at (drop at text) before l) (sym from_is) a.first)

  pub run_in : RunIn text at before first (first ∷ more) last behind from to
  run_in = record {
    starts_behind = omega (arith, a.starts, starts);
    in_order = omega (arith, starts, b.starts, b.ends, ends, (token_edges b.own).some);
    begins = (a.behind, from_is, a.own);
    front_to = read_front;
    front_reads = λ new f. like_followed (slice_range text at from) (drop from text) new f (moved read_front);
    own_reads = λ new own.
        subst (λ (l : List ℕ). ReadsLike l (first ∷ more) new) (sym (append_assoc b.front last.text new) ∙ ap (λ (l : List ℕ). l ++ new) (sym own_is))
        (subst (λ (l : Tokens). ReadsLike (b.front ++ (last.text ++ new)) l new) (sym run_is) (moved (through_again b new own)));
    ends = subst (λ (l : List ℕ). IsToken last.kind last.text l) (sym to_is) b.own;
    tail_reads = record {
      within = omega (
        arith,
        ap length whole_is,
        to_long,
        length-append (take at text) (a.front ++ (b.front ++ (last.text ++ b.behind))),
        length-append a.front (b.front ++ (last.text ++ b.behind)),
        length-append b.front (last.text ++ b.behind),
        length-append last.text b.behind,
        length-append (take at text ++ a.front) (b.front ++ last.text),
        length-append (take at text) a.front,
        length-append b.front last.text,
      );
      reads = subst (λ (l : List ℕ). ReadsTo to l behind []) (sym to_is) (subst (λ (n : ℕ). ReadsTo n b.behind behind []) ends b.second);
    };
  }
