-- What loops over readings and directives come to.
use Rattle.std.proofs.Common.{◌≡◌, ℕ, zero, suc, ◌+◌, ◌-◌, ◌<◌, ◌≤◌, Bool, List, [], ◌∷◌, ◌++◌, length, drop, get_or, Option, Some, None, refl, sym, ap, subst, ◌∙◌, map, arith, ◌^◌, find, flat_map, append_assoc, ⊎_elim}
use Rattle.std.specs.Prelude.{slice_range}
use Rattle.std.specs.List.{enumerate_from}
use Rattle.std.specs.Option.{option_map, option_or}
use Rattle.std.specs.Str.{IsCharBoundary}
use Rattle.std.proofs.lemmas.List.Folds.{find-append}
use Rattle.gq_lex.specs.declared.token.BadKind.{BadKind}
use Rattle.gq_lex.specs.declared.token.LexFault.{LexFault}
use Rattle.gq_lex.specs.declared.token.LexFault.TheVariants as fault
use Rattle.gq_lex.specs.Faults.{IsFault}
use Rattle.gq_lex.specs.Tokens.{Lexeme, Reads, IsBadAt, IsLimitAt}
use Rattle.gq_tree.specs.declared.value.Directive.{Directive}
use Rattle.gq_tree.specs.Views.{directive_view}
use Rattle.gq_parse.specs.Limits.{IsNestedWithin}
use Rattle.gq_parse.proofs.Nesting.{nested_front}
use Rattle.gq_tree.specs.Readings.{SharedParsed, in_document, shared_view, readings_view}
use Rattle.gq_document.specs.Definitions.{FragmentOf, fragment_in}
use Rattle.gq_laws.specs.Rewriting.Parts.{DirectivesFit}
use Rattle.gq_reshape.specs.declared.fragments.FragmentIn.{FragmentIn}
use Rattle.gq_reshape.specs.Helping.Fragments.{fragment_found}
use Rattle.gq_reshape.specs.Helping.Limits.{PassesSomeLimit}
use Rattle.gq_laws.specs.Cutting.Texts.{last_directive_end, directives_text}

pub drop_read : {X : Type 0} (xs : List X) (i : ℕ) (x : X) → i < length xs → x ≡ get_or xs i x → drop i xs ≡ x ∷ drop (suc i) xs
drop_read [] i x h is = absurd (omega (arith, h))
drop_read (y ∷ ys) zero x h is = ap (λ z. z ∷ ys) (sym is)
drop_read (y ∷ ys) (suc i) x h is = drop_read ys i x (omega (arith, h)) is

-- the end of the last directive
last_end : (d : Directive) (ds : List Directive) (last : Directive) → last_directive_end d.span (map directive_view ds) ≡ (get_or (d ∷ ds) (length ds) last).span.end
last_end d [] last = refl
last_end d (e ∷ ds) last = last_end e ds last

pub all_directives : (ds : List Directive) (head last : Directive) (text between : List ℕ) → 0 < length ds → between ≡ slice_range text (get_or ds 0 head).span.start (get_or ds (length ds - 1) last).span.end → 32 ∷ between ≡ directives_text text (map directive_view ds)
all_directives [] head last text between some is = absurd (omega (arith, some))
all_directives (d ∷ ds) head last text between some is =
    let e : length (d ∷ ds) - 1 ≡ length ds = omega arith in
    ap (λ (b : List ℕ). 32 ∷ b) is
    ∙ ap (λ (n : ℕ). 32 ∷ slice_range text d.span.start (get_or (d ∷ ds) n last).span.end) e
    ∙ ap (λ (n : ℕ). 32 ∷ slice_range text d.span.start n) (sym (last_end d ds last))

-- the directives of a spread, from the first to the last
last_fits : (text : List ℕ) (at : ℕ) (d : Directive) (ds : List Directive) (last : Directive) → DirectivesFit text at (map directive_view (d ∷ ds)) → (d.span.start ≤ (get_or (d ∷ ds) (length ds) last).span.end) × IsCharBoundary text (get_or (d ∷ ds) (length ds) last).span.end
last_fits text at d [] last h = (h.1.0, h.1.2)
last_fits text at d (e ∷ ds) last h =
    let i = last_fits text d.span.end e ds last h.2 in
    let own = h.1.0 in
    let next = h.2.0 in
    let far = i.0 in
    (omega (arith, own, next, far), i.1)

pub all_fit : (text : List ℕ) (ds : List Directive) (head last : Directive) → 0 < length ds → DirectivesFit text 0 (map directive_view ds) → ((get_or ds 0 head).span.start ≤ (get_or ds (length ds - 1) last).span.end) × IsCharBoundary text (get_or ds (length ds - 1) last).span.end
all_fit text [] head last some h = absurd (omega (arith, some))
all_fit text (d ∷ ds) head last some h =
    let e : length ds ≡ length (d ∷ ds) - 1 = omega arith in
    subst (λ (n : ℕ). (d.span.start ≤ (get_or (d ∷ ds) n last).span.end) × IsCharBoundary text (get_or (d ∷ ds) n last).span.end) e (last_fits text 0 d ds last h)

-- fragments, document after document
module _ (p : FragmentOf → Bool) (readings : List SharedParsed) (i : ℕ) (x : SharedParsed) (h : i < length readings) (is : x ≡ get_or readings i x) (whole : Option FragmentOf) where
  abbrev In : ℕ → List SharedParsed → List FragmentOf
  In k rs = flat_map (λ r. in_document fragment_in r.0 r.1) (enumerate_from k (readings_view rs))

  split : find p (In i (drop i readings)) ≡ option_or (find p (in_document fragment_in i (shared_view x))) (find p (In (i + 1) (drop (suc i) readings)))
  split = ap (λ (rs : List SharedParsed). find p (In i rs)) (drop_read readings i x h is) ∙ find-append p (in_document fragment_in i (shared_view x)) (In (i + 1) (drop (suc i) readings))

  pub found_read : (y : FragmentOf) → find p (In i (drop i readings)) ≡ whole → Some y ≡ find p (in_document fragment_in i (shared_view x)) → Some y ≡ whole
  found_read y invariant mine = ap (λ (o : Option FragmentOf). option_or o (find p (In (i + 1) (drop (suc i) readings)))) mine ∙ sym split ∙ invariant

  pub later_read : (o : Option FragmentOf) → find p (In i (drop i readings)) ≡ whole → o ≡ find p (in_document fragment_in i (shared_view x)) → ((y : FragmentOf) → o ≡ Some y → ⊥) → find p (In (i + 1) (drop (i + 1) readings)) ≡ whole
  later_read (Some y) invariant mine no_some = absurd (no_some y refl)
  later_read None invariant mine no_some =
      let e : i + 1 ≡ suc i = omega arith in
      ap (λ (n : ℕ). find p (In (i + 1) (drop n readings))) e
      ∙ ap (λ (o : Option FragmentOf). option_or o (find p (In (i + 1) (drop (suc i) readings)))) mine
      ∙ sym split
      ∙ invariant

-- limits
pub tokens_fine : (text : List ℕ) (tokens : List Lexeme) → ((text : List ℕ) (a b : List Lexeme) → Reads text a → Reads text b → a ≡ b) → ((text : List ℕ) (place : ℕ) (tokens : List Lexeme) → IsLimitAt text place → Reads text tokens → 2 ^ 20 < length tokens) →
    Reads text tokens → length tokens ≤ 2 ^ 20 → IsNestedWithin 100 tokens → PassesSomeLimit text → ⊥
tokens_fine text tokens one passed reads few nested passes =
    ⊎_elim
    (λ limit. let many = passed text passes.0 tokens limit reads in omega (arith, few, many))
    (λ deep.
    let w = deep.2 in
    let whole : tokens ≡ (w.before ++ w.token ∷ []) ++ w.after = one text tokens deep.0 reads deep.1 ∙ w.cut ∙ sym (append_assoc w.before (w.token ∷ []) w.after) in
    w.passes (nested_front 100 (w.before ++ w.token ∷ []) w.after (subst (IsNestedWithin 100) whole nested)))
    passes.1

pub bad_passes_nothing : (text : List ℕ) (place : ℕ) (kind : BadKind) → ((text : List ℕ) (a b : LexFault) → IsFault text a → IsFault text b → a ≡ b) → ((text : List ℕ) (place : ℕ) (kind : BadKind) (tokens : List Lexeme) → IsBadAt text place kind → Reads text tokens → ⊥) → IsBadAt text place kind → PassesSomeLimit text → ⊥
bad_passes_nothing text place kind one nothing bad passes =
    ⊎_elim (λ limit. let e : fault.Bad place kind ≡ fault.Limit passes.0 = one text (fault.Bad place kind) (fault.Limit passes.0) bad limit in cc) (λ deep. nothing text place kind deep.0 bad deep.1) passes.1

pub none_found : (o : Option FragmentIn) → ((f : FragmentIn) → o ≡ Some f → ⊥) → (y : FragmentOf) → option_map fragment_found o ≡ Some y → ⊥
none_found None never y e = cc
none_found (Some f) never y e = never f refl
