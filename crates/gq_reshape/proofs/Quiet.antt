-- Where a cut replaces something, something may change.
use Rattle.std.proofs.Common.{◌≡◌, ℕ, Bool, true, false, ◌||◌, nat_eq, List, [], ◌∷◌, Some, get_or, slice_get, length, drop, zero, suc, refl, ap, ◌∙◌, map}
use Rattle.std.specs.Prelude.{if◌then◌else◌, slice_range}
use Rattle.std.specs.List.{filter}
use Rattle.gq_text.specs.declared.place.Span.{Span}
use Rattle.gq_tree.specs.Plain.{DirectiveOf, Sels}
use Rattle.gq_document.specs.Definitions.{FragmentOf}
use Rattle.gq_reshape.specs.declared.placed.PlacedReplacement.{PlacedReplacement}
use Rattle.gq_reshape.specs.Placed.{replacements_in}
use Rattle.gq_reshape.specs.Extract.{extract_at}
use Rattle.gq_reshape.specs.Inline.{inline_at, comes_first, in_order}
use Rattle.gq_reshape.specs.Helping.Judged.{IsQuiet}
use Rattle.gq_reshape.specs.Remove.{remove_at}
use Rattle.gq_laws.specs.Cutting.Texts.{inlined_text, opened_text, spread_text, fragment_text}

neither : (a b : Bool) → (a || b) ≡ false → (a ≡ false) × (b ≡ false)
neither false b e = (refl, e)
neither true b e = absurd (cc)

-- a replacement in another document
pub skipped : (p : PlacedReplacement) (ps : List PlacedReplacement) (file : ℕ) → nat_eq p.file file ≡ false → replacements_in (p ∷ ps) file ≡ replacements_in ps file
skipped p ps file e = ap (λ (b : Bool). map (λ p. p.replacement) (if b then p ∷ filter (λ p. nat_eq p.file file) ps else filter (λ p. nat_eq p.file file) ps)) e

both_skipped : (a b : PlacedReplacement) (file : ℕ) → nat_eq a.file file ≡ false → nat_eq b.file file ≡ false → replacements_in (in_order a b) file ≡ []
both_skipped a b file p q = by (comes_first b a)
  where
    by : (first : Bool) → replacements_in (if first then b ∷ a ∷ [] else a ∷ b ∷ []) file ≡ []
    by true = skipped b (a ∷ []) file q ∙ skipped a [] file p
    by false = skipped a (b ∷ []) file p ∙ skipped b [] file q

pub extract_quiet : (file : ℕ) (text : List ℕ) (place : Span) (name on : List ℕ) (run : Sels Span) → IsQuiet (extract_at file text place name on run)
extract_quiet file text place name on run k e =
    let q = (neither (nat_eq file k) false e).0 in
    let here : PlacedReplacement = record { file = file; replacement = record { span = place; text = spread_text name (drop place.end text) } } in
    let last : PlacedReplacement = record { file = file; replacement = record { span = record { start = length text; end = length text }; text = fragment_text name on (slice_range text place.start place.end) } } in
    skipped here (last ∷ []) k q ∙ skipped last [] k q

pub remove_quiet : (file : ℕ) (text : List ℕ) (place braces : Span) → IsQuiet (remove_at file text place braces)
remove_quiet file text place braces k e = skipped (record { file = file; replacement = record { span = place; text = opened_text text braces } }) [] k ((neither (nat_eq file k) false e).0)

pub inline_quiet : (file : ℕ) (text : List ℕ) (directives : List (DirectiveOf Span)) (place : Span) (f : FragmentOf) (home : List ℕ) (goes : Bool) → IsQuiet (inline_at file text directives place f home goes)
inline_quiet file text directives place f home false k e = skipped (record { file = file; replacement = record { span = place; text = inlined_text text home f.on.text directives f.braces } }) [] k ((neither (nat_eq file k) false e).0)
inline_quiet file text directives place f home true k e =
    let q = neither (nat_eq file k) (nat_eq f.file k) e in
    both_skipped (record { file = file; replacement = record { span = place; text = inlined_text text home f.on.text directives f.braces } }) (record { file = f.file; replacement = record { span = f.place; text = [] } }) k q.0 q.1

-- what stands at a place of a list
pub slice_is : {X : Type 0} (xs : List X) (i : ℕ) (x d : X) → slice_get xs i ≡ Some x → get_or xs i d ≡ x
slice_is [] i x d e = absurd (cc)
slice_is (y ∷ ys) zero x d e = cc
slice_is (y ∷ ys) (suc i) x d e = slice_is ys i x d e
