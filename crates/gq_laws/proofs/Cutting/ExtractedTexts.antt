-- The law of texts in which selections became a fragment.
use Rattle.std.proofs.Common.{◌≡◌, ℕ, List, [], ◌∷◌, ◌++◌, true, refl, sym, ap, subst, ◌∙◌, map}
use Rattle.gq_text.specs.declared.place.Span.{Span}
use Rattle.gq_text.specs.Replaced.{replaced}
use Rattle.gq_lex.specs.Tokens.{Lexeme, Reads}
use Rattle.gq_tree.specs.Plain.{Sel, Sels, Def}
use Rattle.gq_parse.specs.Derives.{Derives}
use Rattle.gq_parse.specs.Grammar.{Tokens, starts, ends}
use Rattle.gq_parse.specs.Limits.{PassesLimitAt}
use Rattle.gq_renamed.specs.Names.{IsNameText, IsFragmentNameText}
use Rattle.gq_rewritten.specs.Rewrites.{with_set, with_extracted}
use Rattle.gq_laws.proofs.Rewriting.InPlace.{trees_are_in_place}
use Rattle.gq_laws.specs.Cutting.Extracted.{extracted, ReadsWithFragment, ExtractedTextsRead}
use Rattle.gq_laws.specs.Cutting.Standing.{EndsWithin, all_of_it, in_braces, behind_it}
use Rattle.gq_laws.proofs.Cutting.Alike.{AreAlike}
use Rattle.gq_laws.proofs.Cutting.Begins.{BeginsSelection}
use Rattle.gq_laws.proofs.Cutting.Extracted.{Extracted, extracted_document, new_fragment}
use Rattle.gq_laws.proofs.Cutting.Extracting.{extracted_reads}
use Rattle.gq_laws.proofs.Cutting.Extracting as put
use Rattle.gq_laws.proofs.Cutting.Holes.{Way, here, within, beyond, tail_at}
use Rattle.gq_laws.proofs.Cutting.Likeness.{alike_same, alike_append}
use Rattle.gq_laws.proofs.Cutting.Phrases.{IsSome}
use Rattle.gq_laws.proofs.Cutting.Reading.{ReadsLike, like_alike}
use Rattle.gq_laws.proofs.Cutting.Within.{derives_within}
use Rattle.gq_laws.proofs.Cutting.Words.{is_name_or_dots}
use Rattle.gq_laws.proofs.Cutting.Ways.{number_of}
use Rattle.gq_laws.proofs.Cutting.Written.{spread_tokens, fragment_tokens}

-- the way to the last selections of a set
pub way_of : {set last : Sels Span} → EndsWithin set last → (w : Way) × (tail_at w set ≡ last)
way_of all_of_it = (here, refl)
way_of (in_braces e) = let w = way_of e in (within w.0, w.1)
way_of (behind_it e) = let w = way_of e in (beyond w.0, w.1)

-- tokens that are some have a first one and a last one
pub record FirstAndLast (tokens : Tokens) : Type 0 where
  pub first : Lexeme
  pub more : Tokens
  pub others : Tokens
  pub last : Lexeme
  pub is : tokens ≡ first ∷ more
  pub run_is : first ∷ more ≡ others ++ last ∷ []
  pub begins : first.span.start ≡ starts tokens
  pub finishes : last.span.end ≡ ends tokens

pub first_and_last : (tokens : Tokens) → IsSome tokens → FirstAndLast tokens
first_and_last [] some = absurd some
first_and_last (t ∷ []) some = record { first = t; more = []; others = []; last = t; is = refl; run_is = refl; begins = refl; finishes = refl }
first_and_last (t ∷ u ∷ tokens) some =
    let f = first_and_last (u ∷ tokens) tt in
    let all : t ∷ u ∷ tokens ≡ (t ∷ f.others) ++ f.last ∷ [] = ap (λ (l : Tokens). t ∷ l) (f.is ∙ f.run_is) in
    record { first = t; more = u ∷ tokens; others = t ∷ f.others; last = f.last; is = refl; run_is = all; begins = refl; finishes = f.finishes }

selects : (t : Lexeme) (ts : Tokens) {tokens : Tokens} → tokens ≡ t ∷ ts → BeginsSelection tokens → is_name_or_dots t.kind ≡ true
selects t ts is b = subst BeginsSelection is b

-- the tokens that are put, with one place or another
fragment_alike : (name on : List ℕ) (inner : Tokens) → AreAlike (fragment_tokens name on inner) (put.fragment_tokens name on inner)
fragment_alike name on inner = (refl, refl, (refl, refl, (refl, refl, (refl, refl, (refl, refl, alike_append inner inner _ _ (alike_same inner) (refl, refl, tt))))))

spread_alike : (name : List ℕ) → AreAlike (spread_tokens name) (put.spread_tokens name)
spread_alike name = (refl, refl, (refl, refl, tt))

tokens_alike : (front behind inner : Tokens) (name on : List ℕ) →
    AreAlike (front ++ (spread_tokens name ++ (behind ++ fragment_tokens name on inner))) (front ++ (put.spread_tokens name ++ (behind ++ put.fragment_tokens name on inner)))
tokens_alike front behind inner name on =
    alike_append front front _ _ (alike_same front) (alike_append (spread_tokens name) (put.spread_tokens name) _ _ (spread_alike name)
    (alike_append behind behind _ _ (alike_same behind) (fragment_alike name on inner)))

module _ (text : List ℕ) (document : List (Def Span)) (place : Span) (name on : List ℕ) (run : List (Sel Span)) (d : Derives text document) (is_name : IsFragmentNameText name) (is_on : IsNameText on)
    (x : Extracted document d.tokens place.start place.end run) where
  read : ReadsLike (replaced (extracted text place name on) text) (x.front ++ (spread_tokens name ++ (x.behind ++ fragment_tokens name on x.inner))) []
  read =
      let f = first_and_last x.inner x.is_some in
      let cut : d.tokens ≡ x.front ++ (f.first ∷ (f.more ++ x.behind)) = x.cut ∙ ap (λ (l : Tokens). x.front ++ (l ++ x.behind)) f.is in
      let own : ReadsLike (replaced (extracted text place name on) text) (x.front ++ (put.spread_tokens name ++ (x.behind ++ put.fragment_tokens name on (f.first ∷ f.more)))) [] =
      extracted_reads text place x.front f.more f.others x.behind f.first f.last name on (subst (Reads text) cut d.reads) f.run_is (f.begins ∙ x.begins) (f.finishes ∙ x.finishes)
      (selects f.first f.more f.is x.selects) is_name.is_name is_on in
      let R : Tokens → Type 0 = λ l. ReadsLike (replaced (extracted text place name on) text) (x.front ++ (put.spread_tokens name ++ (x.behind ++ put.fragment_tokens name on l))) [] in
      like_alike _ _ (tokens_alike x.front x.behind x.inner name on) (subst R (sym f.is) own)

  pub extracted_derives : ((at : ℕ) → PassesLimitAt (replaced (extracted text place name on) text) at → ⊥) → ReadsWithFragment text document place name on run
  extracted_derives passes_none =
      let t = derives_within (replaced (extracted text place name on) text) (x.front ++ (spread_tokens name ++ (x.behind ++ fragment_tokens name on x.inner)))
      (map (with_set (with_extracted place.start place.end name)) document ++ new_fragment name on run ∷ []) passes_none read (λ zs alike. x.again name on zs is_name.not_on alike) in
      record { tree = t.tree; derives = t.derives; rewritten = t.is }

-- selections of a set can become a fragment wherever the text passes no limit then
pub extracted_texts_read : ExtractedTextsRead
extracted_texts_read text document place name on run d has is_name is_on passes_none =
    let n = number_of document has.definition has.stands in
    let w = way_of has.ends in
    let x = extracted_document run has.others place.start place.end n.0 w.0 has.definition d.derived (trees_are_in_place text document d) n.1 w.1 has.first has.last in
    extracted_derives text document place name on run d is_name is_on x passes_none
