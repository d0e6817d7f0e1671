-- Documents are read one by one, some of them as they were.
use Rattle.std.proofs.Common.{◌≡◌, ℕ, zero, suc, ◌+◌, ◌<◌, ◌≤◌, List, [], ◌∷◌, ◌++◌, None, get_or, length, take, refl, sym, ap, ◌∙◌, subst, arith}
use Rattle.std.proofs.lemmas.List.{map-append, take_more}
use mathlib.Core.Logic.{∥∥₁_map, ∥∥₁_elim, ∥∥₁_prop}
use Rattle.gq_project.specs.declared.document.Doc.{Doc}
use Rattle.gq_tree.specs.Readings.{ParsedOf, SharedParsed, shared_view, readings_view}
use Rattle.gq_parse.specs.Parsed.{IsParsed, AreParsed}
use Rattle.gq_parse.proofs.ReadingLemmas.{one_more}
use Rattle.gq_types.specs.Entries.{EntryOf}
use Rattle.gq_types.specs.Look.{types_view}
use Rattle.gq_kept.specs.declared.by_document.ByDocument.{ByDocument}
use Rattle.gq_kept.specs.Helping.ByDocument.{AreByDocument}
use Rattle.gq_by_file.proofs.KnownOwnLemmas.{get_some, reading_there}
use Rattle.gq_kept.specs.declared.typed.Typed.{Typed}
use Rattle.gq_kept.specs.Helping.Facts.{AreKept}
use Rattle.gq_kept.specs.Helping.TypesOf.{AreTypesOf}
use Rattle.gq_kept.proofs.AlikeLemmas.{read_at}
use Rattle.gq_kept.proofs.KnownLemmas.{known_by}

pub one_more_read : (documents : List Doc) (i : ℕ) (doc : Doc) (so_far now : List SharedParsed) (one : SharedParsed) → i < length documents → doc ≡ get_or documents i doc
    → ∥ AreParsed (take i documents) (readings_view so_far) ∥₁ → ∥ IsParsed doc.text (shared_view one) ∥₁ → now ≡ so_far ++ one ∷ [] → ∥ AreParsed (take (i + 1) documents) (readings_view now) ∥₁
one_more_read documents i doc so_far now one inside item before is more =
    let longer : take (i + 1) documents ≡ take i documents ++ doc ∷ [] = take_more documents i doc inside ∙ ap (λ (d : Doc). take i documents ++ d ∷ []) (sym item) in
    let view : readings_view now ≡ readings_view so_far ++ shared_view one ∷ [] = ap readings_view more ∙ map-append shared_view so_far (one ∷ []) in
    ∥∥₁_elim before ∥∥₁_prop (λ (b : AreParsed (take i documents) (readings_view so_far)). ∥∥₁_map is (λ p.
    subst (λ (rs : List ParsedOf). AreParsed (take (i + 1) documents) rs) (sym view) (one_more documents (readings_view so_far) i doc (shared_view one) longer b p)))

take_all : {X : Type 0} (xs : List X) (i : ℕ) → length xs ≤ i → take i xs ≡ xs
take_all [] zero h = refl
take_all [] (suc i) h = refl
take_all (x ∷ xs) zero h = absurd (omega (arith, h))
take_all {X} (x ∷ xs) (suc i) h = ap (λ (ys : List X). x ∷ ys) (take_all xs i (omega (arith, h)))

pub all_read : (documents : List Doc) (i : ℕ) (all : List SharedParsed) → length documents ≤ i → ∥ AreParsed (take i documents) (readings_view all) ∥₁ → ∥ AreParsed documents (readings_view all) ∥₁
all_read documents i all behind are = subst (λ (ds : List Doc). ∥ AreParsed ds (readings_view all) ∥₁) (take_all documents i behind) are

-- a document whose text is the same reads as it did
pub as_before : (documents : List Doc) (readings : List SharedParsed) (at : ℕ) (doc : Doc) (text : List ℕ) (one made : SharedParsed) → at < length documents → at < length readings
    → doc ≡ get_or documents at doc → one ≡ get_or readings at one → doc.text ≡ text → shared_view made ≡ shared_view one → AreParsed documents (readings_view readings) → IsParsed text (shared_view made)
as_before documents readings at doc text one made inside within is there same cloned are =
    let w = read_at documents (readings_view readings) at inside are in
    let d : w.document ≡ doc = (let e = get_some documents at doc inside is in let f = w.stands in cc) in
    let r : w.reading ≡ shared_view one = (let e = reading_there readings at one within there in let f = w.there in cc) in
    let of_document : IsParsed doc.text w.reading = subst (λ (z : Doc). IsParsed z.text w.reading) d w.parsed in
    subst (λ (t : List ℕ). IsParsed t (shared_view made)) same (subst (λ (x : ParsedOf). IsParsed doc.text x) (r ∙ sym cloned) of_document)

-- all is known that was made of documents at once
pub kept_remade : (documents told read : List Doc) (readings given : List SharedParsed) (made : Typed) (found : ByDocument) → told ≡ documents → read ≡ documents → given ≡ readings
    → ∥ AreParsed read (readings_view readings) ∥₁ → AreTypesOf (readings_view given) made → ((es : List EntryOf) (rs : List ParsedOf) → AreByDocument es rs found) → AreKept told readings made found None
kept_remade documents told read readings given made found t r g parsed are nothing =
    let made_is : AreTypesOf (readings_view readings) made = subst (λ (gs : List SharedParsed). AreTypesOf (readings_view gs) made) g are in
    subst (λ (ds : List Doc). AreKept ds readings made found None) (sym t) (record {
      known = ∥∥₁_map (subst (λ (ds : List Doc). ∥ AreParsed ds (readings_view readings) ∥₁) r parsed) (λ p. known_by documents readings made p made_is);
      owned = ∣ nothing (types_view made.types) (readings_view readings) ∣₁;
      indexed = ∣ tt ∣₁;
    })
