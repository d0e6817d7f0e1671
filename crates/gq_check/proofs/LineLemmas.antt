-- What is printed of faults, joined.
use Rattle.std.proofs.Common.{◌≡◌, ℕ, ◌+◌, ◌<◌, ◌≤◌, ◌^◌, List, [], ◌∷◌, ◌++◌, length, take, drop, get_or, All, refl, sym, ap, ◌∙◌, append_assoc, arith}
use Rattle.std.specs.Prelude.{Some, find, Bool, true, false, not, if◌then◌else◌}
use Rattle.std.specs.List.{flat_map}
use Rattle.std.specs.Str.{bytes_eq}
use Rattle.std.proofs.lemmas.Slice.Eq.{bytes_eq-Decides}
use Rattle.std.proofs.lemmas.List.{take_more, take-append-drop}
use Rattle.std.proofs.lemmas.List.Concat.{flat_map-append}
use Rattle.std.proofs.lemmas.List.Elements.{All-head, All-tail}
use Rattle.gq_text.specs.Place.{pos}
use Rattle.gq_text.specs.declared.text.Range.{Range}
use Rattle.gq_text.specs.declared.place.PositionEncoding.TheVariants.{Utf8, Utf16}
use Rattle.gq_project.specs.Documents.{has_key}
use Rattle.gq_project.specs.declared.document.Doc.{Doc}
use Rattle.gq_fault.specs.declared.found.Found.{Found}
use Rattle.gq_check.specs.declared.formats.Format.{Format}
use Rattle.gq_check.specs.Formats.{range_in, printed_at, printed, printed_all}
use Rattle.gq_check.specs.Lines.{text_in, text_at}
use Rattle.gq_check.specs.Helping.Runs.{first_key}

-- texts that are not told apart
pub same_text : (a b : List ℕ) → false ≡ not (bytes_eq a b) → a ≡ b
same_text a b e = by_test (bytes_eq a b) refl e
  where
    by_test : (t : Bool) → bytes_eq a b ≡ t → false ≡ not t → a ≡ b
    by_test true same h = (bytes_eq-Decides a b).0 same
    by_test false other h = absurd (cc)

-- the key of the first fault
pub first_key-is : (found : List Found) (d : Found) → 0 < length found → (get_or found 0 d).key ≡ first_key found
first_key-is [] d lt = absurd (omega arith)
first_key-is (f ∷ fs) d lt = refl

-- the text of a document that fits
pub fits-text_at : (documents : List Doc) (key : List ℕ) → All (λ doc. length doc.text ≤ 2 ^ 22) documents → length (text_at documents key) ≤ 2 ^ 22
fits-text_at [] key all = omega arith
fits-text_at (d ∷ ds) key all = by_test (has_key key d) (All-head (λ (doc : Doc). length doc.text ≤ 2 ^ 22) d ds all) (fits-text_at ds key (All-tail (λ (doc : Doc). length doc.text ≤ 2 ^ 22) d ds all))
  where
    by_test : (t : Bool) → length d.text ≤ 2 ^ 22 → length (text_at ds key) ≤ 2 ^ 22 → length (text_in (if t then Some d else find (has_key key) ds)) ≤ 2 ^ 22
    by_test true one rest = one
    by_test false one rest = rest

-- a fault of the document of that key, by the ranges in its text
pub printed-is : (format : Format) (documents : List Doc) (item : Found) (key text : List ℕ) (in_units in_bytes : Range) → item.key ≡ key → text ≡ text_at documents key → in_units ≡ range_in Utf16 text item.span
    → in_bytes ≡ range_in Utf8 text item.span → printed_at format item in_units in_bytes ≡ printed format documents item
printed-is format documents item key text in_units in_bytes of_key of_text units bytes =
    let same : text ≡ text_at documents item.key = of_text ∙ ap (text_at documents) (sym of_key) in
    rw (units, bytes, same) refl

-- the front, and then the others
pub printed-run : (format : Format) (documents : List Doc) (rest front others : List Found) (count : ℕ) (old new whole : List ℕ) → front ≡ take count rest → others ≡ drop count rest
    → new ≡ old ++ printed_all format documents front → old ++ printed_all format documents rest ≡ whole → new ++ printed_all format documents others ≡ whole
printed-run format documents rest front others count old new whole first is written all =
    let one = printed format documents in
    rw (written, first, is)
    (append_assoc old (flat_map one (take count rest)) (flat_map one (drop count rest))
    ∙ ap (λ (xs : List ℕ). old ++ xs) (sym (flat_map-append one (take count rest) (drop count rest)))
    ∙ ap (λ (fs : List Found). old ++ flat_map one fs) (take-append-drop count rest) ∙ all)
