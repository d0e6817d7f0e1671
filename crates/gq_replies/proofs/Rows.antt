-- Where the occurrences of one document stand.
use Rattle.std.proofs.Common.{◌≡◌, ℕ, ◌<◌, ◌≤◌, List, [], ◌∷◌, ◌++◌, length, get_or, take, drop, map, All, refl, sym, ap, ◌∙◌, append_assoc, take-append-drop}
use Rattle.std.specs.Prelude.{slice_get, option_map, Some, None}
use Rattle.std.specs.List.{AllByRecursion}
use Rattle.std.proofs.lemmas.List.Elements.{recursion_from_All, filter_map-append}
use Rattle.std.proofs.lemmas.Option.{slice_get-get_or, slice_get_past}
use Rattle.gq_text.specs.declared.place.PositionEncoding.{PositionEncoding}
use Rattle.gq_project.specs.declared.document.Doc.{Doc}
use Rattle.gq_index.specs.declared.occurrence.Occurrence.{Occurrence}
use Rattle.gq_rpc.specs.declared.messages.Location.{Location}
use Rattle.gq_replies.specs.Locations.{location_in, locations_of}

-- all are of the document of that number
abbrev pub IsRow : ℕ → List Occurrence → Type 0
IsRow file row = All (λ o. o.file ≡ file) row

in_document : (encoding : PositionEncoding) (documents : List Doc) (file : ℕ) (document : Doc) → slice_get documents file ≡ Some document → (row : List Occurrence) → AllByRecursion (λ o. o.file ≡ file) row
    → locations_of encoding documents row ≡ map (λ o. location_in encoding o document) row
in_document encoding documents file document e [] h = refl
in_document encoding documents file document e (o ∷ os) h = rw (h.0, e) (ap (λ (ls : List Location). location_in encoding o document ∷ ls) (in_document encoding documents file document e os h.1))

in_none : (encoding : PositionEncoding) (documents : List Doc) (file : ℕ) → slice_get documents file ≡ None → (row : List Occurrence) → AllByRecursion (λ o. o.file ≡ file) row → locations_of encoding documents row ≡ []
in_none encoding documents file e [] h = refl
in_none encoding documents file e (o ∷ os) h = rw (h.0, e) (in_none encoding documents file e os h.1)

pub locations-row : (encoding : PositionEncoding) (documents : List Doc) (file : ℕ) (document : Doc) (row : List Occurrence) → file < length documents → document ≡ get_or documents file document → IsRow file row
    → map (λ o. location_in encoding o document) row ≡ locations_of encoding documents row
locations-row encoding documents file document row lt e h =
    sym (in_document encoding documents file document (slice_get-get_or documents file document lt ∙ ap Some (sym e)) row (recursion_from_All (λ (o : Occurrence). o.file ≡ file) row h))

pub locations-none : (encoding : PositionEncoding) (documents : List Doc) (file : ℕ) (row : List Occurrence) → length documents ≤ file → IsRow file row → locations_of encoding documents row ≡ []
locations-none encoding documents file row le h = in_none encoding documents file (slice_get_past documents file le) row (recursion_from_All (λ (o : Occurrence). o.file ≡ file) row h)

-- the locations of the front, and then those of the others
pub locations-rest : (encoding : PositionEncoding) (documents : List Doc) (rest others : List Occurrence) (count : ℕ) (old new whole : List Location) → others ≡ drop count rest → new ≡ old ++ locations_of encoding documents (take count rest)
    → old ++ locations_of encoding documents rest ≡ whole → new ++ locations_of encoding documents others ≡ whole
locations-rest encoding documents rest others count old new whole is added all =
    rw (added, is)
    (append_assoc old (locations_of encoding documents (take count rest)) (locations_of encoding documents (drop count rest))
    ∙ ap (λ (ls : List Location). old ++ ls) (sym (filter_map-append (λ o. option_map (location_in encoding o) (slice_get documents o.file)) (take count rest) (drop count rest)))
    ∙ ap (λ (os : List Occurrence). old ++ locations_of encoding documents os) (take-append-drop count rest) ∙ all)
