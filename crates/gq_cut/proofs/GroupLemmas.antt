-- What is put for one definition of a group.
use Rattle.std.proofs.Common.{◌≡◌, ℕ, zero, suc, ◌<◌, ◌≤◌, List, [], ◌∷◌, ◌++◌, length, Option, Some, None, refl, sym, ap, subst, ◌∙◌, map, append_assoc, append-nil, arith}
use Rattle.std.specs.Prelude.{slice_get}
use Rattle.std.specs.Option.{option_map_or}
use Rattle.std.proofs.lemmas.List.{map-append, length-map}
use Rattle.std.proofs.lemmas.Option.{slice_get_past}
use Rattle.gq_text.specs.declared.place.Span.{Span}
use Rattle.gq_types.specs.Entries.{Text}
use Rattle.gq_index.specs.declared.occurrence.Occurrence.{Occurrence}
use Rattle.gq_index.specs.Occurrences.{DefinitionOf, definition_places, definitions_in, uses_in, variable_definitions, variable_uses, occurrences_in_file}
use Rattle.gq_cut.specs.Helping.Runs.{variable_occurrences}

-- what stands in the definition of a number, in the document of its place
abbrev Both : List DefinitionOf → ℕ → Text → ℕ → Type 0
Both ds number text file =
    occurrences_in_file file (variable_definitions ds number text) ++ occurrences_in_file file (variable_uses ds number text) ≡ option_map_or (λ d. variable_occurrences d text) (slice_get ds number) []

both_at : (ds : List DefinitionOf) (number : ℕ) (text : Text) (one : Occurrence) → slice_get (definition_places ds) number ≡ Some one → Both ds number text one.file
both_at [] number text one e = absurd (cc)
both_at (d ∷ ds) zero text one e =
    let same : d.file ≡ one.file = cc in
    let P : ℕ → Type 0 = λ file. Both (d ∷ ds) 0 text file in
    subst P same (sym (map-append (λ (s : Span). let o : Occurrence = record { file = d.file; span = s } in o) (definitions_in d.definition text) (uses_in d.definition text)))
both_at (d ∷ ds) (suc number) text one e = both_at ds number text one e

pub both_put : (ds : List DefinitionOf) (number : ℕ) (text : Text) (listed : List Occurrence) (one : Occurrence) (old middle new : List Occurrence) (first second : List Span) → listed ≡ definition_places ds → slice_get listed number ≡ Some one →
    first ≡ variable_definitions ds number text → second ≡ variable_uses ds number text → middle ≡ old ++ occurrences_in_file one.file first → new ≡ middle ++ occurrences_in_file one.file second →
    new ≡ old ++ option_map_or (λ d. variable_occurrences d text) (slice_get ds number) []
both_put ds number text listed one old middle new first second listed_is at first_is second_is middle_is new_is =
    let there : slice_get (definition_places ds) number ≡ Some one = ap (λ (os : List Occurrence). slice_get os number) (sym listed_is) ∙ at in
    new_is
    ∙ ap (λ (os : List Occurrence). os ++ occurrences_in_file one.file second) middle_is
    ∙ append_assoc old (occurrences_in_file one.file first) (occurrences_in_file one.file second)
    ∙ ap (λ (ss : List Span). old ++ (occurrences_in_file one.file ss ++ occurrences_in_file one.file second)) first_is
    ∙ ap (λ (ss : List Span). old ++ (occurrences_in_file one.file (variable_definitions ds number text) ++ occurrences_in_file one.file ss)) second_is
    ∙ ap (λ (os : List Occurrence). old ++ os) (both_at ds number text one there)

pub none_put : (ds : List DefinitionOf) (number : ℕ) (text : Text) (listed old : List Occurrence) → listed ≡ definition_places ds → length listed ≤ number → old ≡ old ++ option_map_or (λ d. variable_occurrences d text) (slice_get ds number) []
none_put ds number text listed old listed_is past =
    let count : length (definition_places ds) ≡ length ds = length-map ds _ in
    let behind : length ds ≤ number = omega (arith, ap length listed_is, count, past) in
    sym (append-nil old) ∙ ap (λ (o : Option DefinitionOf). old ++ option_map_or (λ d. variable_occurrences d text) o []) (sym (slice_get_past ds number behind))
