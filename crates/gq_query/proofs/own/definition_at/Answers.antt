use Rattle.std.proofs.Common.{ℕ, ◌-◌, ◌≤◌, List, ◌∙◌, ap, sym, refl, subst, length, slice_get}
use Rattle.std.proofs.lemmas.Option.{slice_get_read, slice_get_past}
use Rattle.gq_tree.specs.Readings.{readings_view}
use Rattle.gq_index.specs.declared.definitions.Executable.{Executable}
use Rattle.gq_index.specs.Occurrences.{DefinitionOf}
use Rattle.gq_index.specs.Views.{definitions_view}
use Rattle.gq_query.specs.Helping.Own.{all_definitions, first_number}
use Rattle.gq_query.proofs.OwnDefinitions.{at_place, at_no_place}
use Rattle.gq_query.proofs.own.definition_at.Goals as goal

pub returns-in_ok-own-in-Some : goal.returns-in_ok-own-in-Some
returns-in_ok-own-in-Some c = λ is.
    let readings = readings_view c.args.readings.now in
    let places = c.places.result.now in
    let number = c.args.number in
    let place = c.in-Some.place.now in
    let got = c.in-Some.ensures.lookup in
    let here = slice_get_read places (length places) number place refl got.3.0 got.1 in
    let at = at_place readings places number (c.places.ensures (all_definitions c.args.readings.now) is) place here in
    let first = c.first_number.ensures.number readings is in
    c.numbered.ensures (subst (λ (n : ℕ). n ≤ number) (sym first) at.0)
    ∙ ap (λ (n : ℕ). slice_get (definitions_view c.deref.result.now) (number - n)) first
    ∙ ap (λ (l : List Executable). slice_get (definitions_view l) (number - first_number place.file readings)) c.deref.ensures.value
    ∙ ap (λ (l : List DefinitionOf). slice_get l (number - first_number place.file readings)) c.in_ok-own-in-Some.ensures
    ∙ at.1

pub returns-in-None : goal.returns-in-None
returns-in-None c = λ is.
    let places = c.places.result.now in
    at_no_place (readings_view c.args.readings.now) places c.args.number (c.places.ensures (all_definitions c.args.readings.now) is) (slice_get_past places c.args.number c.in-None.ensures.lookup.3)
