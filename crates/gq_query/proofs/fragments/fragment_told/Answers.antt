use Rattle.std.proofs.Common.{◌≡◌, List, Some, None, ◌∙◌, ap, sym, slice_get}
use Rattle.std.proofs.lemmas.Result.{IfOk-weaker}
use Rattle.gq_tree.specs.Readings.{readings_view}
use Rattle.gq_index.specs.declared.definitions.Executable.{Executable}
use Rattle.gq_index.specs.declared.occurrence.Occurrence.{Occurrence}
use Rattle.gq_index.specs.Occurrences.{DefinitionOf, fragment_definitions}
use Rattle.gq_index.specs.Views.{definitions_view}
use Rattle.gq_query.specs.Helping.Own.{all_definitions}
use Rattle.gq_query.specs.Words.{fragment_told}
use Rattle.gq_query.proofs.FirstDefined.{fragment_in_document, fragment_nowhere}
use Rattle.gq_query.proofs.fragments.fragment_told.Goals as goal

pub returns-in_ok-own-in-Some : goal.returns-in_ok-own-in-Some
returns-in_ok-own-in-Some c =
    let ds = all_definitions c.args.readings.now in
    let name = c.args.name.now in
    let place = c.in-Some.place.now in
    IfOk-weaker c.told_among.result _ _
    (λ told e is.
    let at : slice_get (fragment_definitions ds name) 0 ≡ Some place = sym (c.in-Some.ensures.value ∙ ap (λ (l : List Occurrence). slice_get l 0) (c.definitions.ensures ds is)) in
    e
    ∙ ap (λ (l : List Executable). fragment_told (definitions_view l) name) c.deref.ensures.value
    ∙ ap (λ (l : List DefinitionOf). fragment_told l name) c.in_ok-own-in-Some.ensures
    ∙ sym (fragment_in_document (readings_view c.args.readings.now) name place at))
    c.told_among.ensures

pub returns-in-None : goal.returns-in-None
returns-in-None c = λ is.
    let ds = all_definitions c.args.readings.now in
    let at : slice_get (fragment_definitions ds c.args.name.now) 0 ≡ None = sym (c.in-None.ensures.value ∙ ap (λ (l : List Occurrence). slice_get l 0) (c.definitions.ensures ds is)) in
    fragment_nowhere ds c.args.name.now at
