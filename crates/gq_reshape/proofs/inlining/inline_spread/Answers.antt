use Rattle.std.proofs.Common.{rules, ◌≡◌, ◌∙◌, ◌<◌, Bool, List, Some, slice_get, length, map, ap, sym, subst}
use Rattle.std.proofs.Props.{props}
use Rattle.std.proofs.Math.Logic.{∥∥₁_elim}
use Rattle.gq_tree.specs.Readings.{readings_view}
use Rattle.gq_tree.specs.Views.{directive_view, name_of}
use Rattle.gq_project.specs.declared.document.Doc.{Doc}
use Rattle.gq_reshape.specs.Inline.{inline_at, inline_replacements, is_only_spread}
use Rattle.gq_reshape.specs.Placed.{edits_from}
use Rattle.gq_reshape.specs.Helping.Fitting.{AllFit}
use Rattle.gq_reshape.specs.Helping.Fragments.{fragment_found}
use Rattle.gq_reshape.specs.Helping.Limited.{IsLimited}
use Rattle.gq_reshape.specs.declared.placed.PlacedReplacement.{PlacedReplacement}
use Rattle.gq_reshape.proofs.Indexing.{index_is}
use Rattle.gq_reshape.proofs.InlineAnswers.{Home, home_inside, directives_fit, braces_part, spread_made, passes, spread_inlined}
use Rattle.gq_reshape.proofs.Limiting.{limited_judges}
use Rattle.gq_reshape.proofs.Merely.{directives_prop, part_prop, fit_prop}
use Rattle.gq_reshape.proofs.Quiet.{slice_is}
use Rattle.gq_reshape.proofs.inlining.inline_spread.Goals as goal

pub bounds-documents-found : goal.bounds-documents-found
bounds-documents-found c =
    let inside_prop : IsProp (c.args.found.now.file < length c.args.asked.valid.now) = hlevel props in
    subst (λ (ds : List Doc). c.args.found.now.file < length ds) (sym (c.documents.ensures.all ∙ c.project-project.ensures.same))
    (∥∥₁_elim c.requires.about.is_known inside_prop (λ known. home_inside c.args.asked c.requires.about c.args.spread.now (fragment_found c.args.found.now) c.requires.of known))

pub offset_bounds-documents-found : goal.offset_bounds-documents-found
offset_bounds-documents-found c = let below : c.args.found.now.file < length c.documents.result.now = bounds-documents-found c in search rules

pub inline_replacements-requires-clause-directives : goal.inline_replacements-requires-clause-directives
inline_replacements-requires-clause-directives c =
    let a = c.args.asked in
    let ds = map directive_view c.args.spread.now.directives.items in
    rw c.as_str-text.ensures (∥∥₁_elim c.requires.about.is_known (directives_prop a.document.now.text 0 ds) (λ known. directives_fit a c.requires.about c.args.spread.now (fragment_found c.args.found.now) c.requires.of known))

pub inline_replacements-requires-clause-braces : goal.inline_replacements-requires-clause-braces
inline_replacements-requires-clause-braces c =
    let f = fragment_found c.args.found.now in
    ∥∥₁_elim c.requires.about.is_known (part_prop c.as_str-home.result.now f.braces) (λ known.
    let home = Home c.args.asked c.requires.about c.args.spread.now f c.requires.of known in
    let listed : slice_get c.documents.result.now f.file ≡ Some home.0 = ap (λ (ds : List Doc). slice_get ds f.file) (c.documents.ensures.all ∙ c.project-project.ensures.same) ∙ home.1 in
    let text : c.as_str-home.result.now ≡ home.0.text = c.as_str-home.ensures ∙ ap (λ (d : Doc). d.text) (slice_is c.documents.result.now f.file home.0 c.index-documents-found.result listed) in
    rw text (braces_part c.args.asked c.requires.about c.args.spread.now f c.requires.of known home.0 home.1))

pub limited_edit-requires-clause-project : goal.limited_edit-requires-clause-project
limited_edit-requires-clause-project c = c.requires.about.is_project

pub limited_edit-requires-clause-fit : goal.limited_edit-requires-clause-fit
limited_edit-requires-clause-fit c =
    let a = c.args.asked in
    let f = fragment_found c.args.found.now in
    let ds = map directive_view c.args.spread.now.directives.items in
    let place = c.args.spread.now.span in
    let goes = c.is_only_spread-goes.result in
    ∥∥₁_elim c.requires.about.is_known (fit_prop c.deref.result.now 0 a.valid.now) (λ known.
    let home = Home a c.requires.about c.args.spread.now f c.requires.of known in
    let listed : slice_get c.documents.result.now f.file ≡ Some home.0 = ap (λ (ds : List Doc). slice_get ds f.file) (c.documents.ensures.all ∙ c.project-project.ensures.same) ∙ home.1 in
    let text : c.as_str-home.result.now ≡ home.0.text = c.as_str-home.ensures ∙ ap (λ (d : Doc). d.text) (slice_is c.documents.result.now f.file home.0 c.index-documents-found.result listed) in
    let replacements : c.deref.result.now ≡ inline_replacements a.file a.document.now.text ds place f home.0.text goes =
    c.deref.ensures.value ∙ c.in_ok-replacements.ensures ∙ ap (λ text. inline_replacements a.file text ds place f c.as_str-home.result.now goes) c.as_str-text.ensures ∙ ap (λ text. inline_replacements a.file a.document.now.text ds place f text goes) text in
    let F : List PlacedReplacement → Type 0 = λ ps. AllFit ps 0 a.valid.now in
    subst F (sym replacements) (spread_made a c.requires.about c.args.spread.now f c.requires.of known c.no_project_is_valid_and_invalid.ensures home.0 home.1 goes).fit)

pub returns-clause-answer : goal.returns-clause-answer
returns-clause-answer c known index =
    let a = c.args.asked in
    let f = fragment_found c.args.found.now in
    let ds = map directive_view c.args.spread.now.directives.items in
    let place = c.args.spread.now.span in
    let goes = c.is_only_spread-goes.result in
    let home = Home a c.requires.about c.args.spread.now f c.requires.of known in
    let listed : slice_get c.documents.result.now f.file ≡ Some home.0 = ap (λ (ds : List Doc). slice_get ds f.file) (c.documents.ensures.all ∙ c.project-project.ensures.same) ∙ home.1 in
    let text : c.as_str-home.result.now ≡ home.0.text = c.as_str-home.ensures ∙ ap (λ (d : Doc). d.text) (slice_is c.documents.result.now f.file home.0 c.index-documents-found.result listed) in
    let replacements : c.deref.result.now ≡ inline_replacements a.file a.document.now.text ds place f home.0.text goes =
    c.deref.ensures.value ∙ c.in_ok-replacements.ensures ∙ ap (λ text. inline_replacements a.file text ds place f c.as_str-home.result.now goes) c.as_str-text.ensures ∙ ap (λ text. inline_replacements a.file a.document.now.text ds place f text goes) text in
    let L : List PlacedReplacement → Type 0 = λ ps. IsLimited a.valid.now (edits_from ps 0 a.valid.now) c.limited_edit.result in
    let only : goes ≡ is_only_spread (readings_view a.known.readings.now) (name_of c.args.spread.now.name).text = c.is_only_spread-goes.ensures (readings_view a.known.readings.now) (index_is a c.requires.about known c.documents_have_one_list.ensures index) ∙ ap (is_only_spread (readings_view a.known.readings.now)) c.as_str.ensures in
    let G : Bool → Type 0 = λ b. IsLimited a.valid.now (edits_from (inline_replacements a.file a.document.now.text ds place f home.0.text b) 0 a.valid.now) c.limited_edit.result in
    spread_inlined a c.requires.about c.args.spread.now f c.requires.of c.requires.free home.0 home.1 c.limited_edit.result
    (limited_judges a.valid.now (readings_view a.known.readings.now) (inline_at a.file a.document.now.text ds place f home.0.text (is_only_spread (readings_view a.known.readings.now) (name_of c.args.spread.now.name).text))
    (passes a c.requires.about c.args.spread.now f c.requires.of known c.inlines_pass.ensures.pass c.requires.free home.0 home.1) c.limited_edit.result (subst G only (subst L replacements c.limited_edit.ensures.limited)))
