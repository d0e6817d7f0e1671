use Rattle.std.proofs.Common.{◌≡◌, ◌∙◌, List, ℕ, ap, sym, subst}
use Rattle.std.proofs.Math.Logic.{∥∥₁_map}
use Rattle.gq_tree.specs.Readings.{readings_view}
use Rattle.gq_index.specs.Occurrences.{executables}
use Rattle.gq_reshape.specs.Cuts.{edits_of}
use Rattle.gq_reshape.specs.Extract.{extract_at, extract_replacements}
use Rattle.gq_reshape.specs.Naming.{extracted_name}
use Rattle.gq_reshape.specs.Placed.{edits_from}
use Rattle.gq_reshape.specs.Helping.Fitting.{AllFit}
use Rattle.gq_reshape.specs.Helping.Limited.{IsLimited}
use Rattle.gq_reshape.specs.declared.placed.PlacedReplacement.{PlacedReplacement}
use Rattle.gq_reshape.proofs.ExtractAnswers.{run_part, run_made, run_extracted, passes}
use Rattle.gq_reshape.proofs.Indexing.{index_is}
use Rattle.gq_reshape.proofs.Limiting.{limited_judges}
use Rattle.gq_reshape.proofs.extracting.extract_run.Goals as goal

pub free_number-requires : goal.free_number-requires
free_number-requires c = ∥∥₁_map c.requires.about.is_index (λ index. (index.definitions, index.is_index))

pub extract_replacements-requires : goal.extract_replacements-requires
extract_replacements-requires c = rw c.as_str-text.ensures (run_part c.args.asked c.requires.about c.args.place c.args.on.now c.requires.run.0 c.requires.run.1)

pub limited_edit-requires-clause-project : goal.limited_edit-requires-clause-project
limited_edit-requires-clause-project c = c.requires.about.is_project

pub limited_edit-requires-clause-fit : goal.limited_edit-requires-clause-fit
limited_edit-requires-clause-fit c =
    let a = c.args.asked in
    let name = c.as_str-name.result.now in
    let replacements : c.deref.result.now ≡ extract_replacements a.file a.document.now.text c.args.place name c.args.on.now =
    c.deref.ensures.value ∙ c.in_ok-replacements.ensures ∙ ap (λ text. extract_replacements a.file text c.args.place name c.args.on.now) c.as_str-text.ensures in
    let F : List PlacedReplacement → Type 0 = λ ps. AllFit ps 0 a.valid.now in
    subst F (sym replacements) (run_made a c.requires.about c.args.place c.args.on.now c.requires.run.0 c.requires.run.1 name).fit

pub returns-clause-answer : goal.returns-clause-answer
returns-clause-answer c known index =
    let a = c.args.asked in
    let on = c.args.on.now in
    let run = c.requires.run.0 in
    let name = c.as_str-name.result.now in
    let number = c.in_ok-number.number in
    let least = c.in_ok-number.ensures (executables (readings_view a.known.readings.now)) (index_is a c.requires.about known c.documents_have_one_list.ensures index) in
    let replacements : c.deref.result.now ≡ extract_replacements a.file a.document.now.text c.args.place name on =
    c.deref.ensures.value ∙ c.in_ok-replacements.ensures ∙ ap (λ text. extract_replacements a.file text c.args.place name on) c.as_str-text.ensures in
    let L : List PlacedReplacement → Type 0 = λ ps. IsLimited a.valid.now (edits_from ps 0 a.valid.now) c.limited_edit.result in
    let N : List ℕ → Type 0 = λ name. IsLimited a.valid.now (edits_of (extract_at a.file a.document.now.text c.args.place name on run) a.valid.now) c.limited_edit.result in
    run_extracted a c.requires.about c.one_reading.ensures c.args.place on run c.requires.run.1 number least c.limited_edit.result
    (limited_judges a.valid.now (readings_view a.known.readings.now) (extract_at a.file a.document.now.text c.args.place (extracted_name number) on run)
    (passes a c.requires.about c.args.place on run c.requires.run.1 number least known c.extracts_pass.ensures.pass) c.limited_edit.result
    (subst N (c.as_str-name.ensures ∙ c.in_ok-name.ensures) (subst L replacements c.limited_edit.ensures.limited)))
