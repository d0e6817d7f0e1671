-- A document whose text is the same reads as it did.
use Rattle.std.proofs.Common.{◌≡◌, List, sym, ap, ◌∙◌, subst}
use Rattle.std.specs.Cmp.Lexicographic.{bytes_decides}
use mathlib.Core.Logic.{∥∥₁_map}
use Rattle.gq_project.specs.declared.document.Doc.{Doc}
use Rattle.gq_tree.specs.Readings.{SharedParsed, parsed_view, readings_view}
use Rattle.gq_parse.specs.Parsed.{AreParsed}
use Rattle.gq_kept.proofs.KeptLemmas.{given_in_range}
use Rattle.gq_kept.proofs.RemadeLemmas.{as_before}
use Rattle.gq_kept.proofs.kept.Kept.reading_of.Goals as goal

pub bounds-readings-at : goal.bounds-readings-at
bounds-readings-at c =
    rw c.as_slice-readings.ensures.value
    (given_in_range _ _ _ _ _ c.self.invariant c.documents-documents.result.now c.as_slice-readings.result.now (sym (c.documents-documents.ensures.all ∙ c.project.ensures)) c.as_slice-readings.ensures.value c.in-Ok.at c.as_str.result.now c.in-Ok.ensures.found)

pub returns-then-eq : goal.returns-then-eq
returns-then-eq c =
    let told : List Doc = c.documents-documents.result.now in
    let given : List SharedParsed = c.as_slice-readings.result.now in
    let is_told : c.self.inside.judged.documents ≡ told = sym (c.documents-documents.ensures.all ∙ c.project.ensures) in
    let is_given : c.self.inside.readings.items ≡ given = sym c.as_slice-readings.ensures.value in
    let same : c.index-documents-at.result.text ≡ c.args.doc.now.text = ap (λ (d : Doc). d.text) c.index-documents-at.is ∙ (bytes_decides _ _).0 (sym c.if-eq.ensures) in
    ∥∥₁_map c.self.invariant.known
    (λ known. as_before told given c.in-Ok.at c.index-documents-at.result c.args.doc.now.text c.index-readings-at.result c.in_ok-try_clone.field-0 c.in-Ok.ensures.found.in_range
    (rw c.as_slice-readings.ensures.value (given_in_range _ _ _ _ _ c.self.invariant told given is_told c.as_slice-readings.ensures.value c.in-Ok.at c.as_str.result.now c.in-Ok.ensures.found))
    c.index-documents-at.is c.index-readings-at.is same (ap parsed_view c.in_ok-try_clone.ensures)
    (subst (λ (ds : List Doc). AreParsed ds (readings_view given)) is_told (subst (λ (rs : List SharedParsed). AreParsed c.self.inside.judged.documents (readings_view rs)) is_given known.are_readings)))
