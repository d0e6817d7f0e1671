-- The index is that of the documents, of each of which what is kept for it is right.
use Rattle.std.proofs.Common.{List, subst, sym, ap, ◌∙◌}
use Rattle.gq_project.specs.declared.document.Doc.{Doc}
use Rattle.gq_tree.specs.Readings.{SharedParsed, readings_view}
use Rattle.gq_types.specs.Look.{types_view}
use Rattle.gq_parse.specs.Parsed.{AreParsed}
use Rattle.gq_index.specs.Indexed.{IsIndexOfProject}
use Rattle.gq_index.specs.Views.{parts_shared}
use Rattle.gq_kept.specs.Helping.ByDocument.{AreByDocument}
use Rattle.gq_kept.proofs.HeldLemmas.{SharedParts, given_parts, held_on}
use Rattle.gq_kept.proofs.KeptLemmas.{kept_indexed, kept_owned}
use Rattle.gq_kept.proofs.kept.Kept.make_index.Goals as goal

pub invariant_of-self : goal.invariant_of-self
invariant_of-self c = kept_owned _ _ _ _ _ c.self.invariant _ (held_on (types_view c.self.inside.typed.types) c.self.inside.readings.items c.deref.result.now c.self.inside.found _ c.deref.ensures.value c.all_parts.ensures.kept)

pub invariant_of-self-in_err-index : goal.invariant_of-self-in_err-index
invariant_of-self-in_err-index c = kept_owned _ _ _ _ _ c.self.invariant _ (held_on (types_view c.self.inside.typed.types) c.self.inside.readings.items c.deref.result.now c.self.inside.found _ c.deref.ensures.value c.all_parts.ensures.kept)

pub invariant_of-self-then-is_none : goal.invariant_of-self-then-is_none
invariant_of-self-then-is_none c =
    let index = c.in_ok-index.index in
    let listed : List Doc = c.documents-documents.result.now in
    let given : List SharedParsed = c.deref.result.now in
    let same = c.documents-documents.ensures.all ∙ c.project.ensures in
    let is = c.deref.ensures.value in
    kept_indexed _ _ _ _ _ c.self.invariant _ index
    (held_on (types_view c.self.inside.typed.types) c.self.inside.readings.items given c.self.inside.found _ is c.all_parts.ensures.kept)
    (λ are owned. subst (λ (ds : List Doc). IsIndexOfProject ds index) same
    (c.in_ok-index.ensures (readings_view given)
    (subst (λ (rs : List SharedParsed). AreParsed listed (readings_view rs)) (sym is) (subst (λ (ds : List Doc). AreParsed ds (readings_view c.self.inside.readings.items)) (sym same) are))
    (ap (λ (ps : List SharedParts). parts_shared ps) c.deref-then-is_none.ensures.value ∙ c.in_ok-parts.ensures.parts (given_parts c.self.inside.readings.items given c.self.inside.found.parts.notes.items is owned.parts))))
