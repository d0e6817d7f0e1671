use Rattle.std.proofs.Common.{◌∙◌, List, get_or, ap, sym, subst, position}
use Rattle.gq_tree.specs.Readings.{readings_view}
use Rattle.gq_project.specs.declared.document.Doc.{Doc}
use Rattle.gq_project.specs.Documents.{IsInOrder, has_key}
use Rattle.gq_types.specs.Look.{types_view}
use Rattle.gq_rename.specs.Sound.{AreUtf8}
use Rattle.gq_reshape.proofs.Answering.{no_document}
use Rattle.gq_reshape.proofs.Asking.{asked_document, inside}
use Rattle.gq_reshape.proofs.reshaping.answer_over.Goals as goal

pub bounds-documents-file : goal.bounds-documents-file
bounds-documents-file c =
    inside (has_key c.args.key.now) c.documents.result.now c.in-Some.file (ap (position (has_key c.args.key.now)) c.documents.ensures.all ∙ sym c.in-Some.ensures)

pub answer-requires : goal.answer-requires
answer-requires c =
    let same = c.project-project.ensures.same in
    record {
      valid = c.project-project.ensures.valid;
      in_order = subst (λ (ds : List Doc). IsInOrder ds) same c.documents_are_texts.ensures.in_order;
      utf8 = subst (λ (ds : List Doc). AreUtf8 ds) same c.documents_are_texts.ensures.utf8;
      is_known = c.requires.known;
      is_project = c.requires.project;
      is_index = c.requires.index;
      is_document =
          asked_document c.args.valid.now c.args.key.now c.in-Some.file c.index-documents-file.result (ap (position (has_key c.args.key.now)) (sym same) ∙ sym c.in-Some.ensures)
          (c.index-documents-file.is ∙ ap (λ (ds : List Doc). get_or ds c.in-Some.file c.index-documents-file.result) (c.documents.ensures.all ∙ same));
    }

pub returns-in_default-clause-answer : goal.returns-in_default-clause-answer
returns-in_default-clause-answer c known index =
    no_document c.args.reshaping c.args.valid.now (types_view c.args.known.types.now) (readings_view c.args.known.readings.now) (record { key = c.args.key.now; range = c.args.range }) c.project-project.ensures.valid
    (ap (position (has_key c.args.key.now)) (sym c.project-project.ensures.same) ∙ sym c.in_default.ensures)
