-- The index of a project of which one document is replaced, put in or taken out.
use Rattle.std.proofs.Common.{◌≡◌, ℕ, List, set, map, refl, sym, ◌∙◌, ap, subst}
use Rattle.std.specs.List.{insert, remove}
use Rattle.std.proofs.lemmas.List.{map-set}
use Rattle.gq_project.specs.declared.document.Doc.{Doc}
use Rattle.gq_project.specs.Documents.{with_doc, without}
use Rattle.gq_project.specs.Helping.Places.{IsPlaceOf, IsGapFor}
use Rattle.gq_project.proofs.DocumentLemmas.{set_with_doc, insert_with_doc}
use Rattle.gq_tree.specs.Readings.{ParsedOf}
use Rattle.gq_parse.specs.Parsed.{IsParsed, AreParsed}
use Rattle.gq_index.specs.declared.files.File.{File}
use Rattle.gq_index.specs.declared.index.Index.{Index}
use Rattle.gq_index.specs.Helping.Made.{AreTablesFor, IsMadeOf}
use Rattle.gq_index.specs.Indexed.{AreFilesOf, IsIndexOfProject}
use Rattle.gq_index.specs.Occurrences.{executables}
use Rattle.gq_index.specs.Parts.{PartOf, parts_in}
use Rattle.gq_index.specs.Views.{parts_kept}
use Rattle.gq_index.proofs.Parallel.{set_both, insert_both, remove_both, map_insert, map_remove}

-- files of documents that are read so, and their tables
pub indexed : (documents : List Doc) (readings : List ParsedOf) (index : Index) → AreParsed documents readings → AreFilesOf documents readings index.files → AreTablesFor index.files index.tables → IsIndexOfProject documents index
indexed documents readings index are files tables = record {
  definitions = executables readings;
  of_documents = record { readings = readings; are_readings = are; is = refl };
  is_index = record { tables = tables readings files.parted };
  files = files;
}

made : (documents : List Doc) (readings : List ParsedOf) (files : List File) (index : Index) → AreParsed documents readings → AreFilesOf documents readings files → IsMadeOf files index → IsIndexOfProject documents index
made documents readings files index are kept is =
    indexed documents readings index are (subst (λ (fs : List File). AreFilesOf documents readings fs) (sym is.files) kept) (subst (λ (fs : List File). AreTablesFor fs index.tables) (sym is.files) is.tables)

module _ (documents : List Doc) (old new : Index) (p : IsIndexOfProject documents old) where
  abbrev Readings : List ParsedOf
  Readings = p.of_documents.readings

  module _ (at : ℕ) (doc : Doc) (file : File) (r : ParsedOf) (parsed : IsParsed doc.text r) (key : file.key ≡ doc.key) (parts : parts_kept file ≡ parts_in r) where
    files_replaced : AreFilesOf (set documents at doc) (set Readings at r) (set old.files at file)
    files_replaced = record {
      keyed = map-set (λ f. f.key) old.files at file ∙ ap (λ (ks : List (List ℕ)). set ks at file.key) p.files.keyed ∙ ap (set (map (λ d. d.key) documents) at) key ∙ sym (map-set (λ d. d.key) documents at doc);
      parted = map-set parts_kept old.files at file ∙ ap (λ (ps : List (List PartOf)). set ps at (parts_kept file)) p.files.parted ∙ ap (set (map parts_in Readings) at) parts ∙ sym (map-set parts_in Readings at r);
    }

    files_inserted : AreFilesOf (insert documents at doc) (insert Readings at r) (insert old.files at file)
    files_inserted = record {
      keyed = map_insert (λ f. f.key) old.files at file ∙ ap (λ (ks : List (List ℕ)). insert ks at file.key) p.files.keyed ∙ ap (insert (map (λ d. d.key) documents) at) key ∙ sym (map_insert (λ d. d.key) documents at doc);
      parted = map_insert parts_kept old.files at file ∙ ap (λ (ps : List (List PartOf)). insert ps at (parts_kept file)) p.files.parted ∙ ap (insert (map parts_in Readings) at) parts ∙ sym (map_insert parts_in Readings at r);
    }

    pub replaced : IsPlaceOf (λ d. d.key) doc.key documents at → IsMadeOf (set old.files at file) new → IsIndexOfProject (with_doc documents doc) new
    replaced place is =
        subst (λ (ds : List Doc). IsIndexOfProject ds new) (set_with_doc documents doc.key at doc place refl)
        (made (set documents at doc) (set Readings at r) (set old.files at file) new (set_both at doc r parsed p.of_documents.are_readings) files_replaced is)

    pub inserted : IsGapFor (λ d. d.key) doc.key documents at → IsMadeOf (insert old.files at file) new → IsIndexOfProject (with_doc documents doc) new
    inserted gap is =
        subst (λ (ds : List Doc). IsIndexOfProject ds new) (insert_with_doc documents doc.key at doc gap refl)
        (made (insert documents at doc) (insert Readings at r) (insert old.files at file) new (insert_both at doc r parsed p.of_documents.are_readings) files_inserted is)

  files_removed : (at : ℕ) → AreFilesOf (remove documents at) (remove Readings at) (remove old.files at)
  files_removed at = record {
    keyed = map_remove (λ f. f.key) old.files at ∙ ap (λ (ks : List (List ℕ)). remove ks at) p.files.keyed ∙ sym (map_remove (λ d. d.key) documents at);
    parted = map_remove parts_kept old.files at ∙ ap (λ (ps : List (List PartOf)). remove ps at) p.files.parted ∙ sym (map_remove parts_in Readings at);
  }

  pub removed : (at : ℕ) (key : List ℕ) → IsPlaceOf (λ d. d.key) key documents at → IsMadeOf (remove old.files at) new → IsIndexOfProject (without documents key) new
  removed at key place is =
      subst (λ (ds : List Doc). IsIndexOfProject ds new) place.others
      (made (remove documents at) (remove Readings at) (remove old.files at) new (remove_both at p.of_documents.are_readings) (files_removed at) is)

  -- where a key has a gap, no document is taken out
  pub stays : (at : ℕ) (key : List ℕ) → IsGapFor (λ d. d.key) key documents at → new ≡ old → IsIndexOfProject (without documents key) new
  stays at key gap same = subst (λ (ds : List Doc). IsIndexOfProject ds new) gap.others (subst (λ (i : Index). IsIndexOfProject documents i) (sym same) p)
