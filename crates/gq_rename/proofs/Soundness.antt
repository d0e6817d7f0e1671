-- The edit of a rename in a valid project can be made there, and the edited texts read as the trees with the names
-- changed.
use Rattle.std.proofs.Common.{ℕ, List}
use Rattle.std.proofs.lemmas.Grind.{not_there}
use Rattle.gq_text.specs.declared.place.Span.{Span}
use Rattle.gq_tree.specs.Plain.{Def}
use Rattle.gq_project.specs.declared.document.Doc.{Doc}
use Rattle.gq_parse.specs.Derives.{Derives}
use Rattle.gq_parse.specs.Limits.{PassesLimitAt}
use Rattle.gq_renamed.specs.Rewritten.{RenamedTextsRead}
use Rattle.gq_renamed.specs.Projects.{RenamedProjectsRead}
use Rattle.gq_rules.specs.Validity.{IsValid}
use Rattle.gq_laws.proofs.RenamedValid.Reading.{HaveTrees, trees_read}
use Rattle.gq_rename.specs.Asks.{trees_of}
use Rattle.gq_rename.specs.Sound.{RenamesAreSound, ValidDocumentsAreTrees, edits_by}
use Rattle.gq_rename.proofs.Edited.{rename_edits_of, none_moved, not_too_large}

pub are_trees : ((documents : List Doc) → IsValid documents → HaveTrees documents) → ValidDocumentsAreTrees
are_trees have documents rs are valid = trees_read are (λ without. not_there valid (λ v. without (have documents v)))

pub are_sound : ValidDocumentsAreTrees → RenamedProjectsRead → RenamedTextsRead → ((text : List ℕ) (place : ℕ) (tree : List (Def Span)) → PassesLimitAt text place → Derives text tree → ⊥) → RenamesAreSound
are_sound trees projects texts no_tree documents rs rule new in_order utf8 are valid is_name may =
    let t = trees documents rs are valid in
    let w = projects rule new documents (trees_of rs) in_order t is_name may in
    let each = rename_edits_of texts rule new documents (trees_of rs) is_name may t in
    record {
      fit = w.fit utf8;
      there = none_moved documents (edits_by rule new documents rs) in_order each;
      reads = record { after = w.after; are_trees = w.are_trees; renamed = w.renamed };
      limits = λ none. not_too_large no_tree documents (edits_by rule new documents rs) in_order each none;
    }
