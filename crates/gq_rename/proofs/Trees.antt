-- An offset means the same, however documents are read.
use Rattle.std.proofs.Common.{◌≡◌, ℕ, List, ap}
use Rattle.gq_text.specs.declared.place.Span.{Span}
use Rattle.gq_tree.specs.Plain.{Def}
use Rattle.gq_project.specs.declared.document.Doc.{Doc}
use Rattle.gq_tree.specs.Readings.{ParsedOf}
use Rattle.gq_parse.specs.Parsed.{AreParsed}
use Rattle.gq_parse.proofs.OneReading.{OneTree, same_trees}
use Rattle.gq_rename.specs.Asks.{target_of}

module _ (one_tree : OneTree) where
  pub same_target : (documents : List Doc) (xs ys : List ParsedOf) (key : List ℕ) (offset : ℕ) → AreParsed documents xs → AreParsed documents ys → target_of documents xs key offset ≡ target_of documents ys key offset
  same_target documents xs ys key offset p q =
      ap (λ (ts : List (List (Def Span))). Rattle.gq_mentions.specs.Targets.target offset (Rattle.gq_rename.specs.Asks.renameables_of key 0 documents ts)) (same_trees one_tree documents xs ys p q)
