-- The text of a document that is looked up fits.
use Rattle.std.proofs.Common.{◌≡◌, ℕ, ◌≤◌, ◌^◌, Bool, true, false, List, [], ◌∷◌, length, arith}
use Rattle.std.specs.Prelude.{find, if◌then◌else◌, Some}
use Rattle.std.specs.Option.{option_map_or}
use Rattle.gq_project.specs.declared.document.Doc.{Doc}
use Rattle.gq_project.specs.Documents.{has_key}
use Rattle.gq_edit.specs.Workspace.{AreTexts}
use Rattle.gq_replies.specs.Answers.{text_at}

pub fits-text_at : (documents : List Doc) (key : List ℕ) → AreTexts documents → length (text_at documents key) ≤ 2 ^ 22
fits-text_at [] key all = omega arith
fits-text_at (d ∷ ds) key all = by_test (has_key key d) all.0 (fits-text_at ds key all.1)
  where
    by_test : (t : Bool) → length d.text ≤ 2 ^ 22 → length (text_at ds key) ≤ 2 ^ 22 → length (option_map_or (λ (doc : Doc). doc.text) (if t then Some d else find (has_key key) ds) []) ≤ 2 ^ 22
    by_test true one rest = one
    by_test false one rest = rest
