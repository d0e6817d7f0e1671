-- Replacements that fit the texts.
use Rattle.std.specs.Prelude.{ℕ, suc, List, [], ◌∷◌}
use Rattle.gq_project.specs.declared.document.Doc.{Doc}
use Rattle.gq_edit.specs.Replacements.{AreDisjoint, FitText}
use Rattle.gq_reshape.specs.Placed.{replacements_in}
use Rattle.gq_reshape.specs.declared.placed.PlacedReplacement.{PlacedReplacement}

abbrev pub AllFit : List PlacedReplacement → ℕ → List Doc → Type 0
AllFit placed file [] = Unit {0}
AllFit placed file (document ∷ documents) = (AreDisjoint (replacements_in placed file) × FitText document.text (replacements_in placed file)) × AllFit placed (suc file) documents
