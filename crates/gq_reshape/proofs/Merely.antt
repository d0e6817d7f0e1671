-- Conditions that are propositions, so that they can be got from what is merely so.
use Rattle.std.proofs.Common.{ℕ, suc, List, [], ◌∷◌}
use Rattle.std.proofs.Props.{props}
use Rattle.gq_text.specs.declared.place.Span.{Span}
use Rattle.gq_text.specs.declared.replacement.Replacement.{Replacement}
use Rattle.gq_tree.specs.Plain.{DirectiveOf}
use Rattle.gq_project.specs.declared.document.Doc.{Doc}
use Rattle.gq_edit.specs.Replacements.{AreDisjointFrom, FitText}
use Rattle.gq_laws.specs.Rewriting.Parts.{DirectivesFit, IsPartOf}
use Rattle.gq_reshape.specs.declared.placed.PlacedReplacement.{PlacedReplacement}
use Rattle.gq_reshape.specs.Placed.{replacements_in}
use Rattle.gq_reshape.specs.Helping.Fitting.{AllFit}

-- places in a text
pub part_prop : (text : List ℕ) (place : Span) → IsProp (IsPartOf text place)
part_prop text place = hlevel props

pub directives_prop : (text : List ℕ) (at : ℕ) (ds : List (DirectiveOf Span)) → IsProp (DirectivesFit text at ds)
directives_prop text at [] = hlevel
directives_prop text at (d ∷ ds) = hlevel (props, directives_prop text d.place.end ds)

-- replacements
disjoint_prop : (from : ℕ) (rs : List Replacement) → IsProp (AreDisjointFrom from rs)
disjoint_prop from [] = hlevel
disjoint_prop from (r ∷ rs) = hlevel (props, disjoint_prop r.span.end rs)

text_prop : (text : List ℕ) (rs : List Replacement) → IsProp (FitText text rs)
text_prop text [] = hlevel
text_prop text (r ∷ rs) = hlevel (props, text_prop text rs)

pub fit_prop : (placed : List PlacedReplacement) (file : ℕ) (documents : List Doc) → IsProp (AllFit placed file documents)
fit_prop placed file [] = hlevel
fit_prop placed file (d ∷ documents) = hlevel (disjoint_prop 0 (replacements_in placed file), text_prop d.text (replacements_in placed file), fit_prop placed (suc file) documents)
