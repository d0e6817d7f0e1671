-- The name that a rename would change can be cut out of its text.
use Rattle.std.proofs.Common.{◌≡◌, ℕ, List, [], Option, Some, None, IfSome, ap, sym, subst, ◌∙◌}
use Rattle.std.specs.Option.{option_map_or}
use mathlib.Core.Logic.{∥∥₁_map}
use Rattle.gq_text.specs.declared.place.Span.{Span}
use Rattle.gq_project.specs.declared.document.Doc.{Doc}
use Rattle.gq_rename.specs.Prepare.{IsPrepared}
use Rattle.gq_rename.specs.Sound.{AreUtf8}
use Rattle.gq_rename.specs.Standing.{CanBeCut, PreparedNamesStandInTexts}
use Rattle.gq_replies.specs.Answers.{text_at}

pub can_be_cut : PreparedNamesStandInTexts → (documents : List Doc) → AreUtf8 documents → (key : List ℕ) (offset : ℕ) (text : List ℕ) → text ≡ text_at documents key
    → (K : Type 0) → ∥ K ∥₁ → (found : Option Span) → (K → IsPrepared documents key offset found) → IfSome found (λ span. ∥ CanBeCut text span ∥₁)
can_be_cut law documents utf8 key offset text is_text K known None prepared = tt
can_be_cut law documents utf8 key offset text is_text K known (Some span) prepared =
    ∥∥₁_map known
    (λ k.
    let stands = law documents key offset span utf8 (prepared k) in
    subst (λ (t : List ℕ). CanBeCut t span) (sym (is_text ∙ ap (λ (o : Option Doc). option_map_or (λ (d : Doc). d.text) o []) stands.there)) stands.can_be_cut)
