-- From an answer over one reading to the answer.
use Rattle.std.proofs.Common.{◌≡◌, ◌⊎◌, List, None, Result, Ok, Err, IfOk, position, sym, subst, inl, inr, ⊎_elim}
use Rattle.gq_project.specs.declared.document.Doc.{Doc}
use Rattle.gq_project.specs.Documents.{has_key}
use Rattle.gq_edit.specs.declared.edit.DocumentEdit.{DocumentEdit}
use Rattle.gq_edit.specs.Edits.{after_edit}
use Rattle.gq_tree.specs.Readings.{ParsedOf}
use Rattle.gq_parse.specs.Parsed.{AreParsed}
use Rattle.gq_types.specs.Entries.{EntryOf}
use Rattle.gq_schema.specs.SchemaOf.{IsTypeSystemOf}
use Rattle.gq_rules.specs.Validity.{IsValid}
use Rattle.gq_rename.specs.declared.refusal.Refusal.{Refusal}
use Rattle.gq_rename.specs.declared.refusal.Refusal.TheVariants.{NothingHere, NoMemory}
use Rattle.gq_rename.specs.Offers.{IsOffer}
use Rattle.gq_reshape.specs.Asks.{RangeAsk}
use Rattle.gq_reshape.specs.Cuts.{Cut}
use Rattle.gq_reshape.specs.Extract.{extract_cut}
use Rattle.gq_reshape.specs.Inline.{inline_cut}
use Rattle.gq_reshape.specs.Remove.{remove_cut}
use Rattle.gq_reshape.specs.Reshape.{IsAnswerBy, IsEdit, IsExtractAnswer, IsInlineAnswer, IsRemoveAnswer}
use Rattle.gq_reshape.specs.Responses.{EditsKeepResponses}
use Rattle.gq_reshape.specs.declared.reshaping.Reshaping.{Reshaping}
use Rattle.gq_reshape.specs.declared.reshaping.Reshaping.TheVariants.{Extract, Inline, Remove}
use Rattle.gq_reshape.specs.Helping.Steps.{IsAnswerTo, IsEditTo, IsOfferOver}
use Rattle.gq_reshape.proofs.ExtractOffers as extracts
use Rattle.gq_reshape.proofs.InlineOffers as inlines
use Rattle.gq_reshape.proofs.RemoveOffers as removes

module _ (Refuses : List Doc → List EntryOf → List ParsedOf → RangeAsk → Refusal → Type 0) (IsEditOf : List Doc → List EntryOf → List ParsedOf → RangeAsk → List DocumentEdit → Type 0) (documents : List Doc) (es : List EntryOf) (readings : List ParsedOf) (ask : RangeAsk) (result : Result (List DocumentEdit) Refusal) where
  pub answered : AreParsed documents readings → IsTypeSystemOf documents es → (result ≡ Err NoMemory) ⊎ IsOffer (Refuses documents es readings ask) (IsEditOf documents es readings ask) result → (result ≡ Err NoMemory) ⊎ IsAnswerBy Refuses IsEditOf documents ask result
  answered read typed o = ⊎_elim (λ none. inl none) (λ offer. inr (record { readings = readings; are_readings = read; types = es; is_type_system = typed; offer = offer })) o

abbrev Offer : (Refusal → Type 0) → (List DocumentEdit → Type 0) → Result (List DocumentEdit) Refusal → Type 0
Offer Refuses IsMade result = (result ≡ Err NoMemory) ⊎ IsOffer Refuses IsMade result

pub valid_after : (documents : List Doc) (Refuses : Refusal → Type 0) (IsMade : List DocumentEdit → Type 0) (result : Result (List DocumentEdit) Refusal) → ((edits : List DocumentEdit) → IsMade edits → ∥ IsValid (after_edit edits documents) ∥₁) → Offer Refuses IsMade result → IfOk result (λ edits. ∥ IsValid (after_edit edits documents) ∥₁)
valid_after documents Refuses IsMade (Err why) valid o = tt
valid_after documents Refuses IsMade (Ok edits) valid o = ⊎_elim (λ e. absurd (cc)) (λ offer. valid edits offer.1) o

pub valid_edit : (documents : List Doc) (readings : List ParsedOf) (cut : Cut) (edits : List DocumentEdit) → IsEdit documents readings cut edits → ∥ IsValid (after_edit edits documents) ∥₁
valid_edit documents readings cut edits h = let V : List DocumentEdit → Type 0 = λ es. ∥ IsValid (after_edit es documents) ∥₁ in subst V (sym h.0) h.1.1

pub valid_after_prop : (documents : List Doc) (result : Result (List DocumentEdit) Refusal) → IsProp (IfOk result (λ edits. ∥ IsValid (after_edit edits documents) ∥₁))
valid_after_prop documents (Err why) = hlevel
valid_after_prop documents (Ok edits) = hlevel

-- the same by the refactoring
pub valid_edit_by : (r : Reshaping) (documents : List Doc) (es : List EntryOf) (readings : List ParsedOf) (ask : RangeAsk) (edits : List DocumentEdit) → IsEditTo r documents es readings ask edits → ∥ IsValid (after_edit edits documents) ∥₁
valid_edit_by Extract documents es readings ask edits h = valid_edit documents readings (extract_cut h.0) edits h.1
valid_edit_by Inline documents es readings ask edits h = valid_edit documents readings (inline_cut h.0) edits h.1
valid_edit_by Remove documents es readings ask edits h = valid_edit documents readings (remove_cut h.0) edits h.1

pub kept_by : (r : Reshaping) → EditsKeepResponses IsExtractAnswer → EditsKeepResponses IsInlineAnswer → EditsKeepResponses IsRemoveAnswer → EditsKeepResponses (IsAnswerTo r)
kept_by Extract extract inline remove = extract
kept_by Inline extract inline remove = inline
kept_by Remove extract inline remove = remove

-- there is no document of the key
pub no_document : (r : Reshaping) (documents : List Doc) (es : List EntryOf) (readings : List ParsedOf) (ask : RangeAsk) → ∥ IsValid documents ∥₁ → position (has_key ask.key) documents ≡ None → IsOfferOver r documents es readings ask (Err NothingHere)
no_document Extract documents es readings ask valid none = extracts.no_document documents es readings ask valid none
no_document Inline documents es readings ask valid none = inlines.no_document documents es readings ask valid none
no_document Remove documents es readings ask valid none = removes.no_document documents es readings ask valid none
