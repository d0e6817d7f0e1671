-- That an ask has one answer, and what the edits that are offered say of the documents.
use Rattle.std.specs.Prelude.{◌≡◌, ◌<◌, ◌^◌, List, None, Result, Ok, find, length}
use Rattle.gq_tree.specs.Readings.{ParsedOf}
use Rattle.gq_project.specs.declared.document.Doc.{Doc}
use Rattle.gq_project.specs.Documents.{IsInOrder}
use Rattle.gq_parse.specs.Parsed.{AreParsed}
use Rattle.gq_edit.specs.declared.edit.DocumentEdit.{DocumentEdit}
use Rattle.gq_edit.specs.Edits.{is_moved}
use Rattle.gq_index.specs.Occurrences.{executables}
use Rattle.gq_rename.specs.declared.refusal.Refusal.{Refusal}
use Rattle.gq_rename.specs.LeadBack.{EditsLeadBack}
use Rattle.gq_rename.specs.Sound.{AreUtf8}
use Rattle.gq_reshape.specs.declared.offering.Ask.{Ask}
use Rattle.gq_reshape.specs.Asked.{IsOfferedFor}
use Rattle.gq_reshape.specs.Asks.{RangeAsk}

-- two answers to an ask are one
abbrev pub OffersAreDetermined : Type 0
OffersAreDetermined = (documents : List Doc) (ask : Ask) (a b : Result (List DocumentEdit) Refusal) → IsOfferedFor documents ask a → IsOfferedFor documents ask b → a ≡ b

-- so are two such answers to an ask of a range
abbrev pub AnswersAreDetermined : (List Doc → RangeAsk → Result (List DocumentEdit) Refusal → Type 0) → Type 0
AnswersAreDetermined IsAnswer = (documents : List Doc) (ask : RangeAsk) (a b : Result (List DocumentEdit) Refusal) → IsAnswer documents ask a → IsAnswer documents ask b → a ≡ b

-- Documents that are read, with fewer than 2^63 operations and fragments (the number of a new one is written in digits), cannot be without an answer
-- to an ask. (That some refusal holds or none does is not decided here, so no answer is given.)
abbrev pub OffersAreThere : Type 0
OffersAreThere =
    (documents : List Doc) (readings : List ParsedOf) → AreParsed documents readings → length (executables readings) < 2 ^ 63 → (ask : Ask) →
    ((answer : Result (List DocumentEdit) Refusal) → IsOfferedFor documents ask answer → ⊥) → ⊥

-- each document that is edited by such an answer is there at the version that the edit names
abbrev pub EditsNameVersions : (List Doc → RangeAsk → Result (List DocumentEdit) Refusal → Type 0) → Type 0
EditsNameVersions IsAnswer =
    (documents : List Doc) (ask : RangeAsk) (edits : List DocumentEdit) → IsInOrder documents → IsAnswer documents ask (Ok edits) → find (is_moved documents) edits ≡ None

-- the positions that are written for the edit of such an answer lead back to its offsets
abbrev pub AnsweredEditsLeadBack : (List Doc → RangeAsk → Result (List DocumentEdit) Refusal → Type 0) → Type 0
AnsweredEditsLeadBack IsAnswer =
    (documents : List Doc) (ask : RangeAsk) (edits : List DocumentEdit) → IsInOrder documents → AreUtf8 documents → IsAnswer documents ask (Ok edits) → EditsLeadBack documents edits
