-- What an ask for a refactoring comes to: the first refusal that holds of it, else what is cut.
use Rattle.std.specs.Prelude.{◌<◌, Result, Ok, Err}
use Rattle.gq_rename.specs.declared.refusal.Refusal.{Refusal}
use Rattle.gq_rename.specs.Refusals.{number_of}

-- For the condition of each refusal, and for what is cut where none of them holds. A refusal that is told holds, and
-- none with a lesser number does.
abbrev pub IsOffer : {A : Type 0} → (Refusal → Type 0) → (A → Type 0) → Result A Refusal → Type 0
IsOffer Holds IsCut (Err why) = Holds why × ((earlier : Refusal) → number_of earlier < number_of why → Holds earlier → ⊥)
IsOffer Holds IsCut (Ok cut) = ((why : Refusal) → Holds why → ⊥) × IsCut cut
