-- Why a target may not have the new name.
use Rattle.std.specs.Prelude.{◌≡◌, ℕ, Bool, not, List, Option, Some, None, if◌then◌else◌}
use Rattle.gq_index.specs.Occurrences.{DefinitionOf}
use Rattle.gq_mentions.specs.declared.target.TargetKind.{TargetKind}
use Rattle.gq_rename.specs.declared.refusal.Refusal.{Refusal}
use Rattle.gq_rename.specs.declared.refusal.Refusal.TheVariants.{ProjectInvalid, NothingHere, BadName, SameName, NameTaken, DirectiveInWay, NoPossibleType, NotSiblings, NotRedundant, TooLarge, SelfCheck, NoMemory}
use Rattle.gq_rename.specs.Asks.{MayBeCalled, IsTaken}

abbrev pub IsNameRefusal : List DefinitionOf → TargetKind → List ℕ → ℕ → List ℕ → Option Refusal → Type 0
IsNameRefusal ds of old definition new None = MayBeCalled of new × (old ≡ new → ⊥) × (IsTaken ds of old definition new → ⊥)
IsNameRefusal ds of old definition new (Some ProjectInvalid) = ⊥
IsNameRefusal ds of old definition new (Some NothingHere) = ⊥
IsNameRefusal ds of old definition new (Some BadName) = MayBeCalled of new → ⊥
IsNameRefusal ds of old definition new (Some SameName) = MayBeCalled of new × (old ≡ new)
IsNameRefusal ds of old definition new (Some NameTaken) = MayBeCalled of new × (old ≡ new → ⊥) × IsTaken ds of old definition new
IsNameRefusal ds of old definition new (Some DirectiveInWay) = ⊥
IsNameRefusal ds of old definition new (Some NoPossibleType) = ⊥
IsNameRefusal ds of old definition new (Some NotSiblings) = ⊥
IsNameRefusal ds of old definition new (Some NotRedundant) = ⊥
IsNameRefusal ds of old definition new (Some TooLarge) = ⊥
IsNameRefusal ds of old definition new (Some SelfCheck) = ⊥
IsNameRefusal ds of old definition new (Some NoMemory) = ⊥

-- the first of them, by what was tested
abbrev pub first_refusal : Bool → Bool → Bool → Option Refusal
first_refusal may same taken = if not may then Some BadName else if same then Some SameName else if taken then Some NameTaken else None
