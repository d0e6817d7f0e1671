-- Why a refactoring is refused: what a client is told, and the order in which refusals are tested.
use Rattle.std.specs.Prelude.{ℕ, List, codes}
use Rattle.gq_rename.specs.declared.refusal.Refusal.{Refusal}
use Rattle.gq_rename.specs.declared.refusal.Refusal.TheVariants.{ProjectInvalid, NothingHere, BadName, SameName, NameTaken, DirectiveInWay, NoPossibleType, NotSiblings, NotRedundant, TooLarge, SelfCheck, NoMemory}

-- the number of a refusal; of several that hold, the one with the least number is told
abbrev pub number_of : Refusal → ℕ
number_of ProjectInvalid = 1
number_of NothingHere = 2
number_of BadName = 3
number_of SameName = 4
number_of NameTaken = 5
number_of DirectiveInWay = 6
number_of NoPossibleType = 7
number_of NotSiblings = 8
number_of NotRedundant = 9
number_of TooLarge = 10
number_of SelfCheck = 11
number_of NoMemory = 12

-- the number, a space, the name
abbrev pub message_of : Refusal → List ℕ
message_of ProjectInvalid = codes "1 ProjectInvalid"
message_of NothingHere = codes "2 NothingHere"
message_of BadName = codes "3 BadName"
message_of SameName = codes "4 SameName"
message_of NameTaken = codes "5 NameTaken"
message_of DirectiveInWay = codes "6 DirectiveInWay"
message_of NoPossibleType = codes "7 NoPossibleType"
message_of NotSiblings = codes "8 NotSiblings"
message_of NotRedundant = codes "9 NotRedundant"
message_of TooLarge = codes "10 TooLarge"
message_of SelfCheck = codes "11 SelfCheck"
message_of NoMemory = codes "12 NoMemory"
