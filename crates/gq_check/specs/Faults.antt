-- The faults of a check, and the lines that tell them.
use Rattle.std.specs.Prelude.{◌≡◌, ℕ, List, ◌++◌, Option, Some, codes}
use Rattle.gq_check.specs.declared.fault.CheckFault.{CheckFault}
use Rattle.gq_check.specs.declared.fault.CheckFault.TheVariants.{TooMany, TooLarge, Device, NoMemory}

-- the fault as it is printed
abbrev pub name_of : CheckFault → List ℕ
name_of TooMany = codes "TooMany"
name_of TooLarge = codes "TooLarge"
name_of Device = codes "Device"
name_of NoMemory = codes "NoMemory"

-- the line that tells it
abbrev pub fault_line : CheckFault → List ℕ
fault_line fault = codes "gqls: " ++ name_of fault ++ codes "\n"

-- memory may be refused at any time; else the fault is the one that is stated
abbrev pub IsFaultOr : Option CheckFault → CheckFault → Type 0
IsFaultOr stated TooMany = stated ≡ Some TooMany
IsFaultOr stated TooLarge = stated ≡ Some TooLarge
IsFaultOr stated Device = stated ≡ Some Device
IsFaultOr stated NoMemory = Unit {0}
