-- How a run ends at what driving comes to. Only contracts of private functions speak of it.
use Rattle.std.specs.Prelude.{ℕ, Option, Some, None}
use Rattle.gq_desk.specs.declared.driving.DriveFault.{DriveFault}
use Rattle.gq_desk.specs.declared.driving.DriveFault.TheVariants as drive
use Rattle.gq_reader.specs.declared.fault.RunFault.{RunFault}
use Rattle.gq_reader.specs.declared.fault.RunFault.TheVariants as fault
use Rattle.gq_crew.specs.declared.one_thread.Ended.{Ended}

-- the fault of a run at one of driving: the last does not come
abbrev pub fault_at : DriveFault → RunFault
fault_at drive.NoMemory = fault.NoMemory
fault_at drive.Device = fault.Device
fault_at drive.TooMany = fault.TooMany
fault_at drive.Closed = fault.Closed
fault_at drive.Failed = fault.Device

-- how a run ended: with a status, or at the fault that was told
abbrev pub ended_as : ℕ → Option RunFault → Ended
ended_as status None = record { status = status; fault = None }
ended_as status (Some why) = record { status = 3; fault = Some why }
