-- The faults of driving that come of those of the desk and of the hands.
use Rattle.gq_desk.specs.declared.desk.DeskFault.{DeskFault}
use Rattle.gq_desk.specs.declared.desk.DeskFault.TheVariants as desk
use Rattle.gq_desk.specs.declared.hands.HandsFault.{HandsFault}
use Rattle.gq_desk.specs.declared.hands.HandsFault.TheVariants as hands
use Rattle.gq_desk.specs.declared.driving.DriveFault.{DriveFault}
use Rattle.gq_desk.specs.declared.driving.DriveFault.TheVariants as drive

abbrev pub of_hands : HandsFault → DriveFault
of_hands hands.NoMemory = drive.NoMemory
of_hands hands.Closed = drive.Closed

abbrev pub of_desk : DeskFault → DriveFault
of_desk desk.NoMemory = drive.NoMemory
of_desk desk.Failed = drive.Failed
