-- How a run with workers ends by how its reader and its desk did. Only contracts of private functions speak of it.
use Rattle.std.specs.Prelude.{Option, Some, None}
use Rattle.gq_reader.specs.declared.fault.RunFault.{RunFault}
use Rattle.gq_crew.specs.declared.one_thread.Ended.{Ended}
use Rattle.gq_crew.specs.Helping.Ends.{ended_as}

-- as the desk did; where that stopped, at the fault that the reader told
abbrev pub settled_by : Option RunFault → Option RunFault → Ended → Ended
settled_by told (Some why) desk = desk
settled_by told None desk = ended_as desk.status told

abbrev pub settled : Option RunFault → Ended → Ended
settled told desk = settled_by told desk.fault desk
