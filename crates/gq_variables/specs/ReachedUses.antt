-- The uses of variables that belong to an operation (section 5.8.3): its own, and those of the fragments that it reaches.
use Rattle.gq_document.specs.Definitions.{OperationOf, FragmentOf}
use Rattle.gq_document.specs.Reaches.{Reaches}
use Rattle.gq_document.specs.Executable.{ExecutableOf}
use Rattle.gq_variables.specs.Uses.{UseOf, IsUsedInOperation, IsUsedInFragment}

pub data ReachesUse (x : ExecutableOf) (o : OperationOf) (u : UseOf) : Type 0 where
  of_itself : IsUsedInOperation x.entries o u → ReachesUse x o u
  of_fragment : {f : FragmentOf} → Reaches x.fragments o.set f → IsUsedInFragment x.entries f u → ReachesUse x o u
