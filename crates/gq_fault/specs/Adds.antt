-- What adding faults behind a list comes to.
use Rattle.std.specs.Prelude.{◌≡◌, ◌↔◌, ◌++◌, List, Contains}
use Rattle.gq_fault.specs.declared.fault.Fault.{Fault}

-- Behind what the list had, it now has exactly the faults of which that is true.
pub record AddsExactly (Is : Fault → Type 0) (old new : List Fault) : Type 0 where
  pub added : List Fault
  pub is : new ≡ old ++ added
  pub exactly : (fault : Fault) → Contains added fault ↔ Is fault
