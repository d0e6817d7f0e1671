-- The order of faults.
use Rattle.std.specs.Ordering.{nat_cmp, on, then_cmp}
use Rattle.std.specs.declared.cmp.Ordering.{Ordering}
use Rattle.gq_fault.specs.declared.fault.Fault.{Fault}
use Rattle.gq_fault.specs.Codes.{number_of}

-- by the document, the start, the code and the end
abbrev pub fault_cmp : Fault → Fault → Ordering
fault_cmp = then_cmp (on (λ i. i.file) nat_cmp) (then_cmp (on (λ i. i.start) nat_cmp) (then_cmp (on (λ i. number_of i.code) nat_cmp) (on (λ i. i.end) nat_cmp)))
