-- The fault of a rule at a place.
use Rattle.std.specs.Prelude.{ℕ, ◌+◌, min}
use Rattle.gq_text.specs.declared.place.Span.{Span}
use Rattle.gq_tree.specs.Plain.{NameOf}
use Rattle.gq_fault.specs.declared.code.Code.{Code}
use Rattle.gq_fault.specs.declared.fault.Fault.{Fault}

-- at a place
abbrev pub fault_over : ℕ → Code → Span → Fault
fault_over file code place = record { file = file; start = place.start; code = code; end = place.end }

-- at a name's place
abbrev pub fault_at : ℕ → Code → NameOf Span → Fault
fault_at file code name = record { file = file; start = name.place.start; code = code; end = name.place.end }

-- the first so many bytes of a place, or all of it where it has fewer
abbrev pub first_bytes : ℕ → Span → Span
first_bytes count place = record { start = place.start; end = min (place.start + count) place.end }
