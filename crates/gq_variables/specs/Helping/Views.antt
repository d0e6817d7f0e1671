-- What the code's places and uses stand for.
use Rattle.std.specs.Prelude.{List, map}
use Rattle.std.specs.Borrow.{Bor}
use Rattle.std.specs.declared.vec.Vec.{Vec}
use Rattle.std.specs.declared.alloc.Global.{Global}
use Rattle.gq_text.specs.declared.place.Span.{Span}
use Rattle.gq_tree.specs.declared.tree.VariableDefinition.{VariableDefinition}
use Rattle.gq_tree.specs.Plain.{VariableOf}
use Rattle.gq_tree.specs.Views.{name_of, variable_view}
use Rattle.gq_values.specs.ExpectedTypes.{expected_view}
use Rattle.gq_variables.specs.Uses.{PlaceOf, UseOf}
use Rattle.gq_variables.specs.declared.uses.Place.{Place}
use Rattle.gq_variables.specs.declared.uses.Use.{Use}

abbrev pub place_view : Place → PlaceOf
place_view p = record { reading = expected_view p.reading; has_default = p.has_default }

abbrev pub use_view : Use → UseOf
use_view u = record { file = u.file; name = name_of u.name.now; place = place_view u.place }

abbrev pub uses_view : List Use → List UseOf
uses_view us = map use_view us

-- uses in rows
abbrev pub rows_view : List (Vec Use Global) → List (List UseOf)
rows_view rows = map (λ r. uses_view r.items) rows

-- variables that are lent
abbrev pub variables_view : List (Bor VariableDefinition) → List (VariableOf Span)
variables_view vs = map (λ v. variable_view v.now) vs
