-- What the code's lists of names and of uses stand for.
use Rattle.std.specs.Prelude.{List, map}
use Rattle.std.specs.Borrow.{Bor}
use Rattle.gq_text.specs.declared.place.Span.{Span}
use Rattle.gq_tree.specs.declared.tree.Name.{Name}
use Rattle.gq_tree.specs.Plain.{NameOf}
use Rattle.gq_tree.specs.Views.{name_of}
use Rattle.gq_type_system.specs.declared.uses.Use.{Use}
use Rattle.gq_type_system.specs.Uses.{UseOf}

abbrev pub names_view : List (Bor Name) → List (NameOf Span)
names_view ns = map (λ n. name_of n.now) ns

abbrev pub use_view : Use → UseOf
use_view u = record { name = name_of u.name.now; wants = u.wants }

abbrev pub uses_view : List Use → List UseOf
uses_view us = map use_view us
