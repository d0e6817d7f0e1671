-- What the code's classes and groups stand for.
use Rattle.std.specs.Prelude.{◌≡◌, ℕ, List, map, IfSome}
use Rattle.std.specs.declared.vec.Vec.{Vec}
use Rattle.std.specs.declared.alloc.Global.{Global}
use Rattle.gq_document.specs.FieldSets.{key}
use Rattle.gq_merging.specs.Helping.GroupTables.{ClassesOf}
use Rattle.gq_merging.specs.Helping.Views.{members_view}
use Rattle.gq_merging.specs.declared.classes.Classes.{Classes}

abbrev pub groups_view : List (Vec ℕ Global) → List (List ℕ)
groups_view vs = map (λ v. v.items) vs

abbrev pub classes_view : Classes → ClassesOf
classes_view c = record { keys = map (λ m. key m.field_at) (members_view c.firsts.items); firsts = members_view c.firsts.items; groups = groups_view c.groups.items }

-- the table, if there is one, has the keys of the classes
abbrev pub AreKeyed : Classes → Type 0
AreKeyed c = IfSome c.table (λ names. names ≡ (classes_view c).keys)
