use Rattle.std.proofs.Common.{◌≡◌, ◌++◌, drop, map}
use Rattle.gq_tree.specs.Views.{name_of}
use Rattle.gq_type_system.specs.Helping.Groups.{names_in}
use Rattle.gq_types.specs.Joined.{put_in}
use Rattle.gq_type_system.proofs.parts.put_names.Given as goal

abbrev pub invariant-loop-name : goal.invariant-loop-name
invariant-loop-name l = names_in l.names.items ++ put_in l.file (map name_of (drop l.name-index l.more)) ≡ names_in l.initial.names.items ++ put_in l.file (map name_of l.more)
