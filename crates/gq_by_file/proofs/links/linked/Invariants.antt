-- the files under the names so far are there
use Rattle.std.proofs.Common.{◌≡◌, ◌++◌, drop, flat_map}
use Rattle.gq_names.specs.UnderNames.{items_under}
use Rattle.gq_by_file.proofs.links.linked.Given as goal

abbrev pub invariant-loop-name : goal.invariant-loop-name
invariant-loop-name l = l.files.items ++ flat_map (λ text. items_under l.table text) (drop l.name-index l.spreads) ≡ flat_map (λ text. items_under l.table text) l.spreads
