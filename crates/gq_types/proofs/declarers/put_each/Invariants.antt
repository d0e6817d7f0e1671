use Rattle.std.proofs.Common.{◌≡◌, ◌++◌, take}
use Rattle.std.specs.List.{list_any}
use Rattle.std.specs.Str.{bytes_eq}
use Rattle.gq_types.specs.Entries.{Text}
use Rattle.gq_names.specs.UnderNames.{items_under, one_if}
use Rattle.gq_types.proofs.declarers.put_each.Given as goal

abbrev pub invariant-loop-place : goal.invariant-loop-place
invariant-loop-place l = (text : Text) → items_under l.all text ≡ items_under l.fn.all text ++ one_if (list_any (bytes_eq text) (take l.place l.names)) l.number
