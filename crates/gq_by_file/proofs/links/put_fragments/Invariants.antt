-- the file is put under the names so far
use Rattle.std.proofs.Common.{◌≡◌, ◌++◌, drop}
use Rattle.gq_names.specs.UnderNames.{items_under}
use Rattle.gq_types.specs.Entries.{Text}
use Rattle.gq_by_file.specs.Helping.Links.{named_in}
use Rattle.gq_by_file.proofs.links.put_fragments.Given as goal

abbrev pub invariant-loop-name : goal.invariant-loop-name
invariant-loop-name l =
    (text : Text) → items_under l.table text ++ named_in l.file text (drop l.name-index l.fragments) ≡ items_under l.initial.table text ++ named_in l.file text l.fragments
