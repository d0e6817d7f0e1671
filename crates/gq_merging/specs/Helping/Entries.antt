-- What the entries of the code stand for.
use Rattle.std.specs.Prelude.{List, map}
use Rattle.gq_text.specs.declared.place.Span.{Span}
use Rattle.gq_tree.specs.Plain.{Val, under}
use Rattle.gq_tree.specs.Views.{name_of, value_view, entry_view, argument_view}
use Rattle.gq_merging.specs.declared.entries.Entry.{Entry}
use Rattle.gq_merging.specs.declared.entries.Entries.{Entries}
use Rattle.gq_merging.specs.declared.entries.Entries.TheVariants.{Arguments, Fields}

abbrev pub entry_seen : Entry → Val Span
entry_seen e = under (name_of e.name.now) (value_view e.value.now)

abbrev pub entries_seen : Entries → List (Val Span)
entries_seen (Arguments xs) = map argument_view xs.now
entries_seen (Fields xs) = map entry_view xs.now
