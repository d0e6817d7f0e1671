-- Entries that were gathered one after the other, each put among those before it. A stable sort by their names makes this of them.
use Rattle.std.specs.Prelude.{List, [], ◌∷◌}
use Rattle.gq_meaning.specs.Values.{Value}
use Rattle.gq_table.specs.declared.values.Entry.{Entry}
use Rattle.gq_table.specs.Views.{value_view}
use Rattle.gq_coerce.specs.Coerced.{put_entry}

abbrev pub put_entries : List Value → List Entry → List Value
put_entries done [] = done
put_entries done (e ∷ es) = put_entries (put_entry e.name (value_view e.value) done) es

abbrev pub in_order : List Entry → List Value
in_order es = put_entries [] es
