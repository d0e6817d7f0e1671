-- What the names say that references lead to.
use Rattle.std.specs.Prelude.{List, map}
use Rattle.std.specs.Borrow.{Bor}
use Rattle.gq_tree.specs.declared.tree.Name.{Name}
use Rattle.gq_tree.specs.Names.{names_at}
use Rattle.gq_types.specs.Entries.{Text}

abbrev pub texts_at : List (Bor Name) → List Text
texts_at names = map (λ n. n.text) (names_at names)
