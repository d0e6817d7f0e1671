-- The code's selections as execution sees them (section 6.3).
use Rattle.std.specs.Prelude.{List}
use Rattle.gq_tree.specs.declared.tree.Selection.{Selection}
use Rattle.gq_tree.specs.Views.{sel_view, sels_view}
use Rattle.gq_meaning.specs.Selected.{Set, put_before, set_of}

-- a selection before others
abbrev pub before : Selection → Set → Set
before selection rest = put_before (sel_view selection).label (set_of (sel_view selection).below) rest

abbrev pub set_in : List Selection → Set
set_in selections = set_of (sels_view selections)
