-- Which fragments are reached by spreads (section 5.5.2). A spread whose name several fragments have means each of them.
use Rattle.std.specs.Prelude.{◌≡◌, List, Contains}
use Rattle.gq_text.specs.declared.place.Span.{Span}
use Rattle.gq_tree.specs.Plain.{NameOf, Sels}
use Rattle.gq_tree.specs.Names.{spread_names}
use Rattle.gq_document.specs.Definitions.{FragmentOf}

-- a spread of the fragment stands in the selection set, at any depth
pub record IsSpreadIn (set : Sels Span) (f : FragmentOf) : Type 0 where
  pub name : NameOf Span
  pub stands : Contains (spread_names set) name
  pub names : name.text ≡ f.name.text

-- the fragments that a selection set reaches: those spread in it, and those spread in one that it reaches
pub data Reaches (fs : List FragmentOf) (set : Sels Span) : FragmentOf → Type 0 where
  at_once : {f : FragmentOf} → Contains fs f → IsSpreadIn set f → Reaches fs set f
  through : {f g : FragmentOf} → Reaches fs set g → Contains fs f → IsSpreadIn g.set f → Reaches fs set f
