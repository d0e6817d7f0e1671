-- Fragments that are reached.
use Rattle.std.proofs.Common.{◌≡◌, List, ◌∙◌, Contains}
use Rattle.gq_text.specs.declared.place.Span.{Span}
use Rattle.gq_tree.specs.Plain.{Sels}
use Rattle.gq_document.specs.Definitions.{FragmentOf}
use Rattle.gq_document.specs.Reaches.{Reaches, at_once, through}

-- a fragment that is reached is one of the fragments
pub reached_stands : (fs : List FragmentOf) (set : Sels Span) (f : FragmentOf) → Reaches fs set f → Contains fs f
reached_stands fs set f (at_once there spread) = there
reached_stands fs set f (through way there spread) = there

-- with a fragment all others of its name are reached
pub reached_alike : (fs : List FragmentOf) (set : Sels Span) (f g : FragmentOf) → Reaches fs set f → Contains fs g → f.name.text ≡ g.name.text → Reaches fs set g
reached_alike fs set f g (at_once there spread) stands named = at_once stands (record { name = spread.name; stands = spread.stands; names = spread.names ∙ named })
reached_alike fs set f g (through way there spread) stands named = through way stands (record { name = spread.name; stands = spread.stands; names = spread.names ∙ named })
