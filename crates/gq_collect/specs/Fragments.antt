-- Fragments as execution sees them (section 2.8).
use Rattle.gq_document.specs.Definitions.{FragmentOf}
use Rattle.gq_meaning.specs.Selected.{set_of}
use Rattle.gq_meaning.specs.Expand.{Definition}

abbrev pub definition_of : FragmentOf → Definition
definition_of f = record { name = f.name.text; on = f.on.text; set = set_of f.set }
