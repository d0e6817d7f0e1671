use Rattle.std.proofs.Common.{◌≡◌, [], flat_map, map, subst, sym}
use Rattle.gq_tree.specs.Readings.{in_document, parsed_view}
use Rattle.gq_tree.specs.Views.{def_view}
use Rattle.gq_document.specs.Definitions.{entry_in}
use Rattle.gq_known.proofs.learned.defines_types.Goals as goal

pub returns-in-Tree : goal.returns-in-Tree
returns-in-Tree c = λ e file.
    subst (λ r. in_document entry_in file (parsed_view r) ≡ []) (sym c.in-Tree.is)
    (subst (λ ds. flat_map (entry_in file) (map def_view ds) ≡ []) c.deref.ensures.value (c.one_defines_types.ensures e file))
