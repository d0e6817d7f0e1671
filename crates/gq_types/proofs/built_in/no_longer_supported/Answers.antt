use Rattle.gq_tree.proofs.Trees.{view_string}
use Rattle.gq_types.proofs.built_in.no_longer_supported.Goals as goal

pub returns : goal.returns
returns c = rw (view_string, c.in_ok-text.ensures.text, c.nowhere-span.ensures)
