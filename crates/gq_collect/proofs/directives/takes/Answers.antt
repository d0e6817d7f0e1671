use Rattle.std.proofs.Common.{ap, sym, ◌∙◌}
use Rattle.std.specs.Prelude.{not}
use Rattle.gq_tree.specs.Views.{directive_view}
use Rattle.gq_table.specs.Views.{entries_view}
use Rattle.gq_meaning.proofs.DirectiveLemmas.{takes_each}
use Rattle.gq_collect.proofs.directives.takes.Goals as goal

pub returns : goal.returns
returns c = ap not c.is_left_out.ensures ∙ sym (takes_each directive_view (entries_view c.args.variables.now) c.args.directives.now)
