use Rattle.std.proofs.Common.{ap, ◌∙◌}
use Rattle.gq_parse.specs.declared.expected.Symbol.TheVariants.{MoreSelections}
use Rattle.gq_parse.specs.declared.expected.Move.{Move}
use Rattle.gq_parse.specs.Helping.Expected.{behind}
use Rattle.gq_parse.proofs.Defaults.{selections_else}
use Rattle.gq_parse.proofs.moves.selections.selections_move.Goals as goal

pub returns-in_default : goal.returns-in_default
returns-in_default c = c.behind.ensures ∙ ap (λ (m : Move). behind m MoreSelections) c.selection_move.ensures ∙ selections_else c.args.kind c.in_default.not-BraceClose
