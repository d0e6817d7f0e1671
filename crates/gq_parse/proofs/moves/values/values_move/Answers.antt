use Rattle.std.proofs.Common.{ap, ◌∙◌}
use Rattle.gq_parse.specs.declared.expected.Symbol.TheVariants.{MoreValues}
use Rattle.gq_parse.specs.declared.expected.Move.{Move}
use Rattle.gq_parse.specs.Helping.Expected.{behind}
use Rattle.gq_parse.proofs.Defaults.{values_else}
use Rattle.gq_parse.proofs.moves.values.values_move.Goals as goal

pub returns-in_default : goal.returns-in_default
returns-in_default c = c.behind.ensures ∙ ap (λ (m : Move). behind m (MoreValues c.args.constant)) c.value_move.ensures ∙ values_else c.args.constant c.args.kind c.in_default.not-BracketClose
