use Rattle.std.proofs.Common.{ap, ◌∙◌}
use Rattle.gq_parse.specs.declared.expected.Row.TheVariants.{Fields}
use Rattle.gq_parse.specs.declared.expected.Symbol.TheVariants.{OptionalRow}
use Rattle.gq_parse.specs.declared.expected.Move.{Move}
use Rattle.gq_parse.specs.Helping.Expected.{parts_move}
use Rattle.gq_parse.proofs.Defaults.{type_parts_else}
use Rattle.gq_parse.proofs.moves.definitions.type_parts_move.Goals as goal

pub returns-in_default : goal.returns-in_default
returns-in_default c = c.parts_move.ensures ∙ ap (λ (m : Move). parts_move c.args.kind (OptionalRow Fields) m) c.row_move.ensures ∙ type_parts_else c.args.kind c.args.word c.in_default.not-Name
