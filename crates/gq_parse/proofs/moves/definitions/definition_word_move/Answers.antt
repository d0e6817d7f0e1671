use Rattle.std.proofs.Common.{◌∙◌}
use Rattle.gq_parse.proofs.Defaults.{definition_else}
use Rattle.gq_parse.proofs.moves.definitions.definition_word_move.Goals as goal

pub returns-in_default : goal.returns-in_default
returns-in_default c = let n = c.in_default in c.described_move.ensures ∙ definition_else c.args.word n.not-Query n.not-Mutation n.not-Subscription n.not-Fragment n.not-Extend
