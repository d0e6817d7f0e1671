use Rattle.std.proofs.Common.{sym, ◌∙◌, true, false}
use Rattle.gq_parse.proofs.WordsAre.{other_by}
use Rattle.gq_parse.proofs.words.other_word.Goals as goal

pub returns-then-is_location : goal.returns-then-is_location
returns-then-is_location c = other_by c.args.text.now true (sym c.if-is_location.true ∙ c.is_location.ensures)

pub returns-else-is_location : goal.returns-else-is_location
returns-else-is_location c = other_by c.args.text.now false (sym c.if-is_location.false ∙ c.is_location.ensures)
