use Rattle.std.proofs.lemmas.Str.Pattern.{starts_text}
use Rattle.gq_replies.proofs.code_actions.starts.Goals as goal

pub returns : goal.returns
returns c = starts_text c.starts_with.result c.args.entry.now c.args.name.now c.starts_with.ensures.cases
