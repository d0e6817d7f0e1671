use Rattle.std.proofs.lemmas.Str.Pattern.{starts_text}
use Rattle.gq_reader.proofs.files.begins.Goals as goal

pub returns : goal.returns
returns c = starts_text c.starts_with.result c.args.folder.now c.args.key.now c.starts_with.ensures.cases
