use Rattle.std.proofs.Common.{codes}
use Rattle.std.proofs.lemmas.Str.Pattern.{starts_text}
use Rattle.gq_type_system.proofs.reserved_name.is_reserved.Goals as goal

pub returns : goal.returns
returns c = starts_text c.starts_with.result (codes "__") c.args.text.now c.starts_with.ensures.cases
