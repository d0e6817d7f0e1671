use Rattle.std.proofs.Common.{is_some, ap, ◌∙◌}
use Rattle.std.specs.Str.{bytes_eq}
use Rattle.gq_names.proofs.PlaceLemmas.{is_some_position}
use Rattle.gq_names.proofs.list.NameList.contains.Goals as goal

pub returns : goal.returns
returns c = c.is_some.ensures ∙ ap is_some c.place.ensures ∙ is_some_position (bytes_eq c.args.name.now) c.args.self.now
