-- one is among them where one of those is that are left
use Rattle.std.proofs.Common.{◌≡◌, drop}
use Rattle.gq_kept.specs.Helping.Selected.{meets}
use Rattle.gq_kept.specs.Helping.Texts.{texts_at}
use Rattle.gq_kept.proofs.field_names.has_one_of.Given as goal

abbrev pub invariant-loop-name : goal.invariant-loop-name
invariant-loop-name l = meets l.names (texts_at (drop l.name-index l.some)) ≡ meets l.names (texts_at l.some)
