use Rattle.std.proofs.Common.{take}
use Rattle.gq_collect.specs.Groups.{AreGroups}
use Rattle.gq_collect.specs.Views.{asked_all}
use Rattle.gq_collect.proofs.groups.grouped.Given as goal

abbrev pub invariant-loop-field : goal.invariant-loop-field
invariant-loop-field l = AreGroups (asked_all (take l.field-index l.fields)) l.keys l.groups.items
