use Rattle.gq_collect.specs.Views.{asked_all}
use Rattle.gq_meaning.specs.Response.{of_key}
use Rattle.std.proofs.Common.{take}
use Rattle.gq_collect.proofs.GroupLemmas.{same_length}
use Rattle.gq_collect.proofs.groups.grouped.Goals as goal

pub put-requires : goal.put-requires
put-requires c = same_length (λ g. asked_all g.items) (λ k. of_key k (asked_all (take c.loop-field.field-index c.args.fields.now))) _ _ c.loop-field.invariant.groups_are
