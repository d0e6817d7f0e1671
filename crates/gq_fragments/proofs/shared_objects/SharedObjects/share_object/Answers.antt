use Rattle.std.proofs.Common.{sym, ◌∙◌}
use Rattle.gq_types.specs.Look.{types_view}
use Rattle.gq_fragments.proofs.SharedLemmas.{by_object, by_other_object}
use Rattle.gq_fragments.proofs.shared_objects.SharedObjects.share_object.Goals as goal

pub returns-then-has_kind-clause-shared : goal.returns-then-has_kind-clause-shared
returns-then-has_kind-clause-shared c =
    by_object (types_view c.args.types.now) c.args.one.now c.args.other.now c.applies.result (sym c.has_kind.ensures ∙ c.if-has_kind.true) c.applies.ensures

pub returns-then-has_kind-2-clause-shared : goal.returns-then-has_kind-2-clause-shared
returns-then-has_kind-2-clause-shared c =
    by_other_object (types_view c.args.types.now) c.args.one.now c.args.other.now c.applies-then-has_kind-2.result (sym c.has_kind-2.ensures ∙ c.if-has_kind-2.true) c.applies-then-has_kind-2.ensures
