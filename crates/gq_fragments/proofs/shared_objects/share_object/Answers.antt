use Rattle.std.proofs.Common.{ap, ◌∙◌}
use Rattle.std.specs.List.{list_any}
use Rattle.gq_types.specs.Look.{types_view}
use Rattle.gq_types.specs.LookUps.{texts_of}
use Rattle.gq_types.specs.SubtypesTests.{is_possible}
use Rattle.gq_fragments.proofs.SharedLemmas.{by_first, by_second}
use Rattle.gq_fragments.proofs.shared_objects.share_object.Goals as goal

pub returns-then-extent : goal.returns-then-extent
returns-then-extent c =
    let es = types_view c.args.types.now in
    c.is_one_possible.ensures ∙ ap (λ objects. list_any (is_possible es c.args.one.now) (texts_of objects)) c.deref.ensures.value
    ∙ by_second es c.args.one.now c.args.other.now (texts_of c.in_ok-objects.objects.items) c.in_ok-objects.ensures.all

pub returns : goal.returns
returns c =
    let es = types_view c.args.types.now in
    c.is_one_possible-2.ensures ∙ ap (λ objects. list_any (is_possible es c.args.other.now) (texts_of objects)) c.deref-2.ensures.value
    ∙ by_first es c.args.one.now c.args.other.now (texts_of c.in_ok-objects-2.objects.items) c.in_ok-objects-2.ensures.all
