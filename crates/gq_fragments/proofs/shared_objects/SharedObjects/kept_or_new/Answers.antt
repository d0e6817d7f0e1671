use Rattle.std.proofs.Common.{sym}
use Rattle.gq_types.specs.Look.{types_view}
use Rattle.gq_fragments.proofs.SharedLemmas.{is_answer, kept_after, kept_unchanged}
use Rattle.gq_fragments.proofs.shared_objects.SharedObjects.kept_or_new.Goals as goal

pub returns-in-Some-clause-shared : goal.returns-in-Some-clause-shared
returns-in-Some-clause-shared c =
    c.requires.answers c.args.numbers c.in-Some.is_shared.now (sym c.in-Some.ensures.value) c.args.one.now c.args.other.now c.requires.first c.requires.second

pub returns-in_err-insert-clause-answers : goal.returns-in_err-insert-clause-answers
returns-in_err-insert-clause-answers c = kept_unchanged (types_view c.args.types.now) c.args.self.now.answers c.insert.new.self c.requires.answers c.in_err-insert.ensures.err

pub returns-clause-answers : goal.returns-clause-answers
returns-clause-answers c =
    let es = types_view c.args.types.now in
    let answer = is_answer es c.args.one.now c.args.other.now c.args.numbers c.in_ok-is_shared.is_shared c.requires.first c.requires.second c.in_ok-is_shared.ensures in
    kept_after es c.args.self.now.answers c.insert.new.self c.args.numbers c.in_ok-is_shared.is_shared c.requires.answers answer c.in_ok-insert.ensures.updates.0
