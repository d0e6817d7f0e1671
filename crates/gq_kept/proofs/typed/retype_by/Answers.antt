use Rattle.std.proofs.Common.{◌≡◌, List, subst, sym}
use Rattle.gq_types.specs.Entries.{EntryOf, entries_view}
use Rattle.gq_types.specs.Look.{types_view}
use Rattle.gq_tree.specs.Readings.{readings_view}
use Rattle.gq_kept.specs.Helping.Unseen.{AreMarkedBy}
use Rattle.gq_kept.proofs.UnseenLemmas.{some_of}
use Rattle.gq_kept.proofs.typed.retype_by.Goals as goal

pub returns-clause-marks : goal.returns-clause-marks
returns-clause-marks c are =
    let told = some_of _ c.in_ok-beside.field-0 c.in-Some.beside c.in-Some.is c.in_ok-beside.ensures.marks are in
    let given : entries_view c.deref.result.now ≡ types_view c.retype_beside.new.typed.types = rw c.deref.ensures.value (sym c.in_ok-was-2.ensures.types) in
    subst (λ (es : List EntryOf). AreMarkedBy es (types_view c.retype_beside.new.typed.types) (readings_view c.args.readings.now) c.in-Some.beside.marks.items) c.entries.ensures
    (subst (λ (us : List EntryOf). AreMarkedBy (entries_view c.entries.result.now) us (readings_view c.args.readings.now) c.in-Some.beside.marks.items) given told)
