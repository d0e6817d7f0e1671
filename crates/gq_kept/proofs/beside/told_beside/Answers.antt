-- The two type systems are compared once: for the rules, and for the marks.
use Rattle.gq_types.specs.Entries.{entries_view}
use Rattle.gq_kept.specs.Helping.Texts.{texts_at}
use Rattle.gq_kept.proofs.UnseenLemmas.{marked_by, some_of}
use Rattle.gq_kept.proofs.beside.told_beside.Goals as goal
use Rattle.std.proofs.Common.{refl}

pub returns : goal.returns
returns c =
    let same = some_of _ c.in_ok-found.field-0 c.in-Some.found c.in-Some.is c.in_ok-found.ensures.names in
    let all = some_of _ c.in_ok-found.field-0 c.in-Some.found c.in-Some.is c.in_ok-found.ensures.objects in
    record {
      kept = c.marks.ensures.kept;
      differ = record { names = texts_at c.in-Some.found.names.items; others = same; objects = all };
      marks = λ are. marked_by (entries_view c.args.was.now) (entries_view c.args.entries.now) _ _ _ c.in-Some.found.names.items c.deref.result.now _ refl refl c.deref.ensures.value same (c.in_ok-marks.ensures.marks are);
    }
