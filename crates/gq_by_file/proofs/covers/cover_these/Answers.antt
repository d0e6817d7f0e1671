-- The set of all that the files lead to has these, and what is told of it.
use Rattle.std.proofs.Common.{ℕ, All, List, refl, subst, sym}
use Rattle.gq_graph.specs.Reach.{Reach, row}
use Rattle.gq_document.specs.Executable.{executable_view}
use Rattle.gq_by_file.proofs.CoverLemmas.{covered_before, covered_last, covers_more, their_cover, their_faulty}
use Rattle.gq_by_file.proofs.LinkLemmas.{starts_reached}
use Rattle.gq_by_file.proofs.covers.cover_these.Goals as goal

pub returns-in_err-cover_clean-clause-kept : goal.returns-in_err-cover_clean-clause-kept
returns-in_err-cover_clean-clause-kept c holds links are =
    c.in_err-cover_clean.ensures.kept (executable_view c.args.files.executable.now) c.in_ok-led.led.items links
    (their_faulty (executable_view c.args.files.executable.now) c.args.files.rows.now links c.args.rest.now c.in_ok-led.led.items c.in_ok-led.ensures.sound c.in_ok-led.ensures.complete c.faults_of_closed_sets_are_faults.ensures
    _ c.in_ok-faults.faults.items c.in_ok-faulty.faulty.items c.in_ok-led.ensures.within c.deref.result.now c.deref.ensures.value (c.in_ok-faults.ensures (executable_view c.args.files.executable.now) c.args.files.rows.now c.args.rest.now holds links.in_range (subst (λ (ns : List ℕ). All (λ n. Reach c.args.rest.now (row c.args.files.rows.now) n) ns) (sym c.deref.ensures.value) c.in_ok-led.ensures.sound)) c.deref-2.result.now c.deref-2.ensures.value c.in_ok-faulty.ensures
    c.deref-3.result.now c.deref-3.ensures.value)
    c.in_ok-led.ensures.complete are

pub returns-in_err-push-clause-kept : goal.returns-in_err-push-clause-kept
returns-in_err-push-clause-kept c holds links are =
    rw c.in_err-push.ensures.items
    (c.in_ok-cover_clean.ensures.kept (executable_view c.args.files.executable.now) c.in_ok-led.led.items links
    (their_faulty (executable_view c.args.files.executable.now) c.args.files.rows.now links c.args.rest.now c.in_ok-led.led.items c.in_ok-led.ensures.sound c.in_ok-led.ensures.complete c.faults_of_closed_sets_are_faults.ensures
    _ c.in_ok-faults.faults.items c.in_ok-faulty.faulty.items c.in_ok-led.ensures.within c.deref.result.now c.deref.ensures.value (c.in_ok-faults.ensures (executable_view c.args.files.executable.now) c.args.files.rows.now c.args.rest.now holds links.in_range (subst (λ (ns : List ℕ). All (λ n. Reach c.args.rest.now (row c.args.files.rows.now) n) ns) (sym c.deref.ensures.value) c.in_ok-led.ensures.sound)) c.deref-2.result.now c.deref-2.ensures.value c.in_ok-faulty.ensures
    c.deref-3.result.now c.deref-3.ensures.value)
    c.in_ok-led.ensures.complete are)

pub returns-in_err-push-clause-old : goal.returns-in_err-push-clause-old
returns-in_err-push-clause-old c n h = rw c.in_err-push.ensures.items (c.in_ok-cover_clean.ensures.old n h)

pub returns-clause-kept : goal.returns-clause-kept
returns-clause-kept c holds links are =
    rw c.in_ok-push.ensures.items
    (covers_more (executable_view c.args.files.executable.now) c.cover_clean.new.covers.items _
    (c.in_ok-cover_clean.ensures.kept (executable_view c.args.files.executable.now) c.in_ok-led.led.items links
    (their_faulty (executable_view c.args.files.executable.now) c.args.files.rows.now links c.args.rest.now c.in_ok-led.led.items c.in_ok-led.ensures.sound c.in_ok-led.ensures.complete c.faults_of_closed_sets_are_faults.ensures
    _ c.in_ok-faults.faults.items c.in_ok-faulty.faulty.items c.in_ok-led.ensures.within c.deref.result.now c.deref.ensures.value (c.in_ok-faults.ensures (executable_view c.args.files.executable.now) c.args.files.rows.now c.args.rest.now holds links.in_range (subst (λ (ns : List ℕ). All (λ n. Reach c.args.rest.now (row c.args.files.rows.now) n) ns) (sym c.deref.ensures.value) c.in_ok-led.ensures.sound)) c.deref-2.result.now c.deref-2.ensures.value c.in_ok-faulty.ensures
    c.deref-3.result.now c.deref-3.ensures.value)
    c.in_ok-led.ensures.complete are)
    (their_cover (executable_view c.args.files.executable.now) c.args.files.rows.now links c.args.rest.now c.in_ok-led.led.items c.in_ok-led.ensures.sound c.in_ok-led.ensures.complete _ refl c.deref.result.now c.deref.ensures.value
    (c.in_ok-faults.ensures (executable_view c.args.files.executable.now) c.args.files.rows.now c.args.rest.now holds links.in_range (subst (λ (ns : List ℕ). All (λ n. Reach c.args.rest.now (row c.args.files.rows.now) n) ns) (sym c.deref.ensures.value) c.in_ok-led.ensures.sound))))

pub returns-clause-old : goal.returns-clause-old
returns-clause-old c n h = rw c.in_ok-push.ensures.items (covered_before c.cover_clean.new.covers.items _ n (c.in_ok-cover_clean.ensures.old n h))

pub returns-clause-rest : goal.returns-clause-rest
returns-clause-rest c n h = rw c.in_ok-push.ensures.items (covered_last c.cover_clean.new.covers.items _ n (starts_reached c.args.files.rows.now c.args.rest.now c.in_ok-led.led.items c.in_ok-led.ensures.complete n h))
