use Rattle.std.proofs.Common.{◌≡◌, inr, ℕ, ◌^◌, List, [], refl, arith}
use Rattle.gq_events.specs.Rules.{Turn}
use Rattle.gq_desk.specs.Standing.{StandsFor}
use Rattle.gq_desk.specs.Driving.{Fails, events_max}
use Rattle.gq_desk.proofs.Drives.{of_fault, going_first, ends_at, stops_at, fails_at, going_on, too_many, has_state, next_kept, takes_on}
use Rattle.gq_desk.proofs.driving.drive_on.Goals as goal

pub loop-taken-init : goal.loop-taken-init
loop-taken-init g c = record {
  can = c.requires.can;
  next = c.requires.next;
  works = c.requires.works;
  stands = c.requires.stands;
  taken = ([], refl, refl);
  going = λ workers earlier st. going_first g.I.Iterator.next_gives g.H.Hands.takes workers earlier _ _ _ _ st;
}

pub returns-in_default-clause-ok : goal.returns-in_default-clause-ok
returns-in_default-clause-ok g c = λ workers earlier st.
    ends_at g.I.Iterator.next_gives g.H.Hands.takes g.H.Hands.refuses c.know_laws.ensures workers earlier _ _ _ _ _ _ _ _ (c.loop-taken.invariant.going workers earlier st) st.answered (omega arith) _ c.in_default.ensures.steps

pub returns-in_err-status-clause-err : goal.returns-in_err-status-clause-err
returns-in_err-status-clause-err g c =
    let h = c.args.hands.now in
    let held = g.W.Sink.held c.args.writer.now in
    let h' = c.take_turn.new.hands in
    let held' = g.W.Sink.held c.take_turn.new.writer in
    of_fault (λ fault. (workers : ℕ) (earlier : List Turn) → StandsFor workers earlier c.args.desk.now → Fails g.I.Iterator.next_gives g.H.Hands.takes g.H.Hands.refuses workers earlier c.args.events.now h held c.next_event.new.events c.take_turn.new.desk h' held' fault) c.from_residual.result c.in_err-status.field-0.0 c.from_residual.ensures.1
    (λ workers earlier st.
    fails_at g.I.Iterator.next_gives g.H.Hands.takes g.H.Hands.refuses c.know_laws.ensures workers earlier _ _ _ _ _ _ _ _ (c.loop-taken.invariant.going workers earlier st) st.answered c.in-Some.event _ _ _ _ c.in_err-status.field-0.0 c.in-Some.ensures.steps c.in_err-status.ensures.fails c.in_err-status.ensures.err)

pub returns-in-Some-2-clause-ok : goal.returns-in-Some-2-clause-ok
returns-in-Some-2-clause-ok g c = λ workers earlier st.
    stops_at g.I.Iterator.next_gives g.H.Hands.takes g.H.Hands.refuses c.know_laws.ensures workers earlier _ _ _ _ _ _ _ _ (c.loop-taken.invariant.going workers earlier st) st.answered (omega arith) c.in-Some.event _ _ _ _ _ _ c.in-Some.ensures.steps c.in_ok-status.ensures.ok c.in-Some-2.is

pub loop-taken-preserved : goal.loop-taken-preserved
loop-taken-preserved g c = record {
  can = c.in-Some.ensures.can;
  next = next_kept g.H.Hands.takes c.loop-taken.desk c.in-Some.event _ _ _ _ _ _ (2 ^ 61) c.loop-taken._taken c.in_ok-status.ensures.ok c.loop-taken.invariant.next;
  works = c.in_ok-status.ensures.flag;
  stands = λ none. has_state g.H.Hands.takes c.loop-taken.desk c.in-Some.event _ _ _ _ _ _ c.in_ok-status.ensures.ok none;
  taken = takes_on g.I.Iterator.next_gives _ c.loop-taken._taken _ c.in-Some.event _ c.loop-taken.invariant.taken c.in-Some.ensures.steps;
  going = λ workers earlier st.
      going_on g.I.Iterator.next_gives g.H.Hands.takes g.H.Hands.refuses c.know_laws.ensures workers earlier _ _ _ _ _ _ _ _ (c.loop-taken.invariant.going workers earlier st) c.in-Some.event _ _ _ _ _ c.in-Some.ensures.steps c.in_ok-status.ensures.ok c.in_default-2.is;
}

pub returns-clause-err : goal.returns-clause-err
returns-clause-err g c = λ workers earlier st.
    let all : c.loop-taken._taken ≡ events_max = omega arith in
    inr (too_many g.I.Iterator.next_gives g.H.Hands.takes g.H.Hands.refuses c.know_laws.ensures workers earlier _ _ _ _ _ _ _ _ (c.loop-taken.invariant.going workers earlier st) st.answered all)

pub returns-clause-device : goal.returns-clause-device
returns-clause-device g c = λ device.
    let all : c.loop-taken._taken ≡ events_max = omega arith in
    inr (λ workers earlier st. too_many g.I.Iterator.next_gives g.H.Hands.takes g.H.Hands.refuses c.know_laws.ensures workers earlier _ _ _ _ _ _ _ _ (c.loop-taken.invariant.going workers earlier st) st.answered all)
