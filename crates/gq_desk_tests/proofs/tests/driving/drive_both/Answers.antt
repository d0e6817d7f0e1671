use Rattle.std.proofs.Common.{◌≡◌, inl, inr, ℕ, ◌+◌, ◌≤◌, ◌^◌, List, [], length, Option, Some, None, Result, Ok, Err, IfOk, IfErr, IfSome, sym, subst, arith}
use Rattle.gq_events.specs.declared.event.Event.{Event}
use Rattle.gq_events.specs.Rules.{Turn}
use Rattle.gq_events.specs.Laws.{Handing}
use Rattle.gq_events.specs.Machine.{State}
use Rattle.gq_desk.specs.declared.driving.DriveFault.{DriveFault}
use Rattle.gq_desk.specs.Standing.{StandsFor}
use Rattle.gq_desk.specs.Driving.{Drives, Fails, events_max}
use Rattle.gq_desk.specs.Laws.{NumbersStayLow}
use Rattle.gq_desk_tests.proofs.tests.driving.drive_both.Goals as goal

few : (desk : Option State) (turns : List Turn) → IfSome desk (λ s. s.jobs.next ≤ length turns + 1) → length turns ≤ events_max → IfSome desk (λ s. s.jobs.next ≤ 2 ^ 61)
few None turns h within = tt
few (Some s) turns h within = let low : s.jobs.next ≤ length turns + 1 = h in omega arith

-- a desk that was driven can be driven on
module _ {S H : Type 0} (law : NumbersStayLow) (steps : S → Option Event → S → Type 0) (takes refuses : H → Handing → H → Type 0) (workers : ℕ) (desk desk' : Option State) (st : StandsFor workers [] desk)
    (it it' : S) (h h' : H) (held held' : Option (List ℕ)) where
  at_fault : (fault : DriveFault) → Fails steps takes refuses workers [] it h held it' desk' h' held' fault → IfSome desk' (λ s. s.jobs.next ≤ 2 ^ 61)
  at_fault fault (inl f) = subst (λ (d : Option State). IfSome d (λ s. s.jobs.next ≤ 2 ^ 61)) (sym f.failed) tt
  at_fault fault (inr t) = few desk' t.turns (law workers t.turns desk' t.stands) (let many : length t.turns ≡ events_max = t.many in omega arith)

  again : (r : Result ℕ DriveFault)
      → IfOk r (λ status. (workers : ℕ) (earlier : List Turn) → StandsFor workers earlier desk → Drives steps takes workers earlier it h held it' desk' h' held' status)
      → IfErr r (λ fault. (workers : ℕ) (earlier : List Turn) → StandsFor workers earlier desk → Fails steps takes refuses workers earlier it h held it' desk' h' held' fault)
      → IfSome desk' (λ s. s.jobs.next ≤ 2 ^ 61)
  again (Ok status) ok err = let d = ok workers [] st in few desk' d.turns (law workers d.turns desk' d.stands) d.few
  again (Err fault) ok err = at_fault fault (err workers [] st)

pub drive-early-requires-clause-next : goal.drive-early-requires-clause-next
drive-early-requires-clause-next c = few c.args.desk.now [] (c.numbers_stay_low.ensures 2 [] c.args.desk.now c.requires) (omega arith)

pub drive-ended-requires-clause-next : goal.drive-ended-requires-clause-next
drive-ended-requires-clause-next c =
    again c.numbers_stay_low.ensures _ _ _ 2 _ _ c.requires _ _ _ _ _ _ c.drive-early.result c.drive-early.ensures.ok c.drive-early.ensures.err
