-- What a desk stands for, from its first event on.
use Rattle.std.proofs.Common.{◌≡◌, ℕ, ◌+◌, ◌≤◌, List, [], ◌∷◌, ◌++◌, length, Option, Some, None, ap, sym, refl, ◌∙◌, subst, append-nil, arith}
use Rattle.gq_events.specs.declared.event.Event.{Event}
use Rattle.gq_events.specs.declared.event.Out.{Out}
use Rattle.gq_events.specs.Rules.{Turn}
use Rattle.gq_events.specs.History.{outputs_behind}
use Rattle.gq_events.specs.Machine.{State, Steps, FitsTurn, start, after, writes, reached}
use Rattle.gq_events.proofs.Behind.{reached-append, FitsRun-append, steps_tell_history, answered_all, fits_all, next_reached}
use Rattle.gq_desk.specs.Standing.{AreAnswered, StandsFor, StepsOn}
use Rattle.gq_desk.specs.Laws.{NewDesksStandForNone, StepsLeadOn, NumbersStayLow}

none_answered : (workers : ℕ) → AreAnswered workers []
none_answered workers j h = absurd (omega arith)

pub new_desks_stand_for_none : NewDesksStandForNone
new_desks_stand_for_none workers = record { reached_by = refl; answered = none_answered workers }

-- as a function reads it
pub stands_new : (workers : ℕ) (desk : Option State) → desk ≡ Some (start workers) → StandsFor workers [] desk
stands_new workers desk is = subst (StandsFor workers []) (sym is) (new_desks_stand_for_none workers)

module _ (workers : ℕ) (earlier : List Turn) (answered : AreAnswered workers earlier) where
  abbrev here : State
  here = reached (start workers) earlier

  further : (turn : Turn) → FitsTurn here turn → AreAnswered workers (earlier ++ turn ∷ [])
  further turn f = answered_all workers (earlier ++ turn ∷ []) (FitsRun-append (start workers) earlier (turn ∷ []) (fits_all workers earlier answered) (f, tt))

  leads : (turn : Turn) → after here turn ≡ reached (start workers) (earlier ++ turn ∷ [])
  leads turn = sym (reached-append (start workers) earlier (turn ∷ []))

  tells : (turn : Turn) → writes here turn ≡ outputs_behind workers earlier (turn ∷ [])
  tells turn = sym (append-nil (writes here turn)) ∙ steps_tell_history workers earlier (turn ∷ [])

  stepped : (s t : State) → s ≡ here → (event : Event) (outs : List Out) → Steps s event outs t → StepsOn workers earlier event outs (Some t)
  stepped s t is event outs st =
      let turn : Turn = record { event = event; text_refused = st.text_refused; answer = st.answer } in
      record {
        turn = turn;
        of = refl;
        stands = record {
          reached_by = ap Some (st.state ∙ (ap (λ (x : State). after x turn) is ∙ leads turn));
          answered = further turn (subst (λ (x : State). FitsTurn x turn) is st.fits);
        };
        puts_out = st.outputs ∙ (ap (λ (x : State). writes x turn) is ∙ tells turn);
      }

same_state : (s t : State) → Some s ≡ Some t → s ≡ t
same_state s t h = cc

pub steps_lead_on : StepsLeadOn
steps_lead_on workers earlier (Some s) event outs (Some t) st step = stepped workers earlier st.answered s t (same_state s (reached (start workers) earlier) st.reached_by) event outs step
steps_lead_on workers earlier (Some s) event outs None st step = absurd step
steps_lead_on workers earlier None event outs desk' st step = absurd step

pub numbers_stay_low : NumbersStayLow
numbers_stay_low workers turns (Some s) st =
    let same = same_state s (reached (start workers) turns) st.reached_by in
    subst (λ (x : State). x.jobs.next ≤ length turns + 1) (sym same) (let few = next_reached (start workers) turns in omega arith)
numbers_stay_low workers turns None st = absurd (let is = st.reached_by in cc)
