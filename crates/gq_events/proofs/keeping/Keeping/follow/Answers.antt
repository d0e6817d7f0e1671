-- A change leaves the documents of other keys as they are.
use Rattle.std.proofs.Common.{◌∙◌, sym, subst}
use Rattle.gq_events.specs.declared.effect.Effect.{Effect}
use Rattle.gq_events.specs.Documents.{docs_of, key_of, changed, with_changed}
use Rattle.gq_events.specs.Keeping.{IsKeptOf}
use Rattle.gq_events.specs.Rules.{changed_by, session_after}
use Rattle.gq_events.proofs.Elsewhere.{others_stay}
use Rattle.gq_events.proofs.keeping.Keeping.follow.Goals as goal

pub returns-in-Changes : goal.returns-in-Changes
returns-in-Changes c = λ s refused kept.
    let change = c.in-Changes.change in
    subst (λ (e : Effect). IsKeptOf c.note_change.new.self (docs_of (session_after s e (changed_by s e refused)).documents)) (sym c.in-Changes.is)
    (c.note_change.ensures (docs_of s.documents) (docs_of (with_changed s.documents (key_of change) (changed s.position_encoding s.documents s.behind change refused)))
    (λ other differs. others_stay s.position_encoding s.documents s.behind change refused other (λ e. differs (e ∙ sym c.key.ensures))) kept)
