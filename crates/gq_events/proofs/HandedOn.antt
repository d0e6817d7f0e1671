-- What is handed on in a step.
use Rattle.std.proofs.Common.{◌≡◌, ℕ, Bool, true, false, cond, ◌==◌, List, [], ◌∷◌, ◌++◌, map, Option, Some, None, ap, refl, ◌∙◌}
use Rattle.std.specs.Prelude.{filter, flat_map, option_map, option_to_list}
use Rattle.std.proofs.lemmas.Grind.{flat_map-append}
use Rattle.gq_project.specs.declared.document.DocChange.{DocChange}
use Rattle.gq_rpc.specs.declared.messages.Id.{Id}
use Rattle.gq_rpc.specs.declared.messages.ResponseError.{ResponseError}
use Rattle.gq_rpc.specs.declared.messages.Outgoing.{Outgoing}
use Rattle.gq_events.specs.declared.documents.SessionDocument.{SessionDocument}
use Rattle.gq_events.specs.declared.event.Task.{Task}
use Rattle.gq_events.specs.declared.event.Task.TheVariants as task
use Rattle.gq_events.specs.Jobs.{JobOf}
use Rattle.gq_events.specs.declared.event.Answer.{Answer}
use Rattle.gq_events.specs.declared.event.Answer.TheVariants as answer
use Rattle.gq_events.specs.declared.event.Out.{Out}
use Rattle.gq_events.specs.declared.event.Out.TheVariants as out
use Rattle.gq_events.specs.declared.refusals.Denial.{Denial}
use Rattle.gq_events.specs.declared.effect.Change.{Change}
use Rattle.gq_events.specs.declared.effect.Change.TheVariants as change
use Rattle.gq_events.specs.declared.effect.Effect.{Effect}
use Rattle.gq_events.specs.declared.effect.Effect.TheVariants as effect
use Rattle.gq_events.specs.Documents.{document_at, key_of, published}
use Rattle.gq_events.specs.Rules.{Session, refused_as, answered, verdict, denied_with, nothing_wrong, cleared, shown, own, answer_to}
use Rattle.gq_events.specs.History.{Asked, is_decided_at, session_at, effect_at, changed_at, asked_before, denied_at, handed_at, handed_before, decided_at, at_once}
use Rattle.gq_events.specs.Laws.{Handing, Published, Given, handing_of, handings, published_by, HandedOnInItsStep, NothingIsHandedToNone}
use Rattle.gq_events.proofs.Alone.{handed_none}

-- outputs of which nothing is handed on
abbrev IsWritten : List Out → Type 0
IsWritten outs = handings outs ≡ []

refused_as_written : (t : Task) (why : ResponseError) → IsWritten (refused_as t why)
refused_as_written (task.Ask encoding id q) why = refl
refused_as_written (task.Check encoding) why = refl

messages_written : (messages : List Outgoing) → IsWritten (map out.Notify messages)
messages_written [] = refl
messages_written (m ∷ messages) = messages_written messages

answered_written : (t : Task) (a : Answer) → IsWritten (answered t a)
answered_written t (answer.Response message) = refl
answered_written t (answer.Report messages) = messages_written messages
answered_written t answer.NoMemory = refused_as_written t _
answered_written t answer.Superseded = refl

verdict_written : (e : Effect) (job : JobOf) → IsWritten (verdict e job)
verdict_written (effect.Changes c) job = refused_as_written job.task _
verdict_written (effect.ShutsDown id) job = refused_as_written job.task _
verdict_written (effect.Cancels id) job = refused_as_written job.task _
verdict_written (effect.Finishes done) job = answered_written job.task done.answer
verdict_written effect.Nothing job = refl
verdict_written (effect.LoadsBehind load) job = refl
verdict_written (effect.Begins id capabilities) job = refl
verdict_written (effect.Refuses id why) job = refl
verdict_written (effect.Asks id asked) job = refl
verdict_written (effect.Stops status) job = refl

all_written : {X : Type 0} (f : X → List Out) → ((x : X) → IsWritten (f x)) → (xs : List X) → IsWritten (flat_map f xs)
all_written f h [] = refl
all_written f h (x ∷ xs) = flat_map-append handing_of (f x) (flat_map f xs) ∙ (ap (λ (l : List Handing). l ++ handings (flat_map f xs)) (h x) ∙ all_written f h xs)

denied_written : (id : Id) (denied : Option Denial) → IsWritten (denied_with id denied)
denied_written id None = refl
denied_written id (Some how) = refl

shown_handed : (none : Bool) (c : DocChange) → handings (cond none [] (out.Publish c ∷ [])) ≡ cond none [] (Published c ∷ [])
shown_handed true c = refl
shown_handed false c = refl

nothing_wrong_handed : (document : Option SessionDocument) (outs : List Out) → handings (option_to_list (option_map nothing_wrong document) ++ outs) ≡ handings outs
nothing_wrong_handed None outs = refl
nothing_wrong_handed (Some document) outs = refl

change_handed : (diagnostics : Bool) (documents : List SessionDocument) (c : Change) (outs : List Out) → handings (cond diagnostics (cleared documents c) [] ++ outs) ≡ handings outs
change_handed true documents (change.Open item) outs = refl
change_handed true documents (change.Edit params) outs = refl
change_handed true documents (change.Load load) outs = refl
change_handed true documents (change.Close key) outs = nothing_wrong_handed (document_at key documents) outs
change_handed false documents c outs = refl

-- nothing, whether there are workers or not
abbrev nothing : List Handing
nothing = []

none_handed : (none : Bool) → nothing ≡ cond none nothing nothing
none_handed true = refl
none_handed false = refl

own_handed : (workers : ℕ) (s : Session) (denied : Option Denial) (e : Effect) (document : Option SessionDocument) → handings (own workers s denied e document) ≡ cond (workers == 0) [] (published_by e document)
own_handed workers s denied (effect.Changes c) document =
    change_handed s.diagnostics s.documents c (shown workers (published (key_of c) document)) ∙ shown_handed (workers == 0) (published (key_of c) document)
own_handed workers s denied (effect.Asks id asked) document = denied_written id denied ∙ none_handed (workers == 0)
own_handed workers s denied (effect.Begins id capabilities) document = none_handed (workers == 0)
own_handed workers s denied (effect.Refuses id why) document = none_handed (workers == 0)
own_handed workers s denied (effect.ShutsDown id) document = none_handed (workers == 0)
own_handed workers s denied (effect.Stops status) document = none_handed (workers == 0)
own_handed workers s denied effect.Nothing document = none_handed (workers == 0)
own_handed workers s denied (effect.LoadsBehind load) document = none_handed (workers == 0)
own_handed workers s denied (effect.Cancels id) document = none_handed (workers == 0)
own_handed workers s denied (effect.Finishes done) document = none_handed (workers == 0)

once_written : (alone : Bool) (t : Option Task) (a : Answer) → IsWritten (cond alone (answer_to t a) [])
once_written true None a = refl
once_written true (Some t) a = answered_written t a
once_written false t a = refl

jobs_handed : (jobs : List JobOf) → handings (map out.Job jobs) ≡ map Given jobs
jobs_handed [] = refl
jobs_handed (job ∷ jobs) = ap (λ (l : List Handing). Given job ∷ l) (jobs_handed jobs)

joined : (a b c d : List Out) (p q : List Handing) → IsWritten a → handings b ≡ p → IsWritten c → handings d ≡ q → handings (a ++ b ++ (c ++ d)) ≡ p ++ q
joined a b c d p q ha hb hc hd =
    flat_map-append handing_of (a ++ b) (c ++ d)
    ∙ (ap (λ (l : List Handing). l ++ handings (c ++ d)) (flat_map-append handing_of a b ∙ (ap (λ (l : List Handing). l ++ handings b) ha ∙ hb))
    ∙ ap (λ (l : List Handing). p ++ l) (flat_map-append handing_of c d ∙ (ap (λ (l : List Handing). l ++ handings d) hc ∙ hd)))

pub handed_on_in_its_step : HandedOnInItsStep
handed_on_in_its_step workers events j =
    joined (decided_at workers events j) (own workers (session_at events j) (denied_at events j (asked_before workers events j)) (effect_at events j) (changed_at events j)) (at_once workers events j)
    (map out.Job (handed_at workers events j (handed_before workers events j))) _ _
    (all_written {X = Asked} (λ a. verdict (effect_at events j) a.job) (λ a. verdict_written (effect_at events j) a.job) (filter (is_decided_at events j) (asked_before workers events j)))
    (own_handed workers (session_at events j) _ (effect_at events j) _) (once_written (workers == 0) _ _) (jobs_handed _)

pub nothing_is_handed_to_none : NothingIsHandedToNone
nothing_is_handed_to_none events j = handed_on_in_its_step 0 events j ∙ ap (map Given) (handed_none events j (handed_before 0 events j))
