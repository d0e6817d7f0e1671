-- Only contracts of private functions speak of it.
-- How the jobs that are pending are numbered, what is written where jobs are refused, and what is left of an event once the jobs are settled.
use Rattle.std.specs.Prelude.{ℕ, Bool, List, map, flat_map}
use Rattle.gq_project.specs.declared.document.Doc.{Doc}
use Rattle.gq_rpc.specs.declared.messages.ResponseError.{ResponseError}
use Rattle.gq_events.specs.Jobs.{JobOf, DoneOf}
use Rattle.gq_events.specs.declared.event.Out.{Out}
use Rattle.gq_events.specs.declared.effect.Effect.{Effect}
use Rattle.gq_events.specs.declared.effect.Effect.TheVariants as effect
use Rattle.gq_events.specs.Rules.{refused_as, decides}
use Rattle.gq_events.specs.Laws.{AreAscending}

-- their numbers ascend from 1 on, and are below the next
abbrev pub AreNumbered : List JobOf → ℕ → Type 0
AreNumbered jobs next = AreAscending 1 (map (λ job. job.number) jobs) next

-- all of them are refused for this
abbrev pub refused_each : ResponseError → List JobOf → List Out
refused_each why jobs = flat_map (λ job. refused_as job.task why) jobs

-- what a worker made decides this job
unfoldable pub is_result_of : List Doc → DoneOf → JobOf → Bool
is_result_of docs done job = decides docs (effect.Finishes done) job

-- what a worker made is used up by the job that it decides, or by none
abbrev pub rest_of : Effect → Effect
rest_of (effect.Finishes done) = effect.Nothing
rest_of effect.Nothing = effect.Nothing
rest_of (effect.Begins id capabilities) = effect.Begins id capabilities
rest_of (effect.Refuses id why) = effect.Refuses id why
rest_of (effect.Asks id asked) = effect.Asks id asked
rest_of (effect.Changes c) = effect.Changes c
rest_of (effect.LoadsBehind load) = effect.LoadsBehind load
rest_of (effect.Cancels id) = effect.Cancels id
rest_of (effect.ShutsDown id) = effect.ShutsDown id
rest_of (effect.Stops status) = effect.Stops status
