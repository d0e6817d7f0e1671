-- What contracts see of jobs, and of what workers make of them.
use Rattle.std.specs.Prelude.{ℕ, List}
use Rattle.gq_project.specs.declared.document.Doc.{Doc}
use Rattle.gq_events.specs.declared.event.Task.{Task}
use Rattle.gq_events.specs.declared.event.Answer.{Answer}
use Rattle.gq_events.specs.Tasks.{Answers}

-- a task under its number
pub record JobOf : Type 0 where
  pub number : ℕ
  pub task : Task

-- what a worker made of a job: the answer that is right for its task about these documents
pub record DoneOf : Type 0 where
  pub job : ℕ
  pub task : Task
  pub texts : List Doc
  pub answer : Answer
  pub fits : Answers texts task answer
