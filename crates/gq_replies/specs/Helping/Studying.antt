-- What is found out of a valid project for its code actions. Only contracts of private functions speak of it.
use Rattle.std.specs.Prelude.{◌≡◌}
use Rattle.gq_index.specs.Indexed.{IsIndexOfProject}
use Rattle.gq_known.specs.Known.{IsKnown}
use Rattle.gq_replies.specs.declared.code_actions.Studied.{Studied}

-- what is known is of this project, and the index too
pub record IsStudied (studied : Studied) : Type 0 where
  pub known : ∥ IsKnown studied.known ∥₁
  pub project : studied.known.project.now ≡ studied.valid.now
  pub index : ∥ IsIndexOfProject studied.valid.now studied.index.now ∥₁
