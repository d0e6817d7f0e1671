use Rattle.std.proofs.Common.{ℕ, List, Vec, ◌++◌, codes, refl, ap, ◌∙◌}
use Rattle.std.specs.declared.alloc.Global.{Global}
use Rattle.gq_response.specs.Views.{response_view}
use Rattle.gq_check.proofs.executing.response_of.Goals as goal

pub returns : goal.returns
returns c = record {
  response = response_view c.in_ok-response.response;
  valid = c.project-project.ensures.valid;
  executed = c.in_ok-response.ensures;
  text = ap (λ (bytes : Vec ℕ Global). bytes.items) c.into_bytes.ensures.value ∙ c.in_ok-push_str.ensures.bytes ∙ ap (λ (t : List ℕ). t ++ codes "\n") c.in_ok-text.ensures;
  status = refl;
}
