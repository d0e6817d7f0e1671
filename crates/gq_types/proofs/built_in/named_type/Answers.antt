use Rattle.std.proofs.Common.{ap, ◌∙◌}
use Rattle.gq_tree.specs.Plain.{named}
use Rattle.gq_tree.proofs.Trees.{view_named}
use Rattle.gq_types.proofs.built_in.named_type.Goals as goal

pub returns : goal.returns
returns c = view_named c.in_ok-name.field-0 ∙ ap (λ n. named n) c.in_ok-name.ensures
