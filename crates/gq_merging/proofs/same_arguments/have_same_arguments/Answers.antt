use Rattle.std.proofs.Common.{refl}
use Rattle.gq_merging.proofs.SamenessLemmas.{same_when_erased}
use Rattle.gq_merging.proofs.same_arguments.have_same_arguments.Goals as goal

pub returns-then-are_same_arguments : goal.returns-then-are_same_arguments
returns-then-are_same_arguments c = ((λ t. same_when_erased c.args.left.now c.args.right.now (c.are_same_arguments.ensures.0 c.if-are_same_arguments.true)), (λ h. refl))
