use Rattle.std.proofs.Common.{refl}
use Rattle.gq_codemod.specs.Renames.{denied}
use Rattle.gq_codemod.proofs.renaming.denied.Goals as goal

pub returns : goal.returns
returns c documents file new position valid answer = record {
  outcome = denied c.args.refusal;
  is_outcome = (valid, answer);
  output = c.new.ensures.items;
  error = c.in_ok-refusal_line.ensures;
  status = refl;
  edited = c.new-2.ensures.items;
}
