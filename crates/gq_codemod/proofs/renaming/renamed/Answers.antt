use Rattle.std.proofs.Common.{refl, ap, ◌∙◌}
use Rattle.gq_codemod.specs.Edits.{edit_lines}
use Rattle.gq_codemod.specs.Renames.{renamed}
use Rattle.gq_codemod.proofs.Outcomes.{texts_are}
use Rattle.gq_codemod.proofs.renaming.renamed.Goals as goal

pub to_positions-requires-clause-texts : goal.to_positions-requires-clause-texts
to_positions-requires-clause-texts c = texts_are c.args.project.now c.requires.texts

pub returns : goal.returns
returns c file new position is = record {
  outcome = renamed c.args.edit.now;
  is_outcome = is;
  output = c.in_ok-edit_lines.ensures ∙ ap edit_lines c.in_ok-by_positions.ensures;
  error = c.new.ensures.items;
  status = refl;
  edited = c.in_ok-edited_files.ensures;
}
