use Rattle.std.proofs.Common.{sym, ◌∙◌}
use Rattle.gq_mentions.specs.declared.target.TargetKind.TheVariants as kind
use Rattle.gq_rename.proofs.Naming.{same_texts, other_texts, by_test}
use Rattle.gq_rename.proofs.Taken.{variable_taken, variable_free}
use Rattle.gq_rename.proofs.names.variable_refusal.Goals as goal

pub returns-clause-refusal : goal.returns-clause-refusal
returns-clause-refusal c ds definition is group =
    let old = c.args.old_name.now in
    let new = c.args.new_name.now in
    by_test ds kind.Variable old definition new c.is_name.result c.eq.result c.is_defined_in.result c.first_refusal.result c.first_refusal.ensures
    c.is_name.ensures.0 c.is_name.ensures.1
    (same_texts old new c.eq.result c.eq.ensures) (other_texts old new c.eq.result c.eq.ensures)
    (λ e. variable_taken ds old definition new c.args.group.now group (sym (c.is_defined_in.ensures ds is) ∙ e))
    (λ e. variable_free ds old definition new c.args.group.now group (sym (c.is_defined_in.ensures ds is) ∙ e))
