use Rattle.std.proofs.Common.{sym, ◌∙◌}
use Rattle.gq_mentions.specs.declared.target.TargetKind.TheVariants as kind
use Rattle.gq_rename.proofs.Naming.{first_of, same_texts, other_texts, is_empty_list, is_some_list}
use Rattle.gq_rename.proofs.Taken.{fragment_taken, fragment_free}
use Rattle.gq_rename.proofs.names.fragment_refusal.Goals as goal

pub returns-clause-refusal : goal.returns-clause-refusal
returns-clause-refusal c ds definition is =
    let old = c.args.old_name.now in
    let new = c.args.new_name.now in
    first_of ds kind.Fragment old definition new c.is_fragment_name.result c.eq.result c.is_empty.result c.first_refusal.result c.first_refusal.ensures
    c.is_fragment_name.ensures.0 c.is_fragment_name.ensures.1
    (same_texts old new c.eq.result c.eq.ensures) (other_texts old new c.eq.result c.eq.ensures)
    (λ e. fragment_taken ds new (λ none. is_some_list c.definitions.result.now c.is_empty.result c.is_empty.ensures e (c.definitions.ensures ds is ∙ none)))
    (λ e. fragment_free ds new (sym (c.definitions.ensures ds is) ∙ is_empty_list c.definitions.result.now c.is_empty.result c.is_empty.ensures e))
