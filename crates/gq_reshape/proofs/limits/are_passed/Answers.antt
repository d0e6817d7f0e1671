use Rattle.std.proofs.Common.{◌∙◌, ap, sym}
use Rattle.std.specs.Option.{option_copied}
use Rattle.gq_reshape.proofs.Limiting.{not_none, are_told}
use Rattle.gq_reshape.proofs.limits.are_passed.Goals as goal

pub returns-in-Some : goal.returns-in-Some
returns-in-Some c = not_none c.args.project.now c.args.edit.now (λ none. let e = sym (ap option_copied c.in-Some.is) ∙ c.first_too_large.ensures ∙ none in cc)

pub returns-in-None : goal.returns-in-None
returns-in-None c = are_told c.args.project.now c.args.edit.now c.one_passes.result (sym c.first_too_large.ensures ∙ ap option_copied c.in-None.is) c.one_passes.ensures
