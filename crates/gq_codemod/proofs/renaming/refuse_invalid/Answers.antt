use Rattle.std.proofs.Common.{refl, ap, subst, ◌∙◌}
use Rattle.gq_rules.specs.ValidityViews.{IsWhy}
use Rattle.gq_check.specs.declared.formats.Format.TheVariants as format
use Rattle.gq_check.specs.Formats.{printed_all}
use Rattle.gq_codemod.specs.Renames.{invalid}
use Rattle.gq_codemod.proofs.renaming.refuse_invalid.Goals as goal

pub returns-in_ok-refusal_line-in-Report-clause-ok : goal.returns-in_ok-refusal_line-in-Report-clause-ok
returns-in_ok-refusal_line-in-Report-clause-ok c documents same is_why =
    let both = subst (IsWhy documents) c.in-Report.is is_why in
    record {
      outcome = invalid c.in-Report.report.found.items;
      is_outcome = (both.1, both.0);
      output = c.in_ok-print_all-in-Report.ensures ∙ ap (λ ds. printed_all format.Text ds c.deref.result.now) same ∙ ap (printed_all format.Text documents) c.deref.ensures.value;
      error = c.in_ok-refusal_line-in-Report.ensures;
      status = refl;
      edited = c.new.ensures.items;
    }
