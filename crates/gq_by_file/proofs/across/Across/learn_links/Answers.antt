-- The rows are those of the names.
use Rattle.std.proofs.Common.{inr, ap, ◌∙◌, List}
use Rattle.gq_by_file.specs.declared.names.FileNames.{FileNames}
use Rattle.gq_by_file.specs.Helping.Links.{links_among}
use Rattle.gq_by_file.proofs.LinkLemmas.{are_links}
use Rattle.gq_by_file.proofs.across.Across.learn_links.Goals as goal

pub returns-clause-kept : goal.returns-clause-kept
returns-clause-kept c es rs are = record {
  names = are.names;
  clean = are.clean;
  links = inr (λ us qs named. are_links us qs c.args.self.now.names.items c.in_ok-self.field-0.rows.items named (c.in_ok-self.ensures ∙ ap (λ (ns : List FileNames). links_among ns) c.deref.ensures.value));
  covers = are.covers;
}

pub returns-clause-links : goal.returns-clause-links
returns-clause-links c es rs are us qs named =
    are_links us qs c.args.self.now.names.items c.in_ok-self.field-0.rows.items named (c.in_ok-self.ensures ∙ ap (λ (ns : List FileNames). links_among ns) c.deref.ensures.value)
