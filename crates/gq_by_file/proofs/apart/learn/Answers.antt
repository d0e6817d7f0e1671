-- The links are those of the names.
use Rattle.std.proofs.Common.{◌∙◌, List, ap}
use Rattle.gq_by_file.specs.declared.names.FileNames.{FileNames}
use Rattle.gq_by_file.specs.Helping.Links.{links_among}
use Rattle.gq_by_file.proofs.apart.learn.Goals as goal

pub returns : goal.returns
returns c = record {
  names = c.in_ok-names.ensures;
  links = c.in_ok-links.ensures ∙ ap (λ (ns : List FileNames). links_among ns) c.deref.ensures.value;
}
