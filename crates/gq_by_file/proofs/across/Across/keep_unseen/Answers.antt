-- The covers in which nothing is seen of what changes stay.
use Rattle.std.proofs.Common.{List, subst, sym}
use Rattle.gq_rules.specs.Files.{together}
use Rattle.gq_by_file.specs.declared.covers.Cover.{Cover}
use Rattle.gq_by_file.specs.Across.{AreCovers}
use Rattle.gq_by_file.proofs.UnseenLemmas.{covers_unseen}
use Rattle.gq_by_file.proofs.across.Across.keep_unseen.Goals as goal

pub returns : goal.returns
returns c sees es us rs alike see are = record {
  names = are.names;
  clean = are.clean;
  links = are.links;
  covers = subst (λ (cs : List Cover). AreCovers (together us rs) cs) (sym c.keep_unmarked.ensures) (covers_unseen sees es us alike rs c.args.marks.now see c.args.self.now.covers.items are.covers);
}
