-- Each part stays.
use Rattle.gq_by_file.proofs.by_file.ByFile.keep_unmarked.Goals as goal

pub returns : goal.returns
returns c sees es us rs alike see are = record {
  owned = c.keep_own.ensures sees es us rs alike see are.owned;
  across = c.keep_unseen.ensures sees es us rs alike see are.across;
}
