use Rattle.gq_reshape.proofs.OneAnswer.{offers_are_determined, one_extract, one_inline, one_remove}
use Rattle.gq_reshape.proofs.laws.offers_are_determined.Goals as goal

pub returns-clause-offers : goal.returns-clause-offers
returns-clause-offers c = offers_are_determined c.one_tree.ensures c.one_reading.ensures c.renames_are_determined.ensures

pub returns-clause-extract : goal.returns-clause-extract
returns-clause-extract c = one_extract c.one_tree.ensures c.one_reading.ensures

pub returns-clause-inline : goal.returns-clause-inline
returns-clause-inline c = one_inline c.one_tree.ensures c.one_reading.ensures

pub returns-clause-remove : goal.returns-clause-remove
returns-clause-remove c = one_remove c.one_tree.ensures c.one_reading.ensures
