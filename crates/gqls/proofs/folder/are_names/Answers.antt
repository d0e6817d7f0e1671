use Rattle.std.proofs.Common.{rules}
use Rattle.std.proofs.lemmas.Iterator.Search.{all_from_yields_List}
use Rattle.std.proofs.lemmas.Iterator.Splits.{YieldsList-from_slice_split}
use Rattle.gq_rpc.specs.Keys.{is_slash}
use Rattle.gqls.specs.Helping.Folder.{is_name}
use Rattle.gqls.proofs.folder.are_names.Goals as goal

pub returns : goal.returns
returns c =
    all_from_yields_List is_name _ _ _ c.all.ensures.ran
    (YieldsList-from_slice_split _ is_slash c.args.parts.now c.split.ensures.rest c.split.ensures.done c.split.ensures.closure (λ x b q k. search (rules, k)))
    (λ x b q k. search (rules, k))
