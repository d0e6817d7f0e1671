use Rattle.gq_laws.proofs.Placing.Rules.{fragment_renames}
use Rattle.gq_laws.proofs.places.fragment_renames_keep_all_rules.Goals as goal

pub returns : goal.returns
returns c =
    let whatever = c.renames_keep_what_is_faultless.ensures in
    let law = c.fragment_renames_keep_what_is_faultless.ensures in
    fragment_renames whatever.operations whatever.fields law.fragments law.spreads law.variables law.merging
