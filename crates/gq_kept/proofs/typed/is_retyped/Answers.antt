-- Neither defines types, so the type system stays as it is.
use Rattle.std.proofs.Common.{◌≡◌, false, rules}
use Rattle.gq_kept.proofs.TypesLemmas.{types_alike, system_replaced}
use Rattle.gq_kept.proofs.typed.is_retyped.Goals as goal

pub returns-else-has_types-clause-types : goal.returns-else-has_types-clause-types
returns-else-has_types-clause-types c none typed types =
    let new : c.has_types.result ≡ false = search rules in
    types_alike c.args.readings.now c.args.at c.index-readings-at.result c.args.reading.now typed c.index-readings-at.is (c.has_types-else-has_types.ensures none) (c.has_types.ensures new) types

pub returns-else-has_types-clause-stays : goal.returns-else-has_types-clause-stays
returns-else-has_types-clause-stays c none =
    let new : c.has_types.result ≡ false = search rules in
    system_replaced c.args.readings.now c.args.at c.index-readings-at.result c.args.reading.now c.index-readings-at.is (c.has_types-else-has_types.ensures none) (c.has_types.ensures new)
