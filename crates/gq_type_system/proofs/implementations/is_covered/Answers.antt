use Rattle.std.proofs.lemmas.Bool.Decides.{same_from_decides}
use Rattle.gq_tree.specs.Views.{type_view}
use Rattle.gq_types.specs.Look.{types_view}
use Rattle.gq_types.specs.Subtypes.{MayBeSubtypeName}
use Rattle.gq_types.specs.SubtypesTests.{covers, may_be_subtype_name}
use Rattle.gq_types.proofs.SubtypeLemmas.{covers_decides, may_be_subtype_name_decides}
use Rattle.gq_type_system.proofs.implementations.is_covered.Goals as goal

pub returns : goal.returns
returns c =
    let es = types_view c.args.types.now in
    let sub = type_view c.args.sub.now in
    let super = type_view c.args.super_type.now in
    same_from_decides c.may_be_subtype.result (covers (may_be_subtype_name es) sub super) (c.may_be_subtype.ensures.0, c.may_be_subtype.ensures.1)
    (covers_decides (may_be_subtype_name es) (MayBeSubtypeName es) (may_be_subtype_name_decides es) sub super)
