use Rattle.std.proofs.Common.{sym, ◌∙◌}
use Rattle.gq_tree.specs.Views.{type_view}
use Rattle.gq_types.specs.Look.{types_view}
use Rattle.gq_types.specs.Possible.{IsSubtypeName}
use Rattle.gq_types.specs.SubtypesTests.{is_subtype_name}
use Rattle.gq_types.proofs.SubtypeLemmas.{covers_decides, subtype_name_decides}
use Rattle.gq_types.proofs.types.Types.is_subtype.Goals as goal

pub returns : goal.returns
returns c =
    let es = types_view c.args.self.now in
    let d = covers_decides (is_subtype_name es) (IsSubtypeName es) (subtype_name_decides es) (type_view c.args.sub.now) (type_view c.args.super_type.now) in
    (λ h. d.0 (sym c.type_covers.ensures ∙ h), λ h. c.type_covers.ensures ∙ d.1 h)
