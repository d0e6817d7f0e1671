use Rattle.std.proofs.Common.{◌∙◌}
use Rattle.gq_types.specs.Look.{types_view}
use Rattle.gq_types.specs.Helping.Tables.{lists_in}
use Rattle.gq_types.proofs.PartLookups.{member_is}
use Rattle.gq_types.proofs.types.Types.has_member.Goals as goal

pub returns-in-Some : goal.returns-in-Some
returns-in-Some c = c.contains.ensures ∙ member_is (types_view c.args.self.now) c.args.name.now (lists_in c.in-Some.parts.now) c.args.type_name.now c.in-Some.ensures
