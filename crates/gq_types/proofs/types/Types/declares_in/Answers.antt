use Rattle.std.proofs.Common.{sym, ◌∙◌}
use Rattle.gq_types.specs.Look.{types_view, joined_numbers}
use Rattle.gq_types.specs.Helping.Tables.{lists_in, parts_at}
use Rattle.gq_types.proofs.PartLookups.{interface_is}
use Rattle.gq_types.proofs.PastLast.{no_interface}
use Rattle.gq_types.proofs.types.Types.declares_in.Goals as goal

pub returns-in-Some : goal.returns-in-Some
returns-in-Some c = c.contains.ensures ∙ interface_is (types_view c.args.self.now) c.args.interface.now c.args.number (lists_in c.in-Some.parts.now) c.in-Some.ensures

pub returns-in-None : goal.returns-in-None
returns-in-None c =
    let es = types_view c.args.self.now in
    sym (no_interface es c.args.number c.args.interface.now (parts_at es (joined_numbers es c.args.number)) c.in-None.ensures)
