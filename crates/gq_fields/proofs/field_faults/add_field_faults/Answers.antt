use Rattle.std.proofs.lemmas.Result.{on_ok_weaker}
use Rattle.gq_document.specs.Executable.{executable_view}
use Rattle.gq_fields.proofs.FieldFaultLemmas.{puts_faults}
use Rattle.gq_fields.proofs.field_faults.add_field_faults.Goals as goal

pub returns : goal.returns
returns c =
    on_ok_weaker c.add_all_faults.result
    (λ is. puts_faults (executable_view c.args.executable.now) c.args.faults.now.items c.add_all_faults.new.faults.items is)
    c.add_all_faults.ensures
