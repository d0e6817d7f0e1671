use Rattle.std.proofs.Common.{◌≡◌, Some, ap, sym, ◌∙◌}
use Rattle.std.specs.Prelude.{slice_get}
use Rattle.std.proofs.lemmas.Result.{IfOk-weaker}
use Rattle.gq_types.proofs.TableLemmas.{view_got}
use Rattle.gq_types.specs.Entries.{entry_view}
use Rattle.gq_types.specs.Look.{types_view}
use Rattle.gq_type_system.proofs.FaultlessLemmas.{faultless_at}
use Rattle.gq_type_system.proofs.faultless.is_faultless.Goals as goal

pub returns-in-Some : goal.returns-in-Some
returns-in-Some c =
    let es = types_view c.args.types.now in
    let entry = c.in-Some.entry.now in
    let got = c.in-Some.ensures.lookup in
    let there : slice_get es c.args.number ≡ Some (entry_view entry) = ap (λ xs. slice_get xs c.args.number) (sym c.entries.ensures) ∙ view_got c.entries.result.now c.args.number entry got.3.0 got.1 in
    IfOk-weaker c.is_untold.result _ _ (λ untold is yes. faultless_at es c.args.number (entry_view entry) there (is yes)) c.is_untold.ensures
