use Rattle.std.proofs.Common.{ap, sym, ◌∙◌, refl}
use Rattle.std.specs.Option.{option_map}
use Rattle.gq_table.specs.Views.{answer_view, rows_view, call_of}
use Rattle.gq_table.proofs.IndexLemmas.{among_here, among_later}
use Rattle.gq_table.proofs.index.result_among.Goals as goal

pub returns-in-Some : goal.returns-in-Some
returns-in-Some c =
    among_here (rows_view c.args.rows.now) (call_of c.args.call) c.args.numbers.now c.loop-number.number-index _ _ _ c.loop-number-test.true refl (sym (ap (option_map (λ r. answer_view r.now)) c.in-Some.is) ∙ c.result_at.ensures) c.loop-number.invariant

pub loop-number-preserved : goal.loop-number-preserved
loop-number-preserved c =
    among_later (rows_view c.args.rows.now) (call_of c.args.call) c.args.numbers.now c.loop-number.number-index _ _ c.loop-number-test.true refl (sym (ap (option_map (λ r. answer_view r.now)) c.in-None.is) ∙ c.result_at.ensures) c.loop-number.invariant
