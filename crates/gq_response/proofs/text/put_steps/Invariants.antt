use Rattle.std.proofs.Common.{◌≡◌, ◌++◌, map, drop}
use Rattle.std.specs.Prelude.{string_bytes}
use Rattle.gq_response.specs.Texts.{with_commas, step_text}
use Rattle.gq_response.specs.Helping.Commas.{texts_from}
use Rattle.gq_response.specs.Views.{path_view}
use Rattle.gq_response.proofs.text.put_steps.Given as goal

abbrev pub invariant-loop-i : goal.invariant-loop-i
invariant-loop-i l = string_bytes l.text ++ texts_from l.i (map step_text (path_view (drop l.i l.steps))) ≡ string_bytes l.initial.text ++ with_commas (map step_text (path_view l.steps))
