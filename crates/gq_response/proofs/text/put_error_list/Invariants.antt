use Rattle.std.proofs.Common.{◌≡◌, ◌++◌, map, drop}
use Rattle.std.specs.Prelude.{string_bytes}
use Rattle.gq_response.specs.Texts.{with_commas, error_text}
use Rattle.gq_response.specs.Helping.Commas.{texts_from}
use Rattle.gq_response.specs.Views.{errors_view}
use Rattle.gq_response.proofs.text.put_error_list.Given as goal

abbrev pub invariant-loop-i : goal.invariant-loop-i
invariant-loop-i l = string_bytes l.text ++ texts_from l.i (map error_text (errors_view (drop l.i l.errors))) ≡ string_bytes l.initial.text ++ with_commas (map error_text (errors_view l.errors))
