use Rattle.std.proofs.Common.{◌≡◌, Some, true, drop, sym, ◌∙◌, ap, arith, take_all, length-drop}
use Rattle.json.specs.Json.{number as seen_number}
use Rattle.fast_float.specs.Text.{scan}
use Rattle.serde_json.specs.Data.{number, negative}
use Rattle.serde_json.specs.Read.{number_from, of_json}
use Rattle.gq_table_text.proofs.NumberLemmas.{negative_seen}
use Rattle.gq_table_text.proofs.OutcomeLemmas.{if_some_weaker}
use Rattle.gq_table_text.proofs.leaves.negative.Goals as goal

pub returns : goal.returns
returns c =
    let s = c.as_bytes-bytes.result.now in
    let parts : c.scan.result ≡ scan (drop 1 s) = c.scan.ensures.parts ∙ ap scan (take_all _ (drop 1 s) (omega (arith, length-drop 1 s))) in
    if_some_weaker c.below_zero.result
    (λ z. number_from true c.scan.result ≡ Some (negative z))
    (λ z. of_json (seen_number c.args.text.now) ≡ Some (number (negative z)))
    (λ z e. negative_seen s c.args.text.now z c.as_bytes-bytes.ensures.value c.if-bytes-ne45.false (ap (number_from true) (sym parts) ∙ e))
    c.below_zero.ensures
