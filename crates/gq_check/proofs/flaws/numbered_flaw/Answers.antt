use Rattle.serde_json.specs.View.{view}
use Rattle.gq_check.proofs.FormLemmas.{numbered-joined}
use Rattle.gq_check.proofs.flaws.numbered_flaw.Goals as goal

pub returns : goal.returns
returns c = numbered-joined c.args.number (view c.args.row.now) _ _ c.row_flaw-flaw.ensures c.in_ok-text.ensures.ok
