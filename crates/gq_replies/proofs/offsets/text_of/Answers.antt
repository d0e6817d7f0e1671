use Rattle.std.proofs.Common.{◌≡◌, ◌≤◌, ◌^◌, length, rules}
use Rattle.gq_replies.specs.Answers.{text_at}
use Rattle.gq_replies.proofs.Texts.{fits-text_at}
use Rattle.gq_replies.proofs.offsets.text_of.Goals as goal

pub returns-clause-fits : goal.returns-clause-fits
returns-clause-fits c =
    let text : c.unwrap_or.result.now ≡ text_at c.args.project.now c.args.key.now = search rules in
    rw text (fits-text_at c.args.project.now c.args.key.now c.requires)
