use Rattle.std.proofs.Common.{◌≡◌, ◌≤◌, ◌^◌, length, arith}
use Rattle.std.proofs.lemmas.Grind.{common_steps}
use Rattle.gq_text.specs.Bytes.{spliced}
use Rattle.gq_text.proofs.Splices.{IsText-spliced, length-spliced}
use Rattle.gq_text.proofs.text.Text.splice.Goals as goal

pub invariant_of-self-2 : goal.invariant_of-self-2
invariant_of-self-2 g c =
    let t = c.args.self.now in
    let is : g.B.Bytes.contents c.remove.new.self ≡ spliced t c.args.span.start c.args.span.end c.args.text.now = grind (arith, common_steps) in
    let fits : length (spliced t c.args.span.start c.args.span.end c.args.text.now) ≤ 2 ^ 22 =
    omega (arith, length-spliced t c.args.text.now c.args.span.start c.args.span.end c.requires.ordered c.requires.end.0) in
    rw is (IsText-spliced t c.args.text.now c.args.span.start c.args.span.end c.len.ensures.text c.requires.start c.requires.end c.utf8.text fits)
