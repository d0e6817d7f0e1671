use Rattle.std.specs.Vec.{vec_len}
use Rattle.std.proofs.Common.{rules, ◌≡◌, length, ◌∙◌, sym}
use Rattle.gq_kept.proofs.BesideLemmas.{differs_at}
use Rattle.gq_kept.proofs.beside.Beside.only.Goals as goal

pub returns-then-len-eq1 : goal.returns-then-len-eq1
returns-then-len-eq1 c es us differs =
    let count : vec_len c.args.self.now.numbers ≡ length c.args.self.now.numbers.items = search rules in
    differs_at es us c.args.self.now c.index.result.now c.if-self.true (sym count ∙ sym c.len.ensures ∙ c.if-len-eq1.true) c.index.ensures differs
