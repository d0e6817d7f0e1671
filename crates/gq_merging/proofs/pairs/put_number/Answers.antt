use Rattle.std.proofs.Common.{rules, ◌≡◌, ◌+◌, ◌*◌, ◌<◌, ◌∙◌, sym}
use Rattle.gq_merging.specs.Helping.PairTables.{IsNumber}
use Rattle.gq_merging.proofs.LookLemmas.{gains_number}
use Rattle.gq_merging.proofs.PairNumbers.{is_number}
use Rattle.gq_merging.proofs.pairs.put_number.Goals as goal

pub returns-in_ok-insert : goal.returns-in_ok-insert
returns-in_ok-insert c =
    let first : c.in-Some.first ≡ c.args.left * c.args.count = search rules in
    let number : c.in-Some-checked_add.number ≡ c.in-Some.first + c.args.right = search rules in
    let below : c.in-Some-checked_add.number < c.args.size = search rules in
    let is = is_number c.args.count c.args.size c.args.left c.args.right c.in-Some.first c.in-Some-checked_add.number first number below in
    gains_number (IsNumber c.args.count c.args.size c.args.left c.args.right) c.args.found.now.keys c.insert.new.self.keys c.in-Some-checked_add.number is
    (λ n h. h.is ∙ sym is.is) c.in_ok-insert.ensures.keys
