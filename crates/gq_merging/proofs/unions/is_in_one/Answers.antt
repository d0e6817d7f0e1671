use Rattle.std.proofs.Common.{rules, ◌<◌, length}
use Rattle.gq_merging.proofs.unions.is_in_one.Goals as goal

pub returns : goal.returns
returns c = λ t.
    let within : c.class_of-one.result < length c.args.numbers.now = search rules in
    record { class = c.class_of-one.result; within = within; each = c.are_in_class.ensures t }
