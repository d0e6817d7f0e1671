-- Where nothing is told by then, all that is wrong is put; else what is wrong with the type system.
use Rattle.std.proofs.Common.{ap, length, arith}
use Rattle.std.proofs.lemmas.Bool.Decides.{nat_tests}
use Rattle.std.proofs.lemmas.List.{nil_from_length}
use Rattle.gq_by_file.proofs.by_threads.add_wrong_over.Goals as goal

pub returns-then-is_empty : goal.returns-then-is_empty
returns-then-is_empty g c is = record {
  added = c.in_ok-wrong.wrong.items;
  is = c.in_ok-append.ensures.items;
  alone = λ _. c.in_ok-wrong.ensures is;
  behind = λ some. absurd (some (nil_from_length c.args.faults.now.items (grind (arith, nat_tests))));
}

pub returns : goal.returns
returns g c is = record {
  added = c.in_ok-wrong-2.wrong.items;
  is = c.in_ok-append-2.ensures.items;
  alone = λ none. absurd (let l = ap length none in grind (arith, nat_tests));
  behind = λ _. c.in_ok-wrong-2.ensures.exact;
}
