use Rattle.std.proofs.Common.{rules, ◌≡◌, ◌+◌, [], length, sym, subst}
use Rattle.std.proofs.lemmas.List.{nil_from_length}
use Rattle.gq_merging.specs.Helping.PairTables.{IsStart, Gains}
use Rattle.gq_merging.proofs.LookLemmas.{no_start, start_passed, start_stays}
use Rattle.gq_merging.proofs.pairs.starts.Goals as goal
use Rattle.gq_merging.proofs.pairs.starts.Goals.{then-not-is_passed+in_ok-put_number, else-not-is_passed}

pub loop-number-init : goal.loop-number-init
loop-number-init c =
    subst (λ ns. Gains (IsStart c.args.passed.now (length c.args.passed.now) c.args.size 0) [] ns) (sym (nil_from_length c.new-found.result.keys c.new-found.ensures.len))
    (no_start c.args.passed.now (length c.args.passed.now) c.args.size)

pub loop-number-preserved : goal.loop-number-preserved
loop-number-preserved c = elim c.if-not-is_passed.branch [
  | then-not-is_passed+in_ok-put_number w ↦
      subst (λ f. Gains (IsStart c.args.passed.now (length c.args.passed.now) c.args.size (c.loop-number.number + 1)) [] f.keys) (sym w.found-is)
      (start_stays c.args.passed.now (length c.args.passed.now) c.args.size c.loop-number.number c.loop-number.found.keys w.put_number.new.found.keys (search rules)
      c.loop-number.invariant w.in_ok-put_number.ensures)
  | else-not-is_passed w ↦
      subst (λ f. Gains (IsStart c.args.passed.now (length c.args.passed.now) c.args.size (c.loop-number.number + 1)) [] f.keys) (sym w.found-is)
      (start_passed c.args.passed.now (length c.args.passed.now) c.args.size c.loop-number.number c.loop-number.found.keys (search rules) c.loop-number.invariant)
]

pub returns : goal.returns
returns c =
    let all : c.loop-number.number ≡ length c.args.passed.now = search rules in
    subst (λ n. Gains (IsStart c.args.passed.now (length c.args.passed.now) c.args.size n) [] c.loop-number.found.keys) all c.loop-number.invariant
