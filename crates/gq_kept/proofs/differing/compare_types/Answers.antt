use Rattle.gq_kept.specs.Helping.Texts.{texts_at}
use Rattle.gq_kept.proofs.ComparedLemmas.{compared_more, all_compared}
use Rattle.gq_kept.proofs.GatheredLemmas.{gathered_more, all_gathered}
use Rattle.gq_kept.proofs.differing.compare_types.Goals as goal

pub loop-i-preserved : goal.loop-i-preserved
loop-i-preserved c = record {
  names = gathered_more c.args.types.now c.args.others.now c.loop-i.i c.index-types-i.result c.index-others-i.result c.deref.result.now c.deref-in-loop-i.result.now
      (texts_at c.loop-i.found.names.items) (texts_at c.compare.new.self.names.items) c.loop-i-test.true c.if-types-others.false c.index-types-i.is c.index-others-i.is
      c.deref.ensures c.deref-in-loop-i.ensures (c.in_ok-compare.ensures.names c.if-not-branch.false) c.loop-i.invariant.names;
  objects = λ are.
      (let compared = c.in_ok-compare.ensures.objects c.if-not-branch.false are in
      compared_more c.args.types.now c.args.others.now c.loop-i.i c.index-types-i.result c.index-others-i.result c.deref.result.now c.deref-in-loop-i.result.now
      c.loop-i.found.numbers.items c.compare.new.self.numbers.items c.loop-i-test.true c.if-types-others.false c.index-types-i.is c.index-others-i.is
      c.deref.ensures c.deref-in-loop-i.ensures compared.1 (c.loop-i.invariant.objects compared.0));
}

pub returns : goal.returns
returns c = record {
  names = all_gathered c.args.types.now c.args.others.now c.loop-i.i (texts_at c.loop-i.found.names.items) c.loop-i-test.false c.if-types-others.false c.loop-i.invariant.names;
  objects = λ are. all_compared c.args.types.now c.args.others.now c.loop-i.i c.loop-i.found.numbers.items c.loop-i-test.false c.if-types-others.false (c.loop-i.invariant.objects are);
}
