use Rattle.gq_tree.specs.Readings.{readings_view}
use Rattle.gq_known.specs.Known.{IsKnown}
use Rattle.gq_rules.proofs.known.demanded_known.Goals as goal

pub returns : goal.returns
returns c = λ (k : IsKnown c.args.known). record {
  readings = readings_view c.args.known.readings.now;
  are_readings = k.are_readings;
  sorted = c.in_order.ensures.sorted;
  exact = λ fault. (
    (λ x. (c.in_ok-faults.ensures k fault).0 ((c.in_order.ensures.same fault).0 x)),
    (λ y. (c.in_order.ensures.same fault).1 ((c.in_ok-faults.ensures k fault).1 y)),
  );
}
