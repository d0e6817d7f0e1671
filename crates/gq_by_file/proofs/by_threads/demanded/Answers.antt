-- They are put in order.
use Rattle.gq_tree.specs.Readings.{unshared_view}
use Rattle.gq_by_file.proofs.by_threads.demanded.Goals as goal

pub returns : goal.returns
returns g c = record {
  readings = (unshared_view c.in_ok-readings.readings.items);
  are_readings = c.in_ok-readings.ensures;
  sorted = c.put_in_order.ensures.sorted;
  exact = λ fault.
      (λ x. (c.in_ok-faults.ensures fault).0 ((c.put_in_order.ensures.same fault).0 x), λ y. (c.put_in_order.ensures.same fault).1 ((c.in_ok-faults.ensures fault).1 y));
}
