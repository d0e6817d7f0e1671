use Rattle.gq_type_system.proofs.faults.schema_faults.Goals as goal

pub returns-clause-exact : goal.returns-clause-exact
returns-clause-exact c = λ fault.
    (λ x. (c.in_ok-faults.ensures fault).0 ((c.put_in_order.ensures.same fault).0 x), λ y. (c.put_in_order.ensures.same fault).1 ((c.in_ok-faults.ensures fault).1 y))
