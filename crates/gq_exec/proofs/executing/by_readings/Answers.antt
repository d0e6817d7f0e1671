use Rattle.gq_exec.proofs.executing.by_readings.Goals as goal

pub respond_in-requires : goal.respond_in-requires
respond_in-requires c =
    rw (c.deref.ensures.value, c.deref-2.ensures.value, c.in_ok-definitions.ensures.operations, c.in_ok-definitions.ensures.fragments) c.requires
