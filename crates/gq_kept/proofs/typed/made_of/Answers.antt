use Rattle.gq_kept.proofs.typed.made_of.Goals as goal

pub returns : goal.returns
returns c = record { is_type_system = c.in_ok-types.ensures; sound = c.in_ok-has_schema.ensures.0; faulty = c.in_ok-has_schema.ensures.1 }
