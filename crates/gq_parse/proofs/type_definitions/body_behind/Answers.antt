use Rattle.gq_parse.proofs.type_definitions.body_behind.Goals as goal

pub returns-in-Scalar-clause-none : goal.returns-in-Scalar-clause-none
returns-in-Scalar-clause-none c = rw (c.in-Scalar.is) c.scalar.ensures.none

pub returns-in-Object-clause-none : goal.returns-in-Object-clause-none
returns-in-Object-clause-none c = rw (c.in-Object.is) c.object.ensures.none

pub returns-in-Interface-clause-none : goal.returns-in-Interface-clause-none
returns-in-Interface-clause-none c = rw (c.in-Interface.is) c.interface.ensures.none

pub returns-in-Union-clause-none : goal.returns-in-Union-clause-none
returns-in-Union-clause-none c = rw (c.in-Union.is) c.union_type.ensures.none

pub returns-in-Enum-clause-none : goal.returns-in-Enum-clause-none
returns-in-Enum-clause-none c = rw (c.in-Enum.is) c.enum_type.ensures.none

pub returns-in-InputObject-clause-none : goal.returns-in-InputObject-clause-none
returns-in-InputObject-clause-none c = rw (c.in-InputObject.is) c.input_object.ensures.none
