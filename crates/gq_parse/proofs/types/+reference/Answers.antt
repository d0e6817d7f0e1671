use Rattle.gq_parse.specs.Grammar.{nullable}
use Rattle.gq_parse.proofs.MadeParts.{type_named, type_list, type_non_null, item_not_closed}
use Rattle.gq_parse.proofs.types.+reference.Goals as goal

pub nullable_type-returns-in_default-clause-none : goal.nullable_type-returns-in_default-clause-none
nullable_type-returns-in_default-clause-none t c = λ e. item_not_closed c.in-Some.ensures.found c.in_ok-item-in-Some.ensures.found c.in_default.ensures.none

pub nullable_type-returns-in_ok-item-in-Some-2-clause-found : goal.nullable_type-returns-in_ok-item-in-Some-2-clause-found
nullable_type-returns-in_ok-item-in-Some-2-clause-found t c = type_list _ _ c.in_ok-item-in-Some-2.ensures.ok c.in-Some.ensures.found c.in_ok-item-in-Some.ensures.found c.in-Some-punctuator.ensures.found

pub nullable_type-returns-in_ok-name-in-None-clause-found : goal.nullable_type-returns-in_ok-name-in-None-clause-found
nullable_type-returns-in_ok-name-in-None-clause-found t c = type_named _ c.in_ok-name-in-None.ensures.found

pub type_ref-returns-in_ok-inner-in-Some-clause-found : goal.type_ref-returns-in_ok-inner-in-Some-clause-found
type_ref-returns-in_ok-inner-in-Some-clause-found t c = type_non_null _ _ c.in_ok-inner-in-Some.ensures.ok c.in_ok-inner.ensures.found c.in-Some.ensures.found

pub type_ref-returns-in-None-clause-found : goal.type_ref-returns-in-None-clause-found
type_ref-returns-in-None-clause-found t c = nullable c.in_ok-inner.ensures.found c.in-None.ensures.none
