use Rattle.std.proofs.Common.{◌<◌, ◌-◌, length, List, sym, ◌∙◌, arith}
use Rattle.std.specs.Borrow.{Bor}
use Rattle.gq_text.specs.declared.place.Span.{Span}
use Rattle.gq_tree.specs.Plain.{VariableOf}
use Rattle.gq_tree.specs.Views.{variable_view}
use Rattle.gq_tree.specs.declared.tree.VariableDefinition.{VariableDefinition}
use Rattle.gq_types.specs.Look.{types_view}
use Rattle.gq_types.proofs.Gathered.{to_map}
use Rattle.gq_variables.specs.Helping.Views.{variables_view}
use Rattle.gq_variables.proofs.AgainLemmas.{some_there, two_add_nothing}
use Rattle.gq_variables.proofs.again.are_of_two_types.Goals as goal

pub returns : goal.returns
returns c = λ two v.
    let known : List (Bor VariableDefinition) = c.args.known.now in
    let view : Bor VariableDefinition → VariableOf Span = λ b. variable_view b.now in
    let some : 0 < length known = some_there (length known) (sym c.is_empty.ensures ∙ c.if-is_empty.false) in
    let last : length known - 1 < length known = omega (arith, some) in
    two_add_nothing (types_view c.args.types.now) (view c.index-known-0.result) (view c.index-known-last.result) (sym c.name_two_types.ensures ∙ two)
    (variables_view known) (to_map view known c.index-known-0.result (0, some, sym c.index-known-0.is)) (to_map view known c.index-known-last.result (length known - 1, last, sym c.index-known-last.is)) v
