use Rattle.std.proofs.Common.{◌<◌, length, map, List, get_or, subst, arith}
use Rattle.std.proofs.lemmas.Result.{IfOk-weaker}
use Rattle.gq_tree.specs.Views.{variable_view}
use Rattle.gq_tree.specs.declared.tree.VariableDefinition.{VariableDefinition}
use Rattle.gq_document.specs.Definitions.{operation_view}
use Rattle.gq_document.specs.declared.definitions.OperationEntry.{OperationEntry}
use Rattle.gq_variables.specs.Helping.Alike.{AreAsBefore}
use Rattle.gq_variables.proofs.FaultLemmas.{operation_at}
use Rattle.gq_variables.proofs.faults.is_like.Goals as goal

pub returns : goal.returns
returns c =
    let operations : List OperationEntry = c.args.operations.now in
    let names = c.args.names.now in
    let before = c.args.before in
    let earlier : OperationEntry = get_or operations before c.index-operations-before.result in
    let now : OperationEntry = get_or operations c.args.number c.index-operations-number.result in
    let inside : before < length (map operation_view operations) = omega (arith, c.requires.before, c.requires.number) in
    IfOk-weaker c.are_as_before.result _ _
    (λ alike holds like. record {
      before = before;
      is_before = c.requires.before;
      same = c.spread_the_same.ensures c.if-not-spread_the_same.false;
      earlier = operation_view earlier;
      at_before = operation_at operations before c.index-operations-before.result inside;
      now = operation_view now;
      at = operation_at operations c.args.number c.index-operations-number.result c.requires.number;
      alike = subst (λ (vs : List VariableDefinition). AreAsBefore names (map variable_view vs) (map variable_view now.definition.now.variables.items)) c.deref.ensures.value
          (subst (λ (vs : List VariableDefinition). AreAsBefore names (map variable_view c.deref.result.now) (map variable_view vs)) c.deref-2.ensures.value (holds like));
    })
    c.are_as_before.ensures
