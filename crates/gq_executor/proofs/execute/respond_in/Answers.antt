use Rattle.std.proofs.Common.{◌≡◌, ap, sym, ◌∙◌, subst, []}
use Rattle.std.specs.Prelude.{IfOk, unwrap_or}
use Rattle.gq_types.specs.Look.{text_of}
use Rattle.gq_types.specs.Roots.{root_of}
use Rattle.gq_meaning.specs.Selected.{set_of}
use Rattle.gq_document.specs.Definitions.{operation_view}
use Rattle.gq_collect.specs.World.{given_by, definitions_in}
use Rattle.gq_executor.specs.Operations.{IsAnsweredBy}
use Rattle.gq_response.specs.Views.{response_view}
use Rattle.gq_executor.proofs.execute.respond_in.Goals as goal

pub returns-in-None : goal.returns-in-None
returns-in-None c =
    let o = operation_view c.args.operation.now in
    subst (λ z. IfOk c.respond_at.result (λ r. IsAnsweredBy (given_by c.args.world) (definitions_in c.args.world) z (set_of o.set) (response_view r)))
    (sym (ap (λ z. unwrap_or z []) (ap (λ es. root_of es o.kind) (sym c.types.ensures) ∙ sym c.root.ensures ∙ ap text_of c.in-None.is))) c.respond_at.ensures

pub returns-in-Some : goal.returns-in-Some
returns-in-Some c =
    let o = operation_view c.args.operation.now in
    subst (λ z. IfOk c.respond_at-in-Some.result (λ r. IsAnsweredBy (given_by c.args.world) (definitions_in c.args.world) z (set_of o.set) (response_view r)))
    (sym (ap (λ z. unwrap_or z []) (ap (λ es. root_of es o.kind) (sym c.types.ensures) ∙ sym c.root.ensures ∙ ap text_of c.in-Some.is))) c.respond_at-in-Some.ensures
