use Rattle.std.proofs.Common.{◌≡◌, ap, sym, ◌∙◌, subst, []}
use Rattle.gq_meaning.specs.Response.{Responds}
use Rattle.gq_meaning.specs.Selected.{set_of}
use Rattle.gq_meaning.specs.Views.{set_in}
use Rattle.gq_document.specs.Definitions.{operation_view}
use Rattle.gq_collect.specs.World.{given_by, definitions_in}
use Rattle.gq_response.specs.Views.{errors_view, data_view}
use Rattle.gq_response.specs.declared.data.Data.TheVariants as variant
use Rattle.gq_response.proofs.Trees.{view_null}
use Rattle.gq_executor.proofs.Roots.{no_root, from_answer}
use Rattle.gq_executor.proofs.execute.respond_at.Goals as goal

pub returns-then-not-is_root : goal.returns-then-not-is_root
returns-then-not-is_root c =
    let set = set_of (operation_view c.args.operation.now).set in
    subst (λ z. Responds (given_by c.args.world) (definitions_in c.args.world) c.args.root.now set (data_view variant.Null) z) (sym (ap errors_view c.new-errors.ensures.items))
    (subst (λ z. Responds (given_by c.args.world) (definitions_in c.args.world) c.args.root.now set z []) (sym view_null)
    (no_root (given_by c.args.world) (definitions_in c.args.world) c.args.root.now set (sym c.is_root.ensures ∙ c.if-not-is_root.true)))

pub returns : goal.returns
returns c =
    from_answer c.args.world c.args.root.now (set_of (operation_view c.args.operation.now).set) (data_view c.in_ok-data.data) _ _ (sym c.is_root.ensures ∙ c.if-not-is_root.false) (ap errors_view c.new-errors.ensures.items)
    (rw c.deref.ensures.value at c.in_ok-data.ensures)
